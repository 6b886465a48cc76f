use Rattle.std.proofs.Common.{◌≡◌, ◌∙◌, ◌<◌, ap, arith, sym, length, nat_lt}
use Rattle.std.proofs.lemmas.Bool.{and_parts, ltb-true}
use Rattle.roster_instance.specs.declared.rules.Need.{Need}
use Rattle.roster_instance.specs.Meaning.{Meaning, minimum, optimum, shift_count, skill_count}
use Rattle.roster_instance.specs.Rosters.{is_choice_of}
use Rattle.roster_instance.proofs.RosterFacts.{has_row}
use Rattle.roster_row.proofs.OfferLemmas.{shortfall_of_off, shortfall_of_work, none_missed}
use Rattle.roster_row.proofs.offer.shortfall_without_choice.Goals as goal

pub returns-in-Off : goal.returns-in-Off
returns-in-Off c =
    let k = c.args.held.now.case in
    let r = c.args.held.now.roster in
    let n = c.args.nurse in
    let d = c.args.day in
    let within : n < length r = has_row k r n c.keeps_rules.ensures.fits c.requires.nurse in
    let missed = none_missed k r n d c.keeps_rules.ensures.fits c.keeps_rules.ensures.keeps c.requires.nurse c.requires.day in
    record {
      minimum = shortfall_of_off k r n d within c.args.own c.requires.own (minimum k d) 0 c.in-Off.is missed;
      optimum = shortfall_of_off k r n d within c.args.own c.requires.own (optimum k d) c.shortfall-all.result c.in-Off.is c.shortfall-all.ensures.shortfall;
      within = omega (arith, c.shortfall-all.ensures.within);
    }

pub returns-in-Work : goal.returns-in-Work
returns-in-Work c =
    let k = c.args.held.now.case in
    let r = c.args.held.now.roster in
    let n = c.args.nurse in
    let d = c.args.day in
    let shift = c.in-Work.shift in
    let skill = c.in-Work.skill in
    let have = c.others-others.result in
    let have_is = c.others-others.ensures in
    let need = c.need-need.result in
    let within : n < length r = has_row k r n c.keeps_rules.ensures.fits c.requires.nurse in
    let missed = none_missed k r n d c.keeps_rules.ensures.fits c.keeps_rules.ensures.keeps c.requires.nurse c.requires.day in
    let parts = and_parts (nat_lt shift.0 (shift_count k)) (nat_lt skill.0 (skill_count k)) (ap (is_choice_of k) (sym c.in-Work.is) ∙ c.requires.choice) in
    let shift_in : shift.0 < shift_count k = ltb-true shift.0 (shift_count k) parts.0 in
    let skill_in : skill.0 < skill_count k = ltb-true skill.0 (skill_count k) parts.1 in
    let least : need.minimum ≡ minimum k d shift.0 skill.0 = ap (λ (n : Need). n.minimum) c.need-need.ensures.limits ∙ ap (λ (m : Meaning). minimum m d shift.0 skill.0) c.case.ensures in
    let greatest : need.optimum ≡ optimum k d shift.0 skill.0 = ap (λ (n : Need). n.optimum) c.need-need.ensures.limits ∙ ap (λ (m : Meaning). optimum m d shift.0 skill.0) c.case.ensures in
    record {
      minimum = omega (arith, c.one_where_fewer-minimum.ensures.one, shortfall_of_work k r n d within c.args.own c.requires.own (minimum k d) 0 shift skill c.in-Work.is shift_in skill_in have need.minimum have_is least missed);
      optimum = omega (arith, c.one_where_fewer.ensures.one, shortfall_of_work k r n d within c.args.own c.requires.own (optimum k d) c.shortfall-all.result shift skill c.in-Work.is shift_in skill_in have need.optimum have_is greatest c.shortfall-all.ensures.shortfall);
      within = omega (arith, c.shortfall-all.ensures.within, c.one_where_fewer.ensures.within);
    }
