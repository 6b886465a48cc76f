use Rattle.std.proofs.Common.{◌∙◌, ap}
use Rattle.roster_instance.specs.declared.rules.Need.{Need}
use Rattle.roster_instance.specs.Meaning.{Meaning, minimum, optimum}
use Rattle.roster_row.proofs.OfferLemmas.{shortfall_one_less}
use Rattle.roster_row.proofs.offer.shortfall_with.Goals as goal

pub returns-clause-minimum : goal.returns-clause-minimum
returns-clause-minimum c =
    let wanted = ap (λ (n : Need). n.minimum) c.need-need.ensures.limits ∙ ap (λ (m : Meaning). minimum m c.args.day c.args.shift.0 c.args.skill.0) c.case.ensures in
    shortfall_one_less c.args.held.now.case c.args.held.now.roster c.args.nurse c.args.day (minimum c.args.held.now.case c.args.day) c.args.shift c.args.skill c.requires.shift c.requires.skill
    c.with_one_more-minimum.result c.args.without.minimum c.others-others.result c.need-need.result.minimum c.with_one_more-minimum.ensures c.requires.minimum c.others-others.ensures wanted

pub returns-clause-optimum : goal.returns-clause-optimum
returns-clause-optimum c =
    let wanted = ap (λ (n : Need). n.optimum) c.need-need.ensures.limits ∙ ap (λ (m : Meaning). optimum m c.args.day c.args.shift.0 c.args.skill.0) c.case.ensures in
    shortfall_one_less c.args.held.now.case c.args.held.now.roster c.args.nurse c.args.day (optimum c.args.held.now.case c.args.day) c.args.shift c.args.skill c.requires.shift c.requires.skill
    c.with_one_more-optimum.result c.args.without.optimum c.others-others.result c.need-need.result.optimum c.with_one_more-optimum.ensures c.requires.optimum c.others-others.ensures wanted
