use Rattle.std.proofs.Common.{◌≡◌, ◌∙◌, ◌≤◌, false, inl, inr, Option, ap, arith, is_some, not, subst, sym}
use Rattle.roster_rules.specs.declared.fault.HardFault.{HardFault}
use Rattle.std.proofs.lemmas.Bool.{true≢false}
use Rattle.roster_instance.specs.Rosters.{Rows}
use Rattle.roster_rules.specs.HardRules.{keeps_hard}
use Rattle.roster_laws.specs.FrozenDays.{FrozenDaysStay}
use Rattle.roster_costs.specs.Minimums.{missing}
use Rattle.roster_polish.proofs.Fading.{made_both}
use Rattle.roster_polish.proofs.FadeRows.{kept_is_none}
use Rattle.roster_polish.proofs.Keeping.{same_days}
use Rattle.roster_polish.proofs.Steps.{spent_both}
use Rattle.roster_polish.proofs.plan.find_roster.Goals as goal

pub put_rows-requires : goal.put_rows-requires
put_rows-requires g c = same_days c.args.case.now c.fade_until_kept.new.space.kept c.args.roster.now c.fade_until_kept.ensures.fits.kept c.requires.roster

-- at most as many searches are left as were given
pub left_of-searches-requires : goal.left_of-searches-requires
left_of-searches-requires g c =
    let fewer : c.begin_plan-kicking.result.searches.left ≤ c.args.course.now.searches = c.begin_plan-kicking.ensures.spends.fewer in
    omega (arith, fewer, c.fade_until_kept.ensures.spends.fewer)

pub returns-clause-planned : goal.returns-clause-planned
returns-clause-planned g c =
    let k = c.args.case.now in
    let given = c.args.roster.now in
    let is : c.put_rows.new.self ≡ c.fade_until_kept.new.space.kept = c.put_rows.ensures in
    record {
      kept = λ keeps. absurd (true≢false (sym (ap not c.if-is_none.false) ∙ sym c.is_none.ensures ∙ ap (λ (o : Option HardFault). is_some o) (c.first_hard.ensures ∙ kept_is_none k given keeps)));
      nearer = λ breaks rows. subst (λ (r : Rows). missing k r ≤ missing k given) (sym is) (c.fade_until_kept.ensures.nearer (subst (λ (r : Rows). keeps_hard k r ≡ false) is breaks) rows);
      stays = subst (FrozenDaysStay k c.args.course.now.from given) (sym is) c.fade_until_kept.ensures.frozen;
    }

pub returns-clause-given_up : goal.returns-clause-given_up
returns-clause-given_up g c breaks =
    elim (c.fade_until_kept.ensures.given_up (subst (λ (r : Rows). keeps_hard c.args.case.now r ≡ false) c.put_rows.ensures breaks)) [
      | inl none ↦ inl (c.left_of-searches.ensures ∙ none)
      | inr up ↦ inr up
    ]

pub returns-clause-made : goal.returns-clause-made
returns-clause-made g c =
    let k = c.args.case.now in
    let first = c.begin_plan-kicking in
    let last = c.fade_until_kept in
    rw c.left_of-searches.ensures (made_both k c.args.meter.now c.args.course.now.searches first.new.meter first.result.searches.left last.new.meter last.new.kicking.searches.left first.ensures.made last.ensures.made)

pub returns-clause-spends : goal.returns-clause-spends
returns-clause-spends g c =
    let k = c.args.case.now in
    let first = c.begin_plan-kicking in
    let last = c.fade_until_kept in
    rw c.left_of-searches.ensures (spent_both k c.args.meter.now c.args.course.now.searches first.new.meter first.result.searches.left last.new.meter last.new.kicking.searches.left first.ensures.spends last.ensures.spends)
