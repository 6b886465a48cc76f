use Rattle.std.proofs.Common.{◌≡◌, ◌+◌, ◌*◌, ◌<◌, ◌≤◌, ◌∙◌, ℕ, List, ap, arith, length, refl, slice_index_or, subst, sym, take}
use Rattle.std.proofs.lemmas.List.{length-set}
use Rattle.roster_rules.specs.Covers.{AreCovers}
use Rattle.roster_instance.specs.Meaning.{nurse_count}
use Rattle.roster_instance.specs.Rosters.{choice_on, row_of}
use Rattle.roster_costs.proofs.CoverLemmas.{counted_off, counted_work, few_more, none_counted}
use Rattle.roster_instance.proofs.RosterFacts.{has_row, works-of_case}
use Rattle.roster_costs.proofs.staffing.covers.Goals as goal
use Rattle.roster_costs.proofs.staffing.covers.Goals.{in-Work, in_default}

pub loop-nurse-init : goal.loop-nurse-init
loop-nurse-init c = record {
  counted = λ s k s_in k_in. none_counted (8 * s + k) (omega (arith, s_in, k_in));
  sized = refl;
  few = λ i h. omega (arith, none_counted i h);
}

pub loop-nurse-preserved : goal.loop-nurse-preserved
loop-nurse-preserved c =
    let r = c.args.roster.now in
    let day = c.args.day in
    let n = c.loop-nurse.nurse in
    let counts = c.loop-nurse.counts in
    let counted = c.loop-nurse.invariant.counted in
    let sized = c.loop-nurse.invariant.sized in
    let few = c.loop-nurse.invariant.few in
    let within : n < nurse_count c.args.case.now = omega arith in
    let inside : n < length r = has_row c.args.case.now r n c.requires.fitting within in
    let row_is : choice_on (row_of r n) day ≡ c.choice_on.result = sym (c.choice_on.ensures ∙ ap (λ row. choice_on row day) c.row.ensures) in
    elim c.match-choice_on.branch [
      | in-Work w ↦
          let works = works-of_case c.args.case.now r n c.requires.fitting within day w.in-Work.shift w.in-Work.skill (row_is ∙ w.in-Work.is) in
          record {
            counted = subst (AreCovers (take (n + 1) r) day) (sym w.counts-is)
                (counted_work r day n inside c.row.result.now c.choice_on.result c.row.ensures c.choice_on.ensures counts counted w.in-Work.shift w.in-Work.skill w.in-Work.is (omega (arith, works.0, c.requires.shifts)) (omega (arith, works.1, c.requires.skills)) w.slot.result w.slot.ensures.slot sized);
            sized = ap length w.counts-is ∙ length-set counts w.slot.result (slice_index_or counts w.slot.result 0 + 1) ∙ sized;
            few = subst (λ (own : List ℕ). (i : ℕ) → i < 64 → slice_index_or own i 0 ≤ n + 1) (sym w.counts-is) (few_more counts n w.slot.result (omega (arith, sized, w.slot.ensures.within)) few sized);
          }
      | in_default w ↦ record {
        counted = subst (AreCovers (take (n + 1) r) day) (sym w.counts-is)
            (counted_off r day n inside c.row.result.now c.choice_on.result c.row.ensures c.choice_on.ensures counts counted w.in_default.is);
        sized = ap length w.counts-is ∙ sized;
        few = λ i h. omega (arith, ap (λ (own : List ℕ). slice_index_or own i 0) w.counts-is, few i h);
      }
    ]
