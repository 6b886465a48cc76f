-- A line is a lower bound for all offers of the day.
use Rattle.std.proofs.Common.{◌≡◌, ◌+◌, ◌*◌, ◌<◌, ◌≤◌, ℕ, List, Option, None, Some, ap, arith, false, min, slice_index_or, subst, true}
use Rattle.roster_instance.specs.declared.choice.Shift.{Shift}
use Rattle.roster_instance.specs.Meaning.{run_of_shift}
use Rattle.roster_instance.specs.RunLaw.{day_violations}
use Rattle.roster_instance.specs.Sizes.{cap}
use Rattle.roster_rules.specs.Weights.{shift_run_weight}
use Rattle.roster_state.specs.Codes.{shift_digit}
use Rattle.roster_state.specs.CompletionLines.{IsUnderLeave, IsUnderStay, longer}
use Rattle.roster_completion.specs.declared.completion_day.CompletionDay.{CompletionDay}
use Rattle.roster_state.specs.declared.line.LineCosts.{LineCosts}
use Rattle.roster_completion.specs.declared.shift.AfterShift.{AfterShift}
use Rattle.roster_completion.specs.Lines.{IsAfterShift, IsUnder, IsUnderWays, UnderLine, line_index, next_at, offer_on, state_of, work_ends, work_goes_on}
use Rattle.roster_completion.proofs.After.{under_shift}
use Rattle.roster_completion.proofs.Indices.{cap_within, of_day}

-- a shift by its number
same_shift : (t : Shift) (last : Option Shift) → shift_digit last ≡ t.0 + 1 → Some t ≡ last
same_shift t None e = absurd (omega (arith, e))
same_shift t (Some u) e = let is : t.0 ≡ u.0 = omega (arith, e) in ap (λ m. Some (record { 0 = m })) is

module _ (day : CompletionDay) (after : AfterShift) (follows : IsAfterShift day after) (run : ℕ) (costs : LineCosts) (run_is : costs.run ≡ run_of_shift day.case.now after.last.0) (weight_is : costs.weight ≡ day.scale * shift_run_weight)
    (off : costs.leave ≤ after.off + work_ends day run) (ways : IsUnderWays day after run costs.leave) (stay : costs.stay ≡ after.ways.stay + work_goes_on day run) where
  abbrev first : ℕ
  first = line_index day (after.last.0 + 1) (longer run day.rules.working)

  pub line_under : (line here : List ℕ) → ((q : ℕ) → q < day.shift_runs → IsUnderLeave costs q (slice_index_or here q 0))
      → ((q : ℕ) → q < day.shift_runs → IsUnderStay costs line q (slice_index_or here q 0)) → ((q : ℕ) → q < day.shift_runs → slice_index_or line q 0 ≡ next_at day (first + q))
      → UnderLine day (after.last.0 + 1) run here
  line_under line here leaves stays line_is q l last a w is k m =
      let offer = offer_on day k in
      let of_case = of_day day k m in
      let limit = ap cap run_is in
      let cell = line_is (longer q costs.run) (omega (arith, cap_within day after.last follows.in_case, limit)) in
      let to_cell = ap (λ m. next_at day (first + min (q + 1) m)) limit in
      let missed : costs.weight * day_violations costs.run q false ≡ day.scale * shift_run_weight * day_violations (run_of_shift day.case.now after.last.0) q false = λ i. weight_is i * day_violations (run_is i) q false in
      let more : costs.weight * day_violations costs.run q true ≡ day.scale * shift_run_weight * day_violations (run_of_shift day.case.now after.last.0) q true = λ i. weight_is i * day_violations (run_is i) q true in
      subst (λ (t : Option Shift). IsUnder day (state_of t run q a w) (slice_index_or here q 0) offer) (same_shift after.last last is)
      (under_shift day run q a w offer.price after follows costs.leave (slice_index_or here q 0) off ways (omega (arith, leaves q l, missed)) (omega (arith, stays q l, stay, more, cell, to_cell)) offer.choice of_case.choice (follows.ways.each k m))
