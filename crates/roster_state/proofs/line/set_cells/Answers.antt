use Rattle.std.proofs.lemmas.List.{length-set}
use Rattle.std.proofs.lemmas.Nat.{mul-le}
use Rattle.std.proofs.Common.{ℕ, ◌≡◌, ◌+◌, ◌*◌, ◌≤◌, ◌<◌, ap, arith, false, length, lt-ltb, min, slice_index_or, true}
use Rattle.roster_instance.specs.Counting.{one_if}
use Rattle.roster_instance.specs.RunLaw.{day_violations}
use Rattle.roster_instance.specs.Sizes.{cap}
use Rattle.roster_state.specs.CompletionLines.{IsLesser, IsUnderStay}
use Rattle.roster_state.proofs.CompletionLines.{cell_more, missed_from}
use Rattle.roster_state.proofs.line.set_cells.Goals as goal
use Rattle.roster_state.proofs.line.set_cells.Goals.{then-count-cap, else-count-cap}

-- what a run misses, and an extra day, in parts of a point
pub overflow_mul-missing : goal.overflow_mul-missing
overflow_mul-missing c = omega (arith, mul-le c.args.costs.weight c.saturating_sub.result 1920 65535 c.requires.weight (omega (arith, c.saturating_sub.ensures)))

pub overflow_mul-extra : goal.overflow_mul-extra
overflow_mul-extra c = omega (arith, mul-le c.args.costs.weight c.day_violations.result 1920 65536 c.requires.weight c.day_violations.ensures.within)

pub open-preserved : goal.open-preserved
open-preserved c =
    let run = c.args.costs.run in
    let place = c.open.place in
    let within : place < cap run = omega (arith, c.open-test.true, c.min-open.ensures, c.cap-cap.ensures) in
    let inside : place < length c.open.here = omega (arith, within, c.requires.capped, c.open.auto.here, length-set {A = ℕ}) in
    let to : place + 1 ≡ min (place + 1) (cap run) = omega (arith, within) in
    let after = ap (λ k. slice_index_or c.args.after.now k 0) to in
    let weight = c.args.costs.weight in
    let missed = ap (λ k. weight * k) (missed_from run place c.saturating_sub.result (omega (arith, c.open.auto.place)) c.saturating_sub.ensures) in
    let extra = ap (λ k. weight * k) c.day_violations.ensures.violations in
    let most = mul-le weight c.saturating_sub.result weight 65536 (omega arith) (omega (arith, c.saturating_sub.ensures)) in
    cell_more c.args.costs c.args.after.now place c.open.here c.min.result inside c.open.invariant
    (omega (arith, c.min.ensures, missed))
    (omega (arith, c.min.ensures, after, extra))
    (λ _ _. omega (arith, c.min.ensures, missed, after, extra))
    (omega (arith, c.min.ensures, c.requires.leave, most))

pub full-preserved : goal.full-preserved
full-preserved c =
    let run = c.args.costs.run in
    let place = c.full.place in
    let leave = c.args.costs.leave in
    let after = c.args.after.now in
    let completion_bound = c.if-count-cap.completion_bound in
    let leaves : completion_bound ≤ leave = elim c.if-count-cap.branch [
      | then-count-cap w ↦ omega (arith, w.completion_bound-is)
      | else-count-cap w ↦ omega (arith, w.completion_bound-is, w.min-completion_bound.ensures)
    ] in
    let stays : IsUnderStay c.args.costs after place completion_bound = elim c.if-count-cap.branch [
      | then-count-cap w ↦ omega (arith, w.completion_bound-is)
      | else-count-cap w ↦
          let from : cap run ≤ place = omega (arith, c.full.auto.place, c.min-open.ensures, w.if-count-cap, c.cap-cap.ensures) in
          let to : c.cap-cap.result ≡ min (place + 1) (cap run) = omega (arith, c.cap-cap.ensures, from) in
          let cell = ap (λ k. slice_index_or after k 0) to in
          let extra : c.args.costs.weight * day_violations run place true ≡ c.args.costs.weight * 1 = ap (λ b. c.args.costs.weight * one_if b) (lt-ltb run.greatest (place + 1) (omega (arith, from))) in
          omega (arith, w.completion_bound-is, w.min-completion_bound.ensures, extra, cell)
    ] in
    let lesser : IsLesser c.args.costs after place completion_bound = λ some computed. elim c.if-count-cap.branch [
      | then-count-cap w ↦ absurd (omega (arith, c.full.auto.place, c.min-open.ensures, w.if-count-cap, computed))
      | else-count-cap w ↦
          let from : cap run ≤ place = omega (arith, c.full.auto.place, c.min-open.ensures, w.if-count-cap, c.cap-cap.ensures) in
          let to : c.cap-cap.result ≡ min (place + 1) (cap run) = omega (arith, c.cap-cap.ensures, from) in
          let cell = ap (λ k. slice_index_or after k 0) to in
          let extra : c.args.costs.weight * day_violations run place true ≡ c.args.costs.weight * 1 = ap (λ b. c.args.costs.weight * one_if b) (lt-ltb run.greatest (place + 1) (omega (arith, from))) in
          let nothing : c.args.costs.weight * 0 ≡ c.args.costs.weight * day_violations run place false = ap (λ k. c.args.costs.weight * k) (missed_from run place 0 (omega (arith, some)) (omega (arith, from))) in
          omega (arith, w.completion_bound-is, w.min-completion_bound.ensures, extra, cell, nothing)
    ] in
    cell_more c.args.costs after place c.full.here completion_bound (omega arith) c.full.invariant (omega (arith, leaves)) stays lesser (omega (arith, leaves, c.requires.leave))
