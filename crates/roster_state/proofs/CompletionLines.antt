-- The cells of a line of completion bounds, one after another.
use Rattle.std.proofs.Common.{◌≡◌, ◌≢◌, ◌+◌, ◌-◌, ◌<◌, ◌≤◌, ℕ, List, arith, below_more, false, get_or, get_or-set_other, get_or-set_same, length, lt-ltb, set, slice_index_or, subst, sym}
use Rattle.roster_instance.specs.declared.rules.Limits.{Limits}
use Rattle.roster_instance.specs.RunLaw.{day_violations}
use Rattle.roster_state.specs.declared.line.LineCosts.{LineCosts}
use Rattle.roster_state.specs.CompletionLines.{IsLesser, IsUnderLeave, IsUnderStay, most_completion_bound}

-- what holds for each cell below an index, and for one more cell
module _ {X : Type 0} (none : X) (P : ℕ → X → Type 0) (xs : List X) (place : ℕ) (x : X) (inside : place < length xs) where
  pub each_more : ((k : ℕ) → k < place → P k (get_or xs k none)) → P place x → (k : ℕ) → k < place + 1 → P k (get_or (set xs place x) k none)
  each_more below here =
      below_more (λ k. P k (get_or (set xs place x) k none)) place
      (λ k l. let other : k ≢ place = omega arith in subst (P k) (sym (get_or-set_other xs place k x none other)) (below k l))
      (subst (P place) (sym (get_or-set_same xs place x none inside)) here)

-- the first cells of a line are set
pub record AreCells (costs : LineCosts) (after : List ℕ) (place : ℕ) (here : List ℕ) : Type 0 where
  pub leaves : (q : ℕ) → q < place → IsUnderLeave costs q (slice_index_or here q 0)
  pub stays : (q : ℕ) → q < place → IsUnderStay costs after q (slice_index_or here q 0)
  pub lesser : (q : ℕ) → q < place → IsLesser costs after q (slice_index_or here q 0)
  pub low : (q : ℕ) → q < place → slice_index_or here q 0 ≤ most_completion_bound

pub cell_more : (costs : LineCosts) (after : List ℕ) (place : ℕ) (here : List ℕ) (completion_bound : ℕ) → place < length here → AreCells costs after place here → IsUnderLeave costs place completion_bound → IsUnderStay costs after place completion_bound → IsLesser costs after place completion_bound → completion_bound ≤ most_completion_bound → AreCells costs after (place + 1) (set here place completion_bound)
cell_more costs after place here completion_bound inside given leaves stays lesser low = record {
  leaves = each_more 0 (IsUnderLeave costs) here place completion_bound inside given.leaves leaves;
  stays = each_more 0 (IsUnderStay costs after) here place completion_bound inside given.stays stays;
  lesser = each_more 0 (IsLesser costs after) here place completion_bound inside given.lesser lesser;
  low = each_more 0 (λ q x. x ≤ most_completion_bound) here place completion_bound inside given.low low;
}

-- a run of a day or more misses what it is short of
pub missed_from : (limits : Limits) (q missing : ℕ) → 1 ≤ q → missing ≡ limits.least - q → missing ≡ day_violations limits q false
missed_from limits q missing some is = rw (lt-ltb 0 q (omega (arith, some))) is
