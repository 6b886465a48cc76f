use Rattle.std.proofs.Common.{◌≡◌, ◌/◌, ◌%◌, ◌<◌, ◌≤◌, ℕ}
use Rattle.std.specs.Prelude.{slice_index_or}
use Rattle.roster_instance.specs.Meaning.{minimum, optimum}
use Rattle.roster_prices.specs.Fading.{followed_by}
use Rattle.roster_prices.specs.Workspaces.{FitsBound}
use Rattle.roster_prices.proofs.fading.follow_cover.Given as goal

abbrev pub invariant-loop-slot : goal.invariant-loop-slot
invariant-loop-slot g l = record {
  rows : l.bounds.rows ≡ l.fn.bounds.rows;
  before : (at : ℕ) → at < l.slot → slice_index_or l.bounds.dual_prices.fine at 0
      ≡ followed_by (minimum l.fn.case (at / 64) (at % 64 / 8) (at % 8)) (optimum l.fn.case (at / 64) (at % 64 / 8) (at % 8)) (slice_index_or l.fn.bounds.rows.cover.items at 0) (slice_index_or l.fn.bounds.dual_prices.fine at 0) l.step;
  later : (at : ℕ) → l.slot ≤ at → slice_index_or l.bounds.dual_prices.fine at 0 ≡ slice_index_or l.fn.bounds.dual_prices.fine at 0;
  fits : FitsBound l.fn.case l.bounds;
}
