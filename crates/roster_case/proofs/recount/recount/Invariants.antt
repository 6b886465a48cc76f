use Rattle.std.proofs.Common.{◌≡◌, ◌+◌, ◌<◌, ◌≤◌, ℕ, length, slice_index_or}
use Rattle.roster_instance.specs.Counting.{sum_below}
use Rattle.roster_instance.specs.Meaning.{optimum}
use Rattle.roster_instance.specs.Rosters.{cover, with_row}
use Rattle.roster_laws.specs.Staffing.{shortfall}
use Rattle.roster_case.specs.Held.{IsDay, no_day}
use Rattle.roster_case.proofs.recount.recount.Given as goal

abbrev pub invariant-loop-day : goal.invariant-loop-day
invariant-loop-day l = record {
  days : length l.days ≡ length l.fn.days;
  before : (d : ℕ) → d < l.day → IsDay l.case (with_row l.roster l.nurse l.row) d (slice_index_or l.days d no_day);
  after : (d : ℕ) → l.day ≤ d → slice_index_or l.days d no_day ≡ slice_index_or l.fn.days d no_day;
  is_short : sum_below l.day (λ d. shortfall l.case (optimum l.case d) (cover (with_row l.roster l.nurse l.row) d)) + l.change.fewer ≡ sum_below l.day (λ d. shortfall l.case (optimum l.case d) (cover l.roster d)) + l.change.more;
  more : l.change.more ≤ l.day;
  fewer : l.change.fewer ≤ l.day;
}
