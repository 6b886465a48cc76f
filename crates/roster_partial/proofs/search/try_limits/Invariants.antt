use Rattle.std.proofs.Common.{◌≡◌, ◌+◌, ◌*◌, ◌≤◌, length}
use Rattle.roster_partial.specs.Counts.{rows_kept}
use Rattle.roster_partial.specs.Rates.{most_offers}
use Rattle.roster_partial.proofs.search.try_limits.Given as goal

abbrev pub invariant-limits : goal.invariant-limits
invariant-limits l = record {
  from : l.initial.meter ≤ l.meter;
  rows : l.meter ≤ l.initial.meter + l._tried * (most_offers * rows_kept (length l.fn.rows));
  most : l.meter ≤ l.bounded.last_count;
  length : length l.row ≡ length l.fn.row;
}
