use Rattle.std.proofs.Common.{◌≡◌, ◌+◌, ◌*◌, ◌≤◌}
use Rattle.roster_instance.specs.Counting.{sum_below}
use Rattle.roster_instance.specs.Meaning.{day_count}
use Rattle.roster_laws.specs.Greatest.{greatest_extension_count}
use Rattle.roster_slots.specs.ColumnPool.{FitsPool}
use Rattle.roster_slots.specs.Tables.{slot_prices}
use Rattle.roster_prices.specs.Nodes.{most_row_bound, row_bound_in}
use Rattle.roster_prices.specs.Workspaces.{FitsRows}
use Rattle.roster_prices.proofs.bounds.row_bounds.Given as goal

abbrev pub invariant-loop-nurse : goal.invariant-loop-nurse
invariant-loop-nurse g l = record {
  so_far : l.bounds ≡ sum_below l.nurse (row_bound_in l.terms.case.now l.terms.from l.terms.given.now l.terms.scale (slot_prices l.terms.scale l.terms.dual_prices.now) l.node);
  within : l.bounds ≤ l.nurse * most_row_bound;
  rows : FitsRows l.terms.case.now l.rows;
  pool : FitsPool l.terms.case.now l.pool;
  made : l.fn.meter + l.nurse * day_count l.terms.case.now ≤ l.meter;
  counted : l.meter ≤ l.fn.meter + l.nurse * greatest_extension_count l.terms.case.now;
}
