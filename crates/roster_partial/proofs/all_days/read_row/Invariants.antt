use Rattle.std.proofs.Common.{◌≡◌, ◌<◌, length}
use Rattle.roster_partial.specs.Rows.{count_in, entry_numbered, rows_in}
use Rattle.roster_partial.specs.Searches.{days_in, offered}
use Rattle.roster_partial.proofs.DaysLaws.{IsReadFrom}
use Rattle.roster_partial.proofs.all_days.read_row.Given as goal

abbrev pub invariant-loop-day : goal.invariant-loop-day
invariant-loop-day l = record {
  read : IsReadFrom (offered l.search) (rows_in l.rows) (days_in l.search) (entry_numbered (rows_in l.rows) l.fn.last) l.day (entry_numbered (rows_in l.rows) l.index) l.row;
  inside : l.index < count_in l.rows;
  length : length l.row ≡ length l.fn.row;
}
