use Rattle.std.proofs.Common.{◌≡◌, ◌+◌, ◌*◌, true, false, length}
use Rattle.roster_tables.specs.OpenDays.{IsLowered, KeepLengths, NoneYet, shape_of, states_of}
use Rattle.roster_tables.specs.Strips.{BetweenStripsKept}
use Rattle.roster_tables.proofs.labels.label_cells.Given as goal

abbrev pub invariant-loop-place : goal.invariant-loop-place
invariant-loop-place l = record {
  least : l.is_set ≡ true → IsLowered l.day l.span l.place l.labels l.numbers;
  none : l.is_set ≡ false → NoneYet l.day l.span l.place (length l.labels);
  between : BetweenStripsKept (shape_of l.day l.span) l.fn.labels l.labels;
  lengths : KeepLengths l.fn.labels l.labels l.fn.numbers l.numbers;
  counted : l.meter ≡ l.fn.meter + l.place * states_of l.span;
}
