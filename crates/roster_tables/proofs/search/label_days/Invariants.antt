use Rattle.std.proofs.Common.{◌≡◌, ◌+◌, ◌%◌, length}
use Rattle.roster_instance.specs.Meaning.{day_count}
use Rattle.roster_tables.specs.Days.{LabelsOn, PointersOn, extensions_below}
use Rattle.roster_tables.specs.OpenDays.{KeepLengths}
use Rattle.roster_tables.proofs.search.label_days.Given as goal

abbrev pub invariant-loop-day : goal.invariant-loop-day
invariant-loop-day l = record {
  even : l.day % 2 ≡ 0 → LabelsOn l.days l.day l.even;
  odd : l.day % 2 ≡ 1 → LabelsOn l.days l.day l.odd;
  pointers : PointersOn l.days l.day l.pointers;
  lengths : KeepLengths l.fn.even l.even l.fn.odd l.odd;
  pointers_length : length l.pointers ≡ length l.fn.pointers;
  exactly : l.meter + extensions_below l.days l.day ≡ l.fn.meter + extensions_below l.days (day_count l.days.search.case.now);
}
