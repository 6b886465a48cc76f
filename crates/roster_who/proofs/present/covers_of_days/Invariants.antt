use Rattle.std.proofs.Common.{◌≡◌, ◌<◌, ℕ, [], length, slice_index_or}
use Rattle.roster_rules.specs.Covers.{AreCovers}
use Rattle.roster_who.proofs.present.covers_of_days.Given as goal

abbrev pub invariant-loop-day : goal.invariant-loop-day
invariant-loop-day l = record {
  days : length l.tables.items ≡ l.day;
  each : (d : ℕ) → d < l.day → AreCovers l.roster d (slice_index_or l.tables.items d []);
}
