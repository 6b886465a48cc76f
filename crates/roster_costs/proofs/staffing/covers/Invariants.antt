use Rattle.std.proofs.Common.{◌≡◌, ◌≤◌, ◌<◌, ℕ, take, slice_index_or, length}
use Rattle.roster_rules.specs.Covers.{AreCovers}
use Rattle.roster_costs.proofs.staffing.covers.Given as goal

abbrev pub invariant-loop-nurse : goal.invariant-loop-nurse
invariant-loop-nurse l = record {
  counted : AreCovers (take l.nurse l.roster) l.day l.counts;
  sized : length l.counts ≡ 64;
  few : (i : ℕ) → i < 64 → slice_index_or l.counts i 0 ≤ l.nurse;
}
