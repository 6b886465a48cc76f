use Rattle.std.proofs.Common.{◌≡◌, ◌+◌, ◌<◌, ℕ, false, length, slice_index_or}
use Rattle.roster_instance.specs.Limits.{most_shifts}
use Rattle.roster_who.specs.Ways.{goes_on, last_at}
use Rattle.roster_who.proofs.ways.ways_before.Given as goal

abbrev pub invariant-loop-index : goal.invariant-loop-index
invariant-loop-index l = record {
  long : length l.ways ≡ 1 + most_shifts;
  gathered : (at : ℕ) → at < l.index → slice_index_or l.ways at false ≡ goes_on l.case l.offers l.after (last_at at);
}
