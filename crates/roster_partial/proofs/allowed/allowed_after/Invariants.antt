use Rattle.std.proofs.Common.{◌≡◌, ◌+◌, length}
use Rattle.roster_partial.proofs.AllowedLaw.{AreAllowed}
use Rattle.roster_partial.proofs.allowed.allowed_after.Given as goal

-- the indices of the offers before this one
abbrev pub invariant-loop-index : goal.invariant-loop-index
invariant-loop-index l = record {
  allowed : AreAllowed l.case l.state.last l.offers l.index l.indices.items;
  counted : l.meter + length l.indices.items ≡ l.fn.meter + l.index;
}
