use Rattle.std.proofs.Common.{◌≡◌, false, take}
use Rattle.roster_who.specs.Ways.{goes_on}
use Rattle.roster_who.proofs.ways.goes_on.Given as goal

-- no offer before this one leads on
abbrev pub invariant-loop-offer : goal.invariant-loop-offer
invariant-loop-offer l = record {
  none : goes_on l.case (take l.offer-index l.offers) l.after l.last ≡ false;
}
