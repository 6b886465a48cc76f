use Rattle.std.proofs.Common.{◌-◌, length}
use Rattle.roster_offers.specs.Lists.{offers_on}
use Rattle.roster_who.specs.Ways.{AreWays}
use Rattle.roster_who.proofs.ways.leads_through.Given as goal

abbrev pub invariant-loop-after : goal.invariant-loop-after
invariant-loop-after l = record {
  gathered : AreWays l.case (offers_on l.offers) l.after (length l.offers - l.after) l.ways;
}
