use Rattle.std.proofs.Common.{◌≡◌, ◌<◌, ℕ, length}
use Rattle.roster_offers.specs.Lists.{offers_on}
use Rattle.roster_offers.specs.Workspaces.{SameCapacity}
use Rattle.roster_offers.proofs.days.put_offers.Given as goal

abbrev pub invariant-loop-day : goal.invariant-loop-day
invariant-loop-day g l = record {
  days : length l.workspace.offers ≡ l.day;
  each : (day : ℕ) → day < l.day → offers_on l.workspace.offers day ≡ g.O.OffersDays.offers l.by l.nurse day;
  same_capacity : SameCapacity l.fn.workspace l.workspace;
}
