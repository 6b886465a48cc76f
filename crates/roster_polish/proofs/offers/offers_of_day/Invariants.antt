use Rattle.std.proofs.Common.{◌≡◌, map, take}
use Rattle.roster_polish.proofs.KickRows.{priced_in}
use Rattle.roster_polish.proofs.offers.offers_of_day.Given as goal

abbrev pub invariant-loop-position : goal.invariant-loop-position
invariant-loop-position l = l.offers.items ≡ map (priced_in l.held.case l.nurse l.kick l.day) (take l.position l.open.items)
