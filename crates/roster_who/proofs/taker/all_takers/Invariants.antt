use Rattle.std.proofs.Common.{◌≡◌, ◌+◌, ◌*◌, ◌≤◌, true}
use Rattle.std.specs.List.{flat_map, range_with_len}
use Rattle.std.specs.Option.{option_to_list}
use Rattle.roster_laws.specs.Greatest.{greatest_extension_count}
use Rattle.roster_offers.specs.Workspaces.{fits_space}
use Rattle.roster_who.specs.Who.{taker}
use Rattle.roster_who.proofs.taker.all_takers.Given as goal

abbrev pub invariant-loop-nurse : goal.invariant-loop-nurse
invariant-loop-nurse g l = record {
  so_far : l.gathered.items ≡ flat_map (λ n. option_to_list (taker l.asking.case.now l.asking.from l.asking.roster.now l.asking.asked n)) (range_with_len 0 l.nurse);
  fits : fits_space l.asking.case.now l.workspace ≡ true;
  trial : l.trial ≡ l.asking.roster.now;
  counted : l.meter ≤ l.fn.meter + l.nurse * greatest_extension_count l.asking.case.now;
}
