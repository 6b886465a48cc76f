use Rattle.std.proofs.Common.{◌≡◌, ◌/◌, ap, arith, length, subst}
use Rattle.roster_offers.specs.Lists.{offers_on}
use Rattle.roster_tables.specs.Search.{TableCapacity}
use Rattle.roster_partial.specs.Counts.{CountsPartial}
use Rattle.roster_partial.proofs.SomeStates.{some_states}
use Rattle.roster_partial.proofs.search.search_in_tables.Goals as goal

pub search_partial-requires-clause-cells : goal.search_partial-requires-clause-cells
search_partial-requires-clause-cells c =
    let search = c.args.bounded.now.search in
    omega (
      arith,
      ap length c.deref_mut-2.ensures.value,
      c.tables.invariant,
      ap (λ (t : TableCapacity). t.labels) c.tables.view_is,
      c.requires.tables.labels,
      some_states search.case.now search.nurse,
    )

pub returns-clause-counted : goal.returns-clause-counted
returns-clause-counted c =
    let search = c.args.bounded.now.search in
    let cells : length c.deref_mut-2.result.now ≡ c.args.tables.now.labels / 2 = omega (arith, ap length c.deref_mut-2.ensures.value, c.tables.invariant, ap (λ (t : TableCapacity). t.labels) c.tables.view_is) in
    subst (λ n. CountsPartial n search.case.now search.nurse (offers_on search.offers.now) c.args.meter.now c.search_partial.new.meter) cells c.search_partial.ensures.counted
