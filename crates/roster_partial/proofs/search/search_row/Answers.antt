use Rattle.std.proofs.Common.{◌/◌, arith, inl, inr, refl, subst, sym, ℕ}
use Rattle.roster_offers.specs.Lists.{offers_on}
use Rattle.roster_tables.specs.Search.{reachable_extensions}
use Rattle.roster_partial.specs.Counts.{CountsPartial}
use Rattle.roster_partial.proofs.CountLaws.{no_partial}
use Rattle.roster_partial.proofs.search.search_row.Goals as goal
use Rattle.roster_partial.proofs.search.search_row.Goals.{then-begins+in_default, else-begins}

pub search_states-requires-clause-room : goal.search_states-requires-clause-room
search_states-requires-clause-room c =
    let search = c.args.search.now in
    let extensions = reachable_extensions search.case.now search.nurse (offers_on search.offers.now) c.find_boxes.new.boxes.days in
    elim c.if-begins.branch [
      | then-begins+in_default w ↦ omega (arith, w.meter-is, w.search_in_tables.ensures.most, w.count.ensures, w.most_search_extensions.ensures.count, c.extensions_at_most-extensions.ensures.all, c.extensions_at_most-extensions.ensures.within, c.requires.room)
      | else-begins w ↦ omega (arith, w.meter-is, c.extensions_at_most-extensions.ensures.all, c.extensions_at_most-extensions.ensures.within, c.requires.room)
    ]

pub returns-in-Some-clause-are_reachable : goal.returns-in-Some-clause-are_reachable
returns-in-Some-clause-are_reachable c =
    record {
      boxes = c.find_boxes.new.boxes.days;
      are_reachable = c.find_boxes.ensures.are_reachable;
      between = c.search_in_tables.new.meter;
      partial = c.search_in_tables.ensures.counted;
      left = omega (arith, c.search_in_tables.ensures.most, c.count.ensures, c.most_search_extensions.ensures.count, c.extensions_at_most-extensions.ensures.all, c.extensions_at_most-extensions.ensures.within);
      states = inl refl;
    }

pub returns-clause-are_reachable : goal.returns-clause-are_reachable
returns-clause-are_reachable c =
    let search = c.args.search.now in
    let k = search.case.now in
    let n = search.nurse in
    let offers = offers_on search.offers.now in
    let cells = c.args.tables.now.labels / 2 in
    record {
      boxes = c.find_boxes.new.boxes.days;
      are_reachable = c.find_boxes.ensures.are_reachable;
      between = c.if-begins.meter;
      partial = elim c.if-begins.branch [
        | then-begins+in_default w ↦ subst (λ (m : ℕ). CountsPartial cells k n offers c.args.meter.now m) (sym w.meter-is) w.search_in_tables.ensures.counted
        | else-begins w ↦ subst (λ (m : ℕ). CountsPartial cells k n offers c.args.meter.now m) (sym w.meter-is) (no_partial k n offers cells c.args.meter.now)
      ];
      left = elim c.if-begins.branch [
        | then-begins+in_default w ↦ omega (arith, w.meter-is, w.search_in_tables.ensures.most, w.count.ensures, w.most_search_extensions.ensures.count, c.extensions_at_most-extensions.ensures.all, c.extensions_at_most-extensions.ensures.within)
        | else-begins w ↦ omega (arith, w.meter-is, c.extensions_at_most-extensions.ensures.all, c.extensions_at_most-extensions.ensures.within)
      ];
      states = inr c.search_states.ensures.exactly;
    }
