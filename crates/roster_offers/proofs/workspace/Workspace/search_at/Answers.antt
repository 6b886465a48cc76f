use Rattle.std.proofs.Common.{◌≡◌, ◌∙◌, ◌*◌, ◌/◌, ◌==◌, ◌&&◌, ap, arith, length, mul_comm, nat_le, sym, take}
use Rattle.std.proofs.Math.Path.{transport}
use Rattle.std.proofs.lemmas.List.{with_items_is}
use Rattle.std.proofs.lemmas.Nat.{mul-le}
use Rattle.std.specs.Vec.{with_items}
use Rattle.roster_instance.specs.Meaning.{day_count}
use Rattle.roster_instance.specs.Sizes.{state_count}
use Rattle.roster_laws.specs.Greatest.{greatest_state_count}
use Rattle.roster_offers.specs.Lists.{IsFound, best_over_at, offers_on}
use Rattle.roster_offers.specs.Workspaces.{Space, TableCapacity}
use Rattle.roster_offers.proofs.WorkspaceLaws.{capacity_of, states_within}
use Rattle.roster_offers.proofs.workspace.Workspace.search_at.Goals as goal
use Rattle.roster_offers.proofs.workspace.Workspace.search_at.Goals.{After-search-cost}

pub search-cost-requires-clause-tables : goal.search-cost-requires-clause-tables
search-cost-requires-clause-tables g c =
    let k = c.args.case.now in
    let n = c.args.nurse in
    let room = capacity_of k c.args.self.now c.requires.fits in
    let few = states_within k n c.requires.nurse in
    record {
      labels = omega (arith, ap (λ (w : Space). w.labels) c.self.view_is, room.labels, few);
      pointers =
          omega (
            arith,
            ap (λ (w : Space). w.pointers) c.self.view_is,
            room.pointers,
            mul_comm (day_count k) (greatest_state_count k),
            mul-le (day_count k) (state_count k n) (day_count k) (greatest_state_count k) (omega arith) few,
          );
    }

pub search-cost-requires-clause-row_capacity : goal.search-cost-requires-clause-row_capacity
search-cost-requires-clause-row_capacity g c =
    omega (arith, (capacity_of c.args.case.now c.args.self.now c.requires.fits).row, ap (λ (w : Space). w.choices) c.self.view_is, ap length c.deref_mut.ensures.value)

-- ---- the workspace after the search: the choices are those that were written

choices_are : (g : _) (c : After-search-cost g) → (with_items c.self.inside.choices c.search-cost.new.row).items ≡ c.search-cost.new.row
choices_are g c = with_items_is c.self.inside.choices c.search-cost.new.row (c.search-cost.ensures.length ∙ c.deref_mut.ensures.len)

capacity_stays : (g : _) (c : After-search-cost g) → length (with_items c.self.inside.choices c.search-cost.new.row).items ≡ c.args.self.now.choices
capacity_stays g c = ap length (choices_are g c) ∙ c.search-cost.ensures.length ∙ ap length c.deref_mut.ensures.value ∙ ap (λ (w : Space). w.choices) c.self.view_is

labels_stay : (g : _) (c : After-search-cost g) → (g.T.SearchesRows.capacity c.search-cost.new.self).labels ≡ c.args.self.now.labels
labels_stay g c = ap (λ (t : TableCapacity). t.labels) c.search-cost.ensures.tables ∙ ap (λ (w : Space). w.labels) c.self.view_is

pointers_stay : (g : _) (c : After-search-cost g) → (g.T.SearchesRows.capacity c.search-cost.new.self).pointers ≡ c.args.self.now.pointers
pointers_stay g c = ap (λ (t : TableCapacity). t.pointers) c.search-cost.ensures.tables ∙ ap (λ (w : Space). w.pointers) c.self.view_is

-- what it went over
offers_are : (g : _) (c : After-search-cost g) → c.as_slice.result.now ≡ c.args.self.now.offers
offers_are g c = c.as_slice.ensures.value ∙ ap (λ (w : Space). w.offers) c.self.view_is

pub invariant_of-self : goal.invariant_of-self
invariant_of-self g c =
    omega (arith, (capacity_of c.args.case.now c.args.self.now c.requires.fits).row, capacity_stays g (goal.at.invariant_of-self g c).After-search-cost, c.days.ensures.count)

pub returns-clause-best : goal.returns-clause-best
returns-clause-best g c =
    let searched = (goal.at.returns-clause-best g c).After-search-cost in
    let days = sym c.days.ensures.count in
    let row = sym (choices_are g searched) in
    transport (λ i. IsFound (best_over_at c.args.case.now c.args.nurse c.args.scale (offers_on (offers_are g searched i))) c.search-cost.result (take (days i) (row i))) c.search-cost.ensures.best

pub returns-clause-below : goal.returns-clause-below
returns-clause-below g c = c.search-cost.ensures.below

pub returns-clause-each_day : goal.returns-clause-each_day
returns-clause-each_day g c = c.search-cost.ensures.each_day

pub returns-clause-counted : goal.returns-clause-counted
returns-clause-counted g c = c.search-cost.ensures.counted

pub returns-clause-are_reachable : goal.returns-clause-are_reachable
returns-clause-are_reachable g c =
    let offers = offers_are g (goal.at.returns-clause-are_reachable g c).After-search-cost in
    let room = capacity_of c.args.case.now c.args.self.now c.requires.fits in
    let states : (g.T.SearchesRows.capacity c.self.inside.tables).labels / 2 ≡ greatest_state_count c.args.case.now = omega (arith, ap (λ (w : Space). w.labels) c.self.view_is, room.labels) in
    transport (λ i. g.T.SearchesRows.IsCounted (states i) c.args.case.now c.args.nurse (offers_on (offers i)) c.args.meter.now c.search-cost.new.meter) c.search-cost.ensures.are_reachable

pub returns-clause-same_capacity : goal.returns-clause-same_capacity
returns-clause-same_capacity g c =
    let searched = (goal.at.returns-clause-same_capacity g c).After-search-cost in
    record {
      labels = labels_stay g searched;
      pointers = pointers_stay g searched;
      choices = capacity_stays g searched;
      label_capacity = ap (λ (t : TableCapacity). t.label_capacity) searched.search-cost.ensures.tables ∙ ap (λ (w : Space). w.label_capacity) searched.self.view_is;
      later_capacity = ap (λ (t : TableCapacity). t.later_capacity) searched.search-cost.ensures.tables ∙ ap (λ (w : Space). w.later_capacity) searched.self.view_is;
      row_capacity = ap (λ (w : Space). w.row_capacity) searched.self.view_is;
    }

pub returns-clause-fits : goal.returns-clause-fits
returns-clause-fits g c =
    let k = c.args.case.now in
    let searched = (goal.at.returns-clause-fits g c).After-search-cost in
    (λ i. (labels_stay g searched i == 2 * greatest_state_count k) && (pointers_stay g searched i == greatest_state_count k * day_count k) && nat_le (day_count k) (capacity_stays g searched i)) ∙ c.requires.fits

pub returns-clause-offers : goal.returns-clause-offers
returns-clause-offers g c = ap (λ (w : Space). w.offers) c.self.view_is
