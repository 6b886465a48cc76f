use Rattle.std.proofs.Common.{◌≡◌, ◌∙◌, ◌*◌, ◌==◌, ◌&&◌, ap, arith, mul_comm, nat_le}
use Rattle.std.proofs.lemmas.Nat.{mul-le}
use Rattle.roster_instance.specs.Meaning.{day_count}
use Rattle.roster_instance.specs.Sizes.{state_count}
use Rattle.roster_laws.specs.Greatest.{greatest_state_count}
use Rattle.roster_offers.specs.Workspaces.{Space, TableCapacity}
use Rattle.roster_offers.proofs.WorkspaceLaws.{capacity_of, states_within}
use Rattle.roster_offers.proofs.workspace.Workspace.list_at.Goals as goal
use Rattle.roster_offers.proofs.workspace.Workspace.list_at.Goals.{After-list}

pub list-requires-clause-tables : goal.list-requires-clause-tables
list-requires-clause-tables g c =
    let k = c.args.input.now.case.now in
    let n = c.args.input.now.nurse in
    let room = capacity_of k c.args.self.now c.requires.fits in
    let few = states_within k n c.requires.nurse in
    record {
      labels = omega (arith, ap (λ (w : Space). w.labels) c.self.view_is, room.labels, few);
      pointers =
          omega (
            arith,
            ap (λ (w : Space). w.pointers) c.self.view_is,
            room.pointers,
            mul_comm (day_count k) (greatest_state_count k),
            mul-le (day_count k) (state_count k n) (day_count k) (greatest_state_count k) (omega arith) few,
          );
    }

-- ---- the workspace afterwards: only the tables were written

labels_stay : (g : _) (c : After-list g) → (g.T.SearchesRows.capacity c.list.new.self).labels ≡ c.args.self.now.labels
labels_stay g c = ap (λ (t : TableCapacity). t.labels) c.list.ensures.tables ∙ ap (λ (w : Space). w.labels) c.self.view_is

pointers_stay : (g : _) (c : After-list g) → (g.T.SearchesRows.capacity c.list.new.self).pointers ≡ c.args.self.now.pointers
pointers_stay g c = ap (λ (t : TableCapacity). t.pointers) c.list.ensures.tables ∙ ap (λ (w : Space). w.pointers) c.self.view_is

pub returns-clause-same_capacity : goal.returns-clause-same_capacity
returns-clause-same_capacity g c =
    let listed = (goal.at.returns-clause-same_capacity g c).After-list in
    record {
      labels = labels_stay g listed;
      pointers = pointers_stay g listed;
      choices = ap (λ (w : Space). w.choices) listed.self.view_is;
      label_capacity = ap (λ (t : TableCapacity). t.label_capacity) listed.list.ensures.tables ∙ ap (λ (w : Space). w.label_capacity) listed.self.view_is;
      later_capacity = ap (λ (t : TableCapacity). t.later_capacity) listed.list.ensures.tables ∙ ap (λ (w : Space). w.later_capacity) listed.self.view_is;
      row_capacity = ap (λ (w : Space). w.row_capacity) listed.self.view_is;
    }

pub returns-clause-fits : goal.returns-clause-fits
returns-clause-fits g c =
    let k = c.args.input.now.case.now in
    let listed = (goal.at.returns-clause-fits g c).After-list in
    (λ i. (labels_stay g listed i == 2 * greatest_state_count k) && (pointers_stay g listed i == greatest_state_count k * day_count k) && nat_le (day_count k) (ap (λ (w : Space). w.choices) listed.self.view_is i)) ∙ c.requires.fits

pub returns-clause-offers : goal.returns-clause-offers
returns-clause-offers g c = ap (λ (w : Space). w.offers) c.self.view_is

pub returns-clause-row : goal.returns-clause-row
returns-clause-row g c = ap (λ (w : Space). w.row) c.self.view_is
