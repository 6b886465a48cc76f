use Rattle.std.proofs.Common.{◌≡◌, ◌∙◌, ◌+◌, ◌≤◌, ap, arith, length, subst, sym, take}
use Rattle.std.proofs.lemmas.List.{length-take, with_items_is}
use Rattle.std.specs.Vec.{with_items}
use Rattle.roster_tables.specs.Halves.{IsWritten, halves, pointers_in}
use Rattle.roster_tables.proofs.HalfLaws.{written_taken}
use Rattle.roster_tables.proofs.pointers.Pointers.set_cells.Goals as goal
use Rattle.roster_tables.proofs.pointers.Pointers.set_cells.Goals.{After-set_halves}

pub set_halves-requires-clause-within : goal.set_halves-requires-clause-within
set_halves-requires-clause-within c =
    omega (arith, c.requires.within, ap length c.self.view_is, length-take c.self.inside.count (halves c.self.inside.bytes.items), ap (λ b. length (halves b)) c.deref_mut.ensures.value)

-- the bytes are those that are written
items_are : (c : After-set_halves) → (with_items c.self.inside.bytes c.set_halves.new.bytes).items ≡ c.set_halves.new.bytes
items_are c = with_items_is c.self.inside.bytes c.set_halves.new.bytes (c.set_halves.auto.bytes ∙ c.deref_mut.ensures.len)

pub invariant_of-self : goal.invariant_of-self
invariant_of-self c =
    let kept = ap length (items_are (goal.at.invariant_of-self c).After-set_halves) ∙ c.set_halves.auto.bytes ∙ ap length c.deref_mut.ensures.value in
    (kept ∙ c.self.invariant.0, c.self.invariant.1 ∙ sym kept)

written : (c : After-set_halves) → IsWritten c.args.first c.args.run.now c.args.self.now (pointers_in c.self.inside.count (with_items c.self.inside.bytes c.set_halves.new.bytes).items)
written c =
    let n = c.self.inside.count in
    let first = c.args.first in
    let run = c.args.run.now in
    let old = halves c.self.inside.bytes.items in
    let capacity : first + length run ≤ n = omega (arith, c.requires.within, ap length c.self.view_is, length-take n old) in
    let here = subst (λ b. IsWritten first run (halves b) (halves c.set_halves.new.bytes)) c.deref_mut.ensures.value c.set_halves.ensures in
    subst (λ cells. IsWritten first run cells (pointers_in n (with_items c.self.inside.bytes c.set_halves.new.bytes).items)) c.self.view_is
    (subst (λ b. IsWritten first run (take n old) (take n (halves b))) (sym (items_are c)) (written_taken first run old (halves c.set_halves.new.bytes) n capacity here))

pub returns-clause-inside : goal.returns-clause-inside
returns-clause-inside c = (written (goal.at.returns-clause-inside c).After-set_halves).inside

pub returns-clause-others : goal.returns-clause-others
returns-clause-others c = (written (goal.at.returns-clause-others c).After-set_halves).others

pub returns-clause-length : goal.returns-clause-length
returns-clause-length c = (written (goal.at.returns-clause-length c).After-set_halves).length_stays
