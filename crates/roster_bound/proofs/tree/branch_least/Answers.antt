use Rattle.std.proofs.Common.{◌≡◌, IfNone, None, Option, Some, List, ap, arith, refl, subst, sym}
use Rattle.roster_bound.specs.declared.nodes.Node.{Node}
use Rattle.roster_bound.specs.Branchings.{IsBelowAt}
use Rattle.roster_bound.proofs.NodeLaws.{below_at, some_node}
use Rattle.roster_bound.proofs.tree.branch_least.Goals as goal

pub least-at-requires : goal.least-at-requires
least-at-requires g c =
    let b = c.args.upper.now.base.now in
    some_node b.case.now b.from b.given.now c.args.space.now.nodes.items.items c.requires.nodes

none_holds : {A P : Type 0} (o : Option A) → ((x : A) → o ≡ Some x → ⊥) → IfNone o P → P
none_holds None other p = p
none_holds (Some x) other p = absurd (other x refl)

pub returns-in-Some-clause-searched : goal.returns-in-Some-clause-searched
returns-in-Some-clause-searched g c = λ is.
    c.in-Some.ensures.searched (below_at c.args.space.now.nodes.items.items c.least-at.result c.args.upper.now.total c.least-at.ensures c.requires.below)

pub raise_at-rose-requires-clause-below : goal.raise_at-rose-requires-clause-below
raise_at-rose-requires-clause-below g c =
    let same = none_holds c.branch_at.result c.in_default.not-Some c.branch_at.ensures.same in
    let below = below_at c.args.space.now.nodes.items.items c.least-at.result c.args.upper.now.total c.least-at.ensures c.requires.below in
    subst (λ (nodes : List Node). IsBelowAt nodes c.least-at.result c.args.upper.now.total) (ap (λ v. v.items) (sym same)) below
