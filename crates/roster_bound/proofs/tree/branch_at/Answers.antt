use Rattle.std.proofs.Common.{◌≡◌, ◌++◌, ◌∷◌, [], ℕ, Bool, List, Option, None, Some, IfNone, true, false, arith, if◌then◌else◌, set, subst, sym}
use Rattle.std.proofs.lemmas.List.{with_items_is}
use Rattle.roster_bound.specs.declared.nodes.Node.{Node}
use Rattle.roster_bound.specs.Branching.{AreNodesOf}
use Rattle.roster_bound.specs.PooledUses.{HasNoDecision}
use Rattle.roster_bound.proofs.NodeLaws.{branched, child_bounds, child_prices}
use Rattle.roster_bound.proofs.tree.branch_at.Goals as goal

pub returns-clause-nodes : goal.returns-clause-nodes
returns-clause-nodes g c =
    let b = c.args.upper.now.base.now in
    let old : List Node = c.args.space.now.nodes.items.items in
    let at = c.args.at in
    let with : Node = c.raise_node.new.node in
    let without : Node = c.raise_node-2.new.node in
    let P : List Node → Type 0 = λ ps. AreNodesOf b.case.now b.from b.given.now ps in
    let both : P (set (old ++ without ∷ []) at with) =
    branched b.case.now b.from b.given.now old at c.index.result.now c.in_ok-two.two.with c.in_ok-two.two.without with without c.requires.nodes c.requires.at c.index.ensures c.in_ok-two.ensures.two c.raise_node.ensures.decisions c.raise_node-2.ensures.decisions
    c.raise_node.ensures.below c.raise_node-2.ensures.below c.raise_node.ensures.priced c.raise_node-2.ensures.priced in
    let go : (done : Bool) → c.put_children.new.self.items.items ≡ (if done then set (old ++ without ∷ []) at with else old) → P c.put_children.new.self.items.items =
    λ done e. elim done as (λ d. c.put_children.new.self.items.items ≡ (if d then set (old ++ without ∷ []) at with else old) → P c.put_children.new.self.items.items) [
      | true ↦ λ f. subst P (sym f) both
      | false ↦ λ f. subst P (sym f) c.requires.nodes
    ] e in
    go c.put_children.result c.put_children.ensures.put

-- the children begin with the lower bound of the node

pub raise_node-requires-clause-below : goal.raise_node-requires-clause-below
raise_node-requires-clause-below g c =
    let b = c.args.upper.now.base.now in
    (child_bounds b.case.now b.from b.given.now c.args.space.now.nodes.items.items c.args.at c.index.result.now c.in_ok-two.two.with c.in_ok-two.two.without c.requires.nodes c.requires.at c.index.ensures c.in_ok-two.ensures.two).0

pub raise_node-requires-2-clause-below : goal.raise_node-requires-2-clause-below
raise_node-requires-2-clause-below g c =
    let b = c.args.upper.now.base.now in
    (child_bounds b.case.now b.from b.given.now c.args.space.now.nodes.items.items c.args.at c.index.result.now c.in_ok-two.two.with c.in_ok-two.two.without c.requires.nodes c.requires.at c.index.ensures c.in_ok-two.ensures.two).1

pub raise_node-requires-clause-priced : goal.raise_node-requires-clause-priced
raise_node-requires-clause-priced g c =
    let b = c.args.upper.now.base.now in
    (child_prices b.case.now b.from b.given.now c.args.space.now.nodes.items.items c.args.at c.index.result.now c.in_ok-two.two.with c.in_ok-two.two.without c.requires.nodes c.requires.at c.index.ensures c.in_ok-two.ensures.two).0

pub raise_node-requires-2-clause-priced : goal.raise_node-requires-2-clause-priced
raise_node-requires-2-clause-priced g c =
    let b = c.args.upper.now.base.now in
    (child_prices b.case.now b.from b.given.now c.args.space.now.nodes.items.items c.args.at c.index.result.now c.in_ok-two.two.with c.in_ok-two.two.without c.requires.nodes c.requires.at c.index.ensures c.in_ok-two.ensures.two).1

-- without a decision, the uses are as they were counted

on_none : {A P : Type 0} (o : Option A) → P → IfNone o P
on_none None p = p
on_none (Some _) p = tt

pub returns-in_err-two-clause-undecided : goal.returns-in_err-two-clause-undecided
returns-in_err-two-clause-undecided g c =
    let counted = with_items_is c.args.space.now.nodes.uses c.choose.new.uses (omega arith) in
    let none : List ℕ → Type 0 = λ uses. HasNoDecision c.args.upper.now.base.now.case.now c.index.result.now c.choose.new.bounds.pool uses in
    on_none c.from_residual.result (record {
      node = c.index.result.now;
      here = sym c.index.ensures;
      no_decision = subst none (sym counted) c.in_err-two.ensures.none;
    })
