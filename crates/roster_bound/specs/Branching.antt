-- Nodes that together contain all rosters (our own).
use Rattle.std.specs.Prelude.{◌≡◌, ℕ, ◌<◌, ◌≤◌, ◌⊎◌, All, Contains, true, List, [], ◌∷◌, ◌++◌, length, slice_index_or}
use Rattle.std.specs.List.{list_any}
use Rattle.roster_instance.specs.Meaning.{Meaning}
use Rattle.roster_instance.specs.Rosters.{Rows}
use Rattle.roster_prices.specs.declared.decisions.Decision.{Decision}
use Rattle.roster_bound.specs.declared.nodes.Node.{Node}
use Rattle.roster_prices.specs.Nodes.{IsLowerBoundIn, bound_in, is_in_node, other_way}
use Rattle.roster_slots.specs.Slots.{AreDualPrices, SlotPrices}

-- the bound of some dual prices at a scale, for the rosters that keep these decisions
pub record IsBoundByPrices (c : Meaning) (from : ℕ) (given : Rows) (decisions : List Decision)
    (bound : ℕ) : Type 0 where
  pub scale : ℕ
  pub some : 0 < scale
  pub dual_prices : SlotPrices
  pub are_dual_prices : AreDualPrices scale dual_prices
  pub bound_is : bound ≡ bound_in c from given scale dual_prices decisions

-- a node's bound is such a bound for its own rosters, or for those of a node from which it was branched
pub record HasBoundByPrices (c : Meaning) (from : ℕ) (given : Rows) (node : Node) : Type 0 where
  pub first : List Decision
  pub rest : List Decision
  pub decisions : node.decisions.items ≡ first ++ rest
  pub by_prices : IsBoundByPrices c from given first node.bound

-- the same; it is 0 if there was no round before
abbrev pub IsPriced : Meaning → ℕ → Rows → Node → Type 0
IsPriced c from given node = (node.bound ≡ 0) ⊎ HasBoundByPrices c from given node

-- each roster is in one of them, and the lower bound of each is one for its rosters, by dual prices
pub record AreNodesOf (c : Meaning) (from : ℕ) (given : Rows) (nodes : List Node) : Type 0 where
  pub all : (r : Rows) → list_any (λ node. is_in_node node.decisions.items r) nodes ≡ true
  pub bounds : All (λ node. IsLowerBoundIn c from given node.decisions.items node.bound) nodes
  pub priced : All (IsPriced c from given) nodes

-- the least of the nodes' bounds
pub record IsLeastOf (bound : ℕ) (nodes : List Node) : Type 0 where
  pub all : All (λ node. bound ≤ node.bound) nodes
  pub one : Node
  pub here : Contains nodes one
  pub bound_is : bound ≡ one.bound

-- the least bound of nodes that together contain all rosters
pub record IsNodesBound (c : Meaning) (from : ℕ) (given : Rows) (bound : ℕ) : Type 0 where
  pub nodes : List Node
  pub are : AreNodesOf c from given nodes
  pub least : IsLeastOf bound nodes

-- the first of the nodes whose bounds are the least is at this index
pub record IsFirstLeastAt (nodes : List Node) (at : ℕ) : Type 0 where
  pub node : Node
  pub within : at < length nodes
  pub here : slice_index_or nodes at node ≡ node
  pub before : (k : ℕ) (x : Node) → k < at → slice_index_or nodes k x ≡ x → node.bound < x.bound
  pub all : All (λ x. node.bound ≤ x.bound) nodes

-- one node without decisions, with this lower bound
pub record IsRoot (bound : ℕ) (nodes : List Node) : Type 0 where
  pub node : Node
  pub only : nodes ≡ node ∷ []
  pub decisions : node.decisions.items ≡ []
  pub bound_is : node.bound ≡ bound

-- the two children of a node: one keeps a decision, and the other keeps it the other way round
pub record AreChildrenOf (node with without : Node) : Type 0 where
  pub decision : Decision
  pub with_is : with.decisions.items ≡ node.decisions.items ++ decision ∷ []
  pub without_is : without.decisions.items ≡ node.decisions.items ++ other_way decision ∷ []
  pub with_bound : with.bound ≡ node.bound
  pub without_bound : without.bound ≡ node.bound
