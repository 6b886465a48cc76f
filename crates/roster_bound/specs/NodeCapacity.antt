-- For how many nodes there is capacity (our own).
use Rattle.std.specs.Prelude.{ℕ, vec_capacity}
use Rattle.roster_bound.specs.declared.nodes.Nodes.{Nodes}

-- for how many nodes, and for how many counts of pooled rows, there is capacity without an allocation
pub record NodesCapacity : Type 0 where
  pub items : ℕ
  pub uses : ℕ

abbrev pub nodes_capacity : Nodes → NodesCapacity
nodes_capacity nodes = record { items = vec_capacity nodes.items; uses = vec_capacity nodes.uses }
