-- When the pooled rows give no branching decision (our own).
use Rattle.std.specs.Prelude.{◌≡◌, ℕ, ◌+◌, ◌*◌, ◌<◌, ◌≤◌, ◌⊎◌, List, length, slice_index, slice_index_or}
use Rattle.roster_instance.specs.Meaning.{Meaning, day_count, nurse_count}
use Rattle.roster_slots.specs.declared.pool.ColumnPool.{ColumnPool}
use Rattle.roster_slots.specs.ColumnPool.{pooled_slot, rows_per_nurse}
use Rattle.roster_bound.specs.declared.nodes.Node.{Node}
use Rattle.roster_bound.specs.declared.nodes.Nodes.{Nodes}
use Rattle.roster_bound.specs.Branching.{IsFirstLeastAt}

-- one of a nurse's pooled rows that was the cheapest of hers at least once
pub record IsUsed (uses : List ℕ) (n at : ℕ) : Type 0 where
  pub from : rows_per_nurse * n ≤ at
  pub below : at < rows_per_nurse * n + rows_per_nurse
  pub used : 0 < slice_index uses at

-- all used rows of a nurse have the same slot on a day
abbrev pub AgreeOn : ColumnPool → (uses : List ℕ) → (n d : ℕ) → Type 0
AgreeOn pool uses n d =
    (j k : ℕ) → IsUsed uses n j → IsUsed uses n k → pooled_slot pool j d ≡ pooled_slot pool k d

-- those of each nurse do, on each day
abbrev pub AllAgree : Meaning → ColumnPool → (uses : List ℕ) → Type 0
AllAgree c pool uses =
    (n d : ℕ) → n < nurse_count c → d < day_count c → AgreeOn pool uses n d

-- how many decisions a node has at most
abbrev pub most_decisions : ℕ
most_decisions = 64

-- no decision branches the node: it has as many as it can take, or the used rows split no nurse and day
abbrev pub HasNoDecision : Meaning → Node → ColumnPool → (uses : List ℕ) → Type 0
HasNoDecision c node pool uses =
    (most_decisions ≤ length node.decisions.items) ⊎ AllAgree c pool uses

-- this is so of the node at an index, by the uses that are counted with the nodes
pub record IsUndecidedAt (c : Meaning) (nodes : Nodes) (pool : ColumnPool) (at : ℕ) : Type 0 where
  pub node : Node
  pub here : slice_index_or nodes.items.items at node ≡ node
  pub no_decision : HasNoDecision c node pool nodes.uses.items

-- no node has changed, and this is so of the first with the least bound
pub record IsStuck (c : Meaning) (old new : Nodes) (pool : ColumnPool) : Type 0 where
  pub same : new.items.items ≡ old.items.items
  pub at : ℕ
  pub least : IsFirstLeastAt old.items.items at
  pub undecided : IsUndecidedAt c new pool at
