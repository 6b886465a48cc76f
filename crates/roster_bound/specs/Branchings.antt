-- When a run makes no more branchings (our own).
use Rattle.std.specs.Prelude.{◌≡◌, ℕ, ◌+◌, ◌*◌, ◌<◌, ◌≤◌, ◌⊎◌, true, List, Option, slice_index_or, vec_capacity}
use Rattle.roster_text.specs.Io.{Watched}
use Rattle.roster_instance.specs.Meaning.{Meaning, day_count, nurse_count}
use Rattle.roster_instance.specs.Rosters.{Rows}
use Rattle.roster_rules.specs.Penalties.{penalty}
use Rattle.roster_timer.specs.Deadlines.{Time, is_up, time_of}
use Rattle.roster_timer.specs.declared.deadline.Deadline.{Deadline}
use Rattle.roster_slots.specs.declared.pool.ColumnPool.{ColumnPool}
use Rattle.roster_bound.specs.declared.effort.Raised.{Raised}
use Rattle.roster_bound.specs.declared.nodes.Node.{Node}
use Rattle.roster_bound.specs.declared.nodes.Nodes.{Nodes}
use Rattle.roster_bound.specs.declared.tree.BoundSpace.{BoundSpace}
use Rattle.roster_bound.specs.Branching.{IsLeastOf}
use Rattle.roster_bound.specs.BoundRuns.{RaisesBound}
use Rattle.roster_bound.specs.PooledUses.{IsStuck}

-- the bound of the node at an index is below this total
abbrev pub IsBelowAt : List Node → (at total : ℕ) → Type 0
IsBelowAt nodes at total = (node : Node) → slice_index_or nodes at node ≡ node → node.bound < total

-- the least of the nodes' bounds is
abbrev pub IsLeastBelow : List Node → (total : ℕ) → Type 0
IsLeastBelow nodes total = (bound : ℕ) → IsLeastOf bound nodes → bound < total

-- this bound is no less than the least of the nodes' bounds
abbrev pub ReachesLeast : List Node → (bound : ℕ) → Type 0
ReachesLeast nodes bound = (least : ℕ) → IsLeastOf least nodes → least ≤ bound

-- this many rounds were counted, an extension for each nurse and day in each of them, or the time is up
abbrev pub HasSearchedFor : Meaning → Time → (rounds old new : ℕ) → Type 0
HasSearchedFor c time rounds old new =
    (is_up time ≡ true) ⊎ (old + rounds * (nurse_count c * day_count c) ≤ new)

-- one was
abbrev pub HasSearched : Meaning → Time → (old new : ℕ) → Type 0
HasSearched c time = HasSearchedFor c time 1

-- There are no more branchings: the lower bound is what the given roster costs, or there is no capacity for
-- the nodes that were asked for, or the node with the least bound can't be branched, or a round for each
-- branching that was asked for was counted, or the time is up.
abbrev pub AreNoMore : Meaning → Rows → (branchings : ℕ) → Time → Nodes → ColumnPool
    → (bound old new : ℕ) → Type 0
AreNoMore c given branchings time nodes pool bound old new =
    (penalty c given ≤ bound)
    ⊎ (vec_capacity nodes.items ≤ branchings)
    ⊎ IsStuck c nodes nodes pool
    ⊎ HasSearchedFor c time branchings old new

-- The log of some lower bounds went out, and the answer is the last of them; and there are no more branchings
-- after the rounds, whose searches were counted by then. If there was capacity for the branchings that were
-- asked for, the answer is no less than the least of the nodes' bounds.
pub record EndsBranching {W K T : Type 0} (contents : W → Option (List ℕ)) (c : Meaning) (from : ℕ)
    (given : Rows) (deadline : Deadline K) (space : BoundSpace T) (counted counted_after : ℕ)
    (old new : Watched W) (raised : Raised) : Type 0 where
  pub counted_by_rounds : ℕ
  pub raises : RaisesBound contents c from given raised.effort counted counted_by_rounds old new raised.bound
  pub grows : counted_by_rounds ≤ counted_after
  pub no_more : AreNoMore c given raised.effort.nodes (time_of deadline) space.nodes space.bounds.pool
      raised.bound counted_by_rounds counted_after
  pub least : 0 < raised.effort.nodes → raised.effort.nodes < vec_capacity space.nodes.items
      → ReachesLeast space.nodes.items.items raised.bound
