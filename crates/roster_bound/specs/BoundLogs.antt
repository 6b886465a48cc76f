-- The log of a run that raises a lower bound (our own).
use Rattle.std.specs.Prelude.{◌≡◌, ℕ, ◌+◌, ◌*◌, ◌<◌, ◌≤◌, All, List, [], ◌∷◌, ◌++◌, codes, decimal, flat_map}
use Rattle.roster_instance.specs.Meaning.{Meaning}
use Rattle.roster_instance.specs.Rosters.{Rows}
use Rattle.roster_rules.specs.Penalties.{penalty}
use Rattle.roster_rules.specs.Improver.{line, start_word}
use Rattle.roster_bound.specs.Branching.{IsNodesBound}
use Rattle.roster_bound.specs.declared.effort.Effort.{Effort}
use Rattle.roster_slots.specs.Slots.{AreDualPrices, SlotPrices}
use Rattle.roster_prices.specs.LowerBounds.{IsLowerBound, bound_by, first_bound}

-- a line of the log: a round, and the lower bound that it reached
pub record BoundLine : Type 0 where
  pub round : ℕ
  pub bound : ℕ

-- before the first round: the lower bound 0
abbrev pub no_line : BoundLine
no_line = record { round = 0; bound = 0 }

-- the last of some lines, or the one before them if there is none
abbrev pub last_line : BoundLine → List BoundLine → BoundLine
last_line before [] = before
last_line before (x ∷ xs) = last_line x xs

-- later rounds, greater lower bounds
abbrev pub Rises : BoundLine → List BoundLine → Type 0
Rises before [] = Unit {0}
Rises before (x ∷ xs) = (before.round < x.round) × (before.bound < x.bound) × Rises x xs

-- a round's bound: that of some dual prices at a scale, which are stated for the first round alone; and no
-- less than the first round's
pub record IsRoundBound (c : Meaning) (from : ℕ) (given : Rows) (x : BoundLine) : Type 0 where
  pub scale : ℕ
  pub some : 0 < scale
  pub dual_prices : SlotPrices
  pub are_dual_prices : AreDualPrices scale dual_prices
  pub bound_is : x.bound ≡ bound_by c from given scale dual_prices
  pub first : x.round ≡ 1 → x.bound ≡ first_bound c from given
  pub no_less : first_bound c from given ≤ x.bound

-- how many rounds are made in a node at most
abbrev pub node_rounds : ℕ
node_rounds = 12

-- how many rounds of searches that is at most: a branching takes those of two nodes
abbrev pub rounds_of : Effort → ℕ
rounds_of effort = effort.rounds + effort.nodes * (2 * node_rounds)

-- no branching
abbrev pub rounds_alone : ℕ → Effort
rounds_alone rounds = record { rounds = rounds; nodes = 0 }

-- each line is a lower bound, greater than the one before; no line is beyond the rounds and the branchings,
-- which are numbered after them; a round's lower bound is its bound, and that of a branching is the least of
-- some nodes; if there is a round, the last lower bound is no less than the first round's bound
pub record IsBoundLog (c : Meaning) (from : ℕ) (given : Rows) (effort : Effort)
    (lines : List BoundLine) : Type 0 where
  pub bounds : All (λ x. IsLowerBound c from given x.bound) lines
  pub each : All (λ x. x.round ≤ effort.rounds → IsRoundBound c from given x) lines
  pub later : All (λ x. effort.rounds < x.round → IsNodesBound c from given x.bound) lines
  pub rises : Rises no_line lines
  pub within : (last_line no_line lines).round ≤ effort.rounds + effort.nodes
  pub first : 0 < effort.rounds → first_bound c from given ≤ (last_line no_line lines).bound

-- ---- the text: the penalty of the given roster, then each lower bound

abbrev pub bound_line : BoundLine → List ℕ
bound_line x = line (codes "round " ++ decimal x.round) x.bound

abbrev pub bound_log_text : Meaning → Rows → List BoundLine → List ℕ
bound_log_text c given lines = line (start_word c) (penalty c given) ++ flat_map bound_line lines
