-- One more day from all states of a block, those that differ in their assignments alone (our own). A block is
-- its state without assignments, and its place a is the state with a assignments.
use Rattle.std.specs.Prelude.{◌≡◌, ℕ, ◌+◌, ◌-◌, ◌<◌, Bool, Option, min, nat_le, option_map, if◌then◌else◌}
use Rattle.roster_instance.specs.declared.choice.Shift.{Shift}
use Rattle.roster_instance.specs.Meaning.{Meaning}
use Rattle.roster_rules.specs.Prefix.{Summary}
use Rattle.roster_rules.specs.Weights.{assignment_weight}
use Rattle.roster_state.specs.declared.block.BlockStep.{BlockStep}
use Rattle.roster_state.specs.Codes.{sizes_of}
use Rattle.roster_state.specs.Transition.{transition_of, with_assignments}

-- the place to which a place goes, in a block of that many: the next one, if the places move and this isn't
-- the last
abbrev pub place_after : ℕ → Bool → ℕ → ℕ
place_after places moves a = if moves then min (a + 1) (places - 1) else a

-- what the day costs at a place
abbrev pub place_cost : BlockStep → ℕ → ℕ
place_cost transition a = transition.cost + (if nat_le transition.dearer_from a then assignment_weight else 0)

-- the summary after the day and its cost, from a place of a block of that many
abbrev pub place_step : ℕ → ℕ → BlockStep → Summary × ℕ
place_step places a transition =
    (with_assignments transition.next (place_after places transition.moves a), place_cost transition a)

-- each place of a block goes where its state goes on the day, at the same cost
abbrev pub AreBlockSteps : Meaning → (n day : ℕ) → Summary → Option Shift → Option BlockStep → Type 0
AreBlockSteps c n day block shift transition =
    (a : ℕ) → a < (sizes_of c n).assignments → option_map (place_step (sizes_of c n).assignments a) transition
    ≡ transition_of c n day (with_assignments block a) shift
