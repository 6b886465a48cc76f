use Rattle.std.proofs.Common.{◌≡◌, ◌<◌, ◌≤◌, ℕ, [], take}
use Rattle.std.specs.List.{enumerate_from, flat_map}
use Rattle.roster_instance.specs.CaseParts.{case_of}
use Rattle.roster_instance.specs.Refusals.{state_fault}
use Rattle.roster_instance.specs.Limits.{most_states}
use Rattle.roster_instance.specs.Sizes.{state_count}
use Rattle.roster_instance.proofs.case.check_states.Given as goal

abbrev pub invariant-loop-nurse : goal.invariant-loop-nurse
invariant-loop-nurse l = record {
  few : (n : ℕ) → n < l.nurse → state_count (case_of l.scenario [] []) n ≤ most_states;
  none : flat_map (state_fault (case_of l.scenario [] [])) (enumerate_from 0 (take l.nurse l.nurses)) ≡ [];
}
