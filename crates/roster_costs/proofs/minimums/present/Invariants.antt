use Rattle.std.proofs.Common.{◌≡◌, ◌≤◌, ◌&&◌, not}
use Rattle.roster_instance.specs.declared.choice.Choice.TheVariants.{Work}
use Rattle.roster_instance.specs.Choices.{same_choice}
use Rattle.roster_instance.specs.Counting.{count_below}
use Rattle.roster_instance.specs.Meaning.{is_absent, shift_at, skill_at}
use Rattle.roster_instance.specs.Rosters.{choice_on, row_of}
use Rattle.roster_costs.proofs.minimums.present.Given as goal

abbrev pub invariant-loop-nurse : goal.invariant-loop-nurse
invariant-loop-nurse l = record {
  count_is : l.count ≡ count_below l.nurse (λ n. same_choice (choice_on (row_of l.roster n) l.day) (Work (shift_at l.shift.0) (skill_at l.skill.0)) && not (is_absent l.case n l.day));
  few : l.count ≤ l.nurse;
}
