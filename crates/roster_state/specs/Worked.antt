-- What a worked day brings to a state, whatever the shift (our own).
use Rattle.std.specs.Prelude.{◌≡◌, ℕ, ◌+◌, ◌*◌, true, min, is_some, Some, None}
use Rattle.roster_instance.specs.declared.choice.Shift.{Shift}
use Rattle.roster_instance.specs.Meaning.{Meaning, contract_of, run_of_shift}
use Rattle.roster_instance.specs.Sizes.{cap}
use Rattle.roster_rules.specs.DayLaw.{weekends_more}
use Rattle.roster_rules.specs.Prefix.{Summary}
use Rattle.roster_rules.specs.Weights.{shift_run_weight}
use Rattle.roster_state.specs.declared.worked.WorkedDay.{WorkedDay}
use Rattle.roster_state.specs.Transition.{ended, free_more, split_more, total_more, weekend_more, working_more, working_run}

-- the numbers of the state after it except for the run of the shift; what it costs except for the runs of
-- shifts; and what the run of the last shift misses, which is owed if another shift is worked
pub record IsWorkedDay (c : Meaning) (n day : ℕ) (s : Summary) (worked : WorkedDay) : Type 0 where
  pub run : worked.run ≡ min (working_run s + 1) (cap (contract_of c n).working)
  pub assignments : worked.assignments ≡ min (s.assignments + 1) (cap (contract_of c n).total)
  pub weekends : worked.weekends
      ≡ min (s.weekends + weekends_more day (is_some s.last) true) (contract_of c n).weekends
  pub cost : (shift : Shift) → worked.cost
      ≡ working_more c n s (Some shift) + free_more c n s (Some shift) + split_more c n day s (Some shift)
      + total_more c n s (Some shift) + weekend_more c n day s (Some shift)
  pub left : worked.left ≡ shift_run_weight * ended (run_of_shift c) s.last s.shift_run None
