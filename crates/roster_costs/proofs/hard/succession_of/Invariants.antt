use Rattle.std.proofs.Common.{◌≡◌, []}
use Rattle.roster_instance.specs.Faults.{below}
use Rattle.roster_rules.specs.HardRules.{shift_before, succession_fault}
use Rattle.roster_instance.specs.Meaning.{last_shift, past_of}
use Rattle.roster_instance.specs.Rosters.{days_of_nurse}
use Rattle.roster_costs.proofs.hard.succession_of.Given as goal

abbrev pub invariant-loop-day : goal.invariant-loop-day
invariant-loop-day l = record {
  none : below l.day (λ d. succession_fault l.case l.roster l.nurse d) ≡ [];
  before : l.last ≡ shift_before (last_shift (past_of l.case l.nurse).border) (days_of_nurse l.roster l.nurse) l.day;
}
