use Rattle.std.proofs.Common.{◌≡◌, ◌&&◌, true, not}
use Rattle.roster_instance.specs.Choices.{days_of}
use Rattle.roster_instance.specs.Counting.{all_below}
use Rattle.roster_instance.specs.Meaning.{last_shift, past_of}
use Rattle.roster_instance.specs.Rosters.{choice_on}
use Rattle.roster_rules.specs.HardRules.{breaks_succession, shift_before}
use Rattle.roster_laws.specs.OneRow.{is_open}
use Rattle.roster_case.proofs.allowed.is_open_row.Given as goal

abbrev pub invariant-loop-day : goal.invariant-loop-day
invariant-loop-day l = record {
  before : l.last ≡ shift_before (last_shift (past_of l.held.case l.nurse).border) (days_of l.row) l.day;
  so_far : all_below l.day (λ d. is_open l.held.case l.held.roster l.nurse d (choice_on l.row d) && not (breaks_succession l.held.case l.nurse (days_of l.row) d)) ≡ true;
}
