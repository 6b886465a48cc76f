use Rattle.std.proofs.Common.{◌≡◌, []}
use Rattle.roster_instance.specs.Meaning.{last_shift, past_of}
use Rattle.roster_instance.specs.Rosters.{days_of_nurse}
use Rattle.roster_rules.specs.HardRules.{shift_before}
use Rattle.roster_costs.specs.Irreparable.{follows_frozen, frozen_successions_of}
use Rattle.roster_costs.proofs.irreparable.frozen_succession_of.Given as goal

abbrev pub invariant-loop-day : goal.invariant-loop-day
invariant-loop-day l = record {
  none : frozen_successions_of l.case l.from l.roster l.nurse l.day ≡ [];
  before : l.last ≡ shift_before (last_shift (past_of l.case l.nurse).border) (days_of_nurse l.roster l.nurse) l.day;
  stays : l.stays ≡ follows_frozen l.case l.from l.nurse l.day;
}
