use Rattle.std.proofs.Common.{◌≡◌}
use Rattle.roster_instance.specs.Counting.{all_below}
use Rattle.roster_instance.specs.Rosters.{choice_on}
use Rattle.roster_rules.specs.AllowedRows.{keeps_frozen_day}
use Rattle.roster_polish.proofs.near.keeps_frozen_days.Given as goal

abbrev pub invariant-loop-day : goal.invariant-loop-day
invariant-loop-day l = l.keeps ≡ all_below l.day (λ d. keeps_frozen_day l.base.case.now l.base.from l.base.given.now l.nurse d (choice_on l.row d))
