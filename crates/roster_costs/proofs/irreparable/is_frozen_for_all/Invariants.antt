use Rattle.std.proofs.Common.{◌≡◌, true}
use Rattle.roster_instance.specs.Counting.{all_below}
use Rattle.roster_rules.specs.AllowedRows.{is_frozen}
use Rattle.roster_costs.proofs.irreparable.is_frozen_for_all.Given as goal

abbrev pub invariant-loop-nurse : goal.invariant-loop-nurse
invariant-loop-nurse l = all_below l.nurse (λ n. is_frozen l.case l.from n l.day) ≡ true
