use Rattle.std.proofs.Common.{◌≡◌, ◌+◌, ◌-◌, ◌*◌, ◌≤◌}
use Rattle.roster_instance.specs.Counting.{sum_below}
use Rattle.roster_instance.specs.Meaning.{minimum, skill_count}
use Rattle.roster_costs.specs.Minimums.{present}
use Rattle.roster_costs.proofs.minimums.missing_on.Given as goal

abbrev pub invariant-loop-shift : goal.invariant-loop-shift
invariant-loop-shift l = record {
  missing_is : l.missing ≡ sum_below l.shift (λ s. sum_below (skill_count l.case) (λ k. minimum l.case l.day s k - present l.case l.roster l.day s k));
  within : l.missing ≤ 524288 * l.shift;
}

abbrev pub invariant-loop-skill : goal.invariant-loop-skill
invariant-loop-skill l = record {
  missing_is : l.missing ≡ l.initial.missing + sum_below l.skill (λ k. minimum l.case l.day l.shift k - present l.case l.roster l.day l.shift k);
  within : l.missing ≤ l.initial.missing + 65536 * l.skill;
}
