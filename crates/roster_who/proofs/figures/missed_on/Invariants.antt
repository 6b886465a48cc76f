use Rattle.std.proofs.Common.{◌≡◌, ◌+◌, ◌-◌, ◌*◌, ◌≤◌}
use Rattle.roster_instance.specs.Counting.{sum_below}
use Rattle.roster_instance.specs.Meaning.{minimum, skill_count}
use Rattle.roster_rules.specs.Covers.{number_at}
use Rattle.roster_who.proofs.figures.missed_on.Given as goal

abbrev pub invariant-loop-shift : goal.invariant-loop-shift
invariant-loop-shift l = record {
  missed_is : l.missed ≡ sum_below l.shift (λ s. sum_below (skill_count l.case) (λ k. minimum l.case l.day s k - number_at l.covers s k));
  within : l.missed ≤ 524288 * l.shift;
}

abbrev pub invariant-loop-skill : goal.invariant-loop-skill
invariant-loop-skill l = record {
  missed_is : l.missed ≡ l.initial.missed + sum_below l.skill (λ k. minimum l.case l.day l.shift k - number_at l.covers l.shift k);
  within : l.missed ≤ l.initial.missed + 65536 * l.skill;
}
