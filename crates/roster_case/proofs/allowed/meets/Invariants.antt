use Rattle.std.proofs.Common.{◌≡◌, true, not, nat_lt}
use Rattle.roster_instance.specs.Counting.{all_below}
use Rattle.roster_instance.specs.Meaning.{minimum, skill_count}
use Rattle.roster_laws.specs.OneRow.{others}
use Rattle.roster_laws.specs.Staffing.{with_choice}
use Rattle.roster_case.proofs.allowed.meets.Given as goal

abbrev pub invariant-loop-shift : goal.invariant-loop-shift
invariant-loop-shift l = all_below l.shift (λ s. all_below (skill_count l.held.case) (λ k. not (nat_lt (with_choice (others l.held.roster l.nurse l.day) l.choice s k) (minimum l.held.case l.day s k)))) ≡ true

abbrev pub invariant-loop-skill : goal.invariant-loop-skill
invariant-loop-skill l = all_below l.skill (λ k. not (nat_lt (with_choice (others l.held.roster l.nurse l.day) l.choice l.shift k) (minimum l.held.case l.day l.shift k))) ≡ true
