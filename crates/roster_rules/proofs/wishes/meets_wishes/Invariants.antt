use Rattle.std.proofs.Common.{◌≡◌, ◌||◌, not, true}
use Rattle.roster_instance.specs.Counting.{all_below}
use Rattle.roster_instance.specs.Days.{is_shift}
use Rattle.roster_instance.specs.Meaning.{has_wish}
use Rattle.roster_rules.proofs.wishes.meets_wishes.Given as goal

-- each wish for a shift before this one is met
abbrev pub invariant-loop-number : goal.invariant-loop-number
invariant-loop-number l = record {
  so_far : all_below l.number (λ s. not (has_wish l.case l.nurse l.day s) || is_shift s l.shift) ≡ true;
}
