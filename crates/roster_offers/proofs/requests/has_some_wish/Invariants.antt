use Rattle.std.proofs.Common.{◌≡◌, ◌<◌, ◌&&◌, ◌||◌, ℕ, None, false, not, slice_index_or}
use Rattle.roster_instance.specs.Counting.{all_below}
use Rattle.roster_instance.specs.Days.{is_shift}
use Rattle.roster_instance.specs.Meaning.{has_wish, has_wish_for_any}
use Rattle.roster_offers.proofs.requests.has_some_wish.Given as goal

-- `some` says whether the wishes so far include one that a day off doesn't meet; if not, there is none for
-- any shift, and none for the shifts before this one
abbrev pub invariant-loop-number : goal.invariant-loop-number
invariant-loop-number l = record {
  so_far : l.some ≡ not ((not (has_wish_for_any l.case l.nurse l.day) || false) && all_below l.number (λ s. not (has_wish l.case l.nurse l.day s) || is_shift s None));
  any : l.some ≡ false → l.wishes.any ≡ false;
  named : l.some ≡ false → (s : ℕ) → s < l.number → slice_index_or l.wishes.shifts s false ≡ false;
}
