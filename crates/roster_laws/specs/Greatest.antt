-- The greatest sizes of the searches of a case, taken over its nurses.
use Rattle.std.specs.Prelude.{◌≡◌, ◌<◌, ◌≤◌, ℕ, ◌*◌, map}
use Rattle.std.specs.List.{range_with_len}
use Rattle.roster_instance.specs.Meaning.{Meaning, day_count, nurse_count}
use Rattle.roster_instance.specs.Sizes.{choice_count, greatest_of, state_count}

-- the most extensions in the search for a nurse's best row (a completion bound, a partial row or a state
-- taken over a choice): each state on each day by each choice
unfoldable pub extension_count : Meaning → ℕ → ℕ
extension_count c n = state_count c n * day_count c * choice_count c n

-- the greatest of a nurse's numbers
abbrev pub greatest_over_nurses : Meaning → (Meaning → ℕ → ℕ) → ℕ
greatest_over_nurses c size = greatest_of (map (size c) (range_with_len 0 (nurse_count c)))

-- the greatest number of states of a nurse in the case
unfoldable pub greatest_state_count : Meaning → ℕ
greatest_state_count c = greatest_over_nurses c state_count

-- the most extensions in one search of the case
unfoldable pub greatest_extension_count : Meaning → ℕ
greatest_extension_count c = greatest_over_nurses c extension_count

-- the most extensions in a run of rounds
abbrev pub extensions_in : Meaning → ℕ → ℕ
extensions_in c rounds = rounds * (nurse_count c * greatest_extension_count c)

-- it is at least the size of each nurse, and equal to that of one of them
pub record IsGreatest (nurses : ℕ) (size : ℕ → ℕ) (greatest : ℕ) : Type 0 where
  pub above : (n : ℕ) → n < nurses → size n ≤ greatest
  pub nurse : ℕ
  pub inside : nurse < nurses
  pub reached : size nurse ≡ greatest
