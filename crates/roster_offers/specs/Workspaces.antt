-- The capacity of a workspace.
use Rattle.std.specs.Prelude.{◌≡◌, ℕ, ◌*◌, ◌≤◌, ◌==◌, ◌&&◌, Bool, List, nat_le}
use Rattle.arrayvec.specs.ArrayVec.{ArrayVec}
use Rattle.roster_instance.specs.Meaning.{Meaning, day_count}
use Rattle.roster_instance.specs.Rosters.{Row}
use Rattle.roster_instance.specs.Sizes.{state_count}
use Rattle.roster_laws.specs.Greatest.{greatest_state_count}
use Rattle.roster_offers.specs.declared.offer.Offer.{Offer}

-- ---- the tables of a search

-- how many labels the two tables have together, and how many pointers there are; and for how many labels each
-- table has capacity without an allocation
pub record TableCapacity : Type 0 where
  pub labels : ℕ
  pub pointers : ℕ
  pub label_capacity : ℕ
  pub later_capacity : ℕ

-- two labels for each of the nurse's states, and a pointer for each state and day
pub record HasTables (c : Meaning) (n : ℕ) (t : TableCapacity) : Type 0 where
  pub labels : 2 * state_count c n ≤ t.labels
  pub pointers : day_count c * state_count c n ≤ t.pointers

-- ---- a workspace

-- how many labels the two tables have together, and how many pointers and choices there are; for how many
-- labels and choices there is capacity without an allocation; the row of the last search, which is empty
-- before the first, and the offers of the days that were put in
pub record Space : Type 0 where
  pub labels : ℕ
  pub pointers : ℕ
  pub choices : ℕ
  pub label_capacity : ℕ
  pub later_capacity : ℕ
  pub row_capacity : ℕ
  pub row : Row
  pub offers : List (ArrayVec Offer)

-- the lengths are those of the case: twice the greatest number of states, and that number for each day; and
-- there are choices enough for each day
abbrev pub fits_space : Meaning → Space → Bool
fits_space c w =
    (w.labels == 2 * greatest_state_count c) && (w.pointers == greatest_state_count c * day_count c)
    && nat_le (day_count c) w.choices

-- the same capacity, whatever the row and the offers
pub record SameCapacity (old new : Space) : Type 0 where
  pub labels : new.labels ≡ old.labels
  pub pointers : new.pointers ≡ old.pointers
  pub choices : new.choices ≡ old.choices
  pub label_capacity : new.label_capacity ≡ old.label_capacity
  pub later_capacity : new.later_capacity ≡ old.later_capacity
  pub row_capacity : new.row_capacity ≡ old.row_capacity
