-- A nurse's allowed rows from a week on, and the best of them (our own: the first of least penalty, with the
-- other rows unchanged).
use Rattle.std.specs.Prelude.{◌≡◌, ℕ, ◌/◌, Bool, not, ◌&&◌, ◌||◌, ◌<◌, ◌≤◌, nat_lt, if◌then◌else◌, List, [], ◌∷◌, ◌++◌, All, filter, Option, Some, None}
use Rattle.roster_instance.specs.declared.choice.Choice.{Choice}
use Rattle.roster_instance.specs.Choices.{all_choices, all_rows, same_choice}
use Rattle.roster_instance.specs.Counting.{all_below}
use Rattle.roster_rules.specs.HardRules.{keeps_hard}
use Rattle.roster_instance.specs.Meaning.{Meaning, day_count, is_fixed}
use Rattle.roster_rules.specs.Penalties.{penalty}
use Rattle.roster_instance.specs.Rosters.{Row, Rows, choice_on, is_row_of, row_of, with_row}

-- the days of the weeks before week `from` are frozen, and so are the nurse's fixed days
abbrev pub is_frozen : Meaning → ℕ → ℕ → ℕ → Bool
is_frozen c from n d = nat_lt (d / 7) from || is_fixed c n d

-- a choice on a frozen day is the nurse's present one
abbrev pub keeps_frozen_day : Meaning → ℕ → Rows → ℕ → ℕ → Choice → Bool
keeps_frozen_day c from r n d choice =
    not (is_frozen c from n d) || same_choice choice (choice_on (row_of r n) d)

-- the row agrees with the nurse's present one on each frozen day
abbrev pub keeps_frozen_days : Meaning → ℕ → Rows → ℕ → Row → Bool
keeps_frozen_days c from r n row =
    all_below (day_count c) (λ d. keeps_frozen_day c from r n d (choice_on row d))

-- all rows, in order, with which the roster keeps the hard rules and that keep the nurse's frozen days
abbrev pub allowed_rows : Meaning → ℕ → Rows → ℕ → List Row
allowed_rows c from r n =
    filter (λ row. keeps_hard c (with_row r n row) && keeps_frozen_days c from r n row)
    (all_rows (all_choices c) (day_count c))

-- the row is one of the case's, and with it the roster keeps the hard rules
abbrev pub row_keeps : Meaning → Rows → ℕ → Row → Bool
row_keeps c r n row = is_row_of c row && keeps_hard c (with_row r n row)

-- the roster's penalty with this row
abbrev pub penalty_with : Meaning → Rows → ℕ → Row → ℕ
penalty_with c r n row = penalty c (with_row r n row)

-- x is the first member that is no dearer than any other: those before it are dearer, and none after it is
-- cheaper
pub record IsFirstLeast {A : Type 0} (cost : A → ℕ) (xs : List A) (x : A) : Type 0 where
  pub before : List A
  pub after : List A
  pub split : xs ≡ before ++ x ∷ after
  pub dearer : All (λ y. cost x < cost y) before
  pub least : All (λ y. cost x ≤ cost y) after

-- the cheaper of two members; if they are equally dear, the first
abbrev pub cheaper_of : {A : Type 0} → (A → ℕ) → A → Option A → A
cheaper_of cost x None = x
cheaper_of cost x (Some y) = if nat_lt (cost y) (cost x) then y else x

-- the first member that is no dearer than any other, if there is one
abbrev pub first_least : {A : Type 0} → (A → ℕ) → List A → Option A
first_least cost [] = None
first_least cost (x ∷ xs) = Some (cheaper_of cost x (first_least cost xs))

-- the best row of a nurse, as a property
abbrev pub IsBestRow : Meaning → ℕ → Rows → ℕ → Row → Type 0
IsBestRow c from r n row = IsFirstLeast (penalty_with c r n) (allowed_rows c from r n) row

-- the same as a function
abbrev pub best_row : Meaning → ℕ → Rows → ℕ → Option Row
best_row c from r n = first_least (penalty_with c r n) (allowed_rows c from r n)
