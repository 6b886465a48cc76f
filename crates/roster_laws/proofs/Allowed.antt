-- The allowed rows, and the present one among them.
use Rattle.std.proofs.Common.{◌≡◌, ◌∙◌, ◌<◌, ◌/◌, ◌&&◌, ◌||◌, not, ℕ, Bool, true, false, cond, ap, ap₂, arith, refl, List, [], ◌∷◌, Contains, IsSome}
use Rattle.std.proofs.Math.Bool.{and-true}
use Rattle.std.specs.List.{All, filter}
use Rattle.std.proofs.lemmas.Bool.{and_from, and_parts, le-ltb}
use Rattle.std.proofs.lemmas.List.{set-get_or}
use Rattle.std.proofs.lemmas.List.Elements.{All-cons, All-contains, All-contains_itself, All-filter, All-nil, All-weaker, Contains-append_right, filter_passes}
use Rattle.roster_instance.specs.Choices.{all_choices, all_rows, same_choice}
use Rattle.roster_rules.specs.HardRules.{keeps_hard}
use Rattle.roster_instance.specs.Meaning.{Meaning, day_count, nurse_count}
use Rattle.roster_instance.specs.Rosters.{Row, Rows, choice_on, fits_case, is_row_of, row_of, with_row}
use Rattle.roster_rules.specs.AllowedRows.{allowed_rows, best_row, first_least, is_frozen, keeps_frozen_day, keeps_frozen_days, penalty_with, row_keeps}
use Rattle.roster_instance.proofs.RosterFacts.{row_fits}
use Rattle.roster_laws.specs.FixedDays.{NothingIsFixed}
use Rattle.roster_laws.proofs.AllRows.{member_is_row, row_is_member}
use Rattle.roster_laws.proofs.Below.{all_true}
use Rattle.roster_laws.proofs.SameRows.{same_choice_self}

-- ---- filtered lists

module _ {X : Type 0} (p : X → Bool) where
  pub kept_is_member : (xs : List X) (x : X) → Contains (filter p xs) x → Contains xs x
  kept_is_member xs x member = All-contains (Contains xs) (filter p xs) x (All-filter p (Contains xs) xs (All-contains_itself xs)) member

  pub kept_passes : (xs : List X) (x : X) → Contains (filter p xs) x → p x ≡ true
  kept_passes xs x member = All-contains (λ y. p y ≡ true) (filter p xs) x (filter_passes p xs) member

  first_kept : (x : X) (xs : List X) (b : Bool) → b ≡ true → Contains (cond b (x ∷ xs) xs) x
  first_kept x xs b e = rw e (0, omega arith, refl)

  later_kept : (x : X) (xs : List X) (b : Bool) (y : X) → Contains xs y → Contains (cond b (x ∷ xs) xs) y
  later_kept x xs true y member = Contains-append_right (x ∷ []) xs y member
  later_kept x xs false y member = member

  each_kept : (xs : List X) → All (λ y. p y ≡ true → Contains (filter p xs) y) xs
  each_kept [] = All-nil (λ y. p y ≡ true → Contains {X = X} [] y)
  each_kept (x ∷ xs) =
      All-cons (λ y. p y ≡ true → Contains (filter p (x ∷ xs)) y) x xs (first_kept x (filter p xs) (p x))
      (All-weaker (λ y. p y ≡ true → Contains (filter p xs) y) (λ y. p y ≡ true → Contains (filter p (x ∷ xs)) y) (λ y keeps e. later_kept x (filter p xs) (p x) y (keeps e)) xs (each_kept xs))

  pub member_is_kept : (xs : List X) (x : X) → Contains xs x → p x ≡ true → Contains (filter p xs) x
  member_is_kept xs x member passes = All-contains (λ y. p y ≡ true → Contains (filter p xs) y) xs x (each_kept xs) member passes

pub some_least : {X : Type 0} (cost : X → ℕ) (xs : List X) (x : X) → Contains xs x → IsSome (first_least cost xs)
some_least cost [] x member = absurd (omega (arith, member.1))
some_least cost (y ∷ ys) x member = refl

-- ---- allowed rows

or_second : (a : Bool) {b : Bool} → b ≡ true → (a || b) ≡ true
or_second true e = refl
or_second false e = e

module _ (c : Meaning) (from : ℕ) (r : Rows) (n : ℕ) where
  hard : Row → Bool
  hard row = keeps_hard c (with_row r n row)

  frozen : Row → Bool
  frozen row = keeps_frozen_days c from r n row

  rows : List Row
  rows = all_rows (all_choices c) (day_count c)

  pub allowed_keeps : (row : Row) → Contains (allowed_rows c from r n) row → (row_keeps c r n row ≡ true) × (keeps_frozen_days c from r n row ≡ true)
  unfolding hard frozen rows
  allowed_keeps row member =
      let parts = and_parts (hard row) (frozen row) (kept_passes (λ own. hard own && frozen own) rows row member) in
      (and_from (is_row_of c row) (hard row) (member_is_row c row (kept_is_member (λ own. hard own && frozen own) rows row member)) parts.0, parts.1)

  pub keeps_allowed : (row : Row) → (row_keeps c r n row ≡ true) × (keeps_frozen_days c from r n row ≡ true) → Contains (allowed_rows c from r n) row
  unfolding hard frozen rows
  keeps_allowed row (keeps, stays) =
      let parts = and_parts (is_row_of c row) (hard row) keeps in
      member_is_kept (λ own. hard own && frozen own) rows row (row_is_member c row parts.0) (and_from (hard row) (frozen row) parts.1 stays)

  -- the present row agrees with itself
  pub present_stays : keeps_frozen_days c from r n (row_of r n) ≡ true
  present_stays = all_true (day_count c) (λ d. keeps_frozen_day c from r n d (choice_on (row_of r n) d)) (λ d h. or_second (not (is_frozen c from n d)) (same_choice_self (choice_on (row_of r n) d)))

  module _ (fitting : fits_case c r ≡ true) (kept : keeps_hard c r ≡ true) (inside : n < nurse_count c) where
    pub present_allowed : Contains (allowed_rows c from r n) (row_of r n)
    present_allowed = keeps_allowed (row_of r n) (and_from (is_row_of c (row_of r n)) (keeps_hard c (with_row r n (row_of r n))) (row_fits c r n fitting inside) (ap (keeps_hard c) (set-get_or r n []) ∙ kept), present_stays)

    pub best_exists : IsSome (best_row c from r n)
    best_exists = some_least (penalty_with c r n) (allowed_rows c from r n) (row_of r n) present_allowed

-- ---- from week 0 on no day is frozen, if none is fixed

none_frozen : (c : Meaning) → NothingIsFixed c → (r : Rows) (n : ℕ) (row : Row) → keeps_frozen_days c 0 r n row ≡ true
none_frozen c nothing r n row =
    all_true (day_count c) (λ d. keeps_frozen_day c 0 r n d (choice_on row d))
    (λ d h. ap₂ (λ a b. not (a || b) || same_choice (choice_on row d) (choice_on (row_of r n) d)) (le-ltb (d / 7) 0 (omega arith)) (nothing n d))

pub rows_from_week_0 : (c : Meaning) → NothingIsFixed c → (r : Rows) (n : ℕ) → allowed_rows c 0 r n ≡ filter (λ row. keeps_hard c (with_row r n row)) (all_rows (all_choices c) (day_count c))
rows_from_week_0 c nothing r n =
    λ i. filter (λ row. (ap (λ b. keeps_hard c (with_row r n row) && b) (none_frozen c nothing r n row) ∙ and-true (keeps_hard c (with_row r n row))) i) (all_rows (all_choices c) (day_count c))
