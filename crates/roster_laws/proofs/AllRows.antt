-- The list of all rows has each row of the case once, and no other.
use Rattle.std.proofs.Common.{◌≡◌, ◌∙◌, ◌+◌, ◌*◌, ◌<◌, ◌&&◌, ◌==◌, ℕ, zero, suc, Bool, true, false, cond, ap, ap₂, arith, sym, refl, List, [], ◌∷◌, length, map, add-mul, nat_le, nat_lt, Contains, if◌then◌else◌}
use Rattle.std.specs.List.{All, count_by, flat_map, list_all, range_with_len, sum_by}
use Rattle.std.proofs.lemmas.Bool.{ne_eqb}
use Rattle.std.proofs.lemmas.Bool.Decides.{nat_tests}
use Rattle.std.proofs.lemmas.List.Elements.{All-cons, All-contains, All-nil, Contains-append_right}
use Rattle.std.proofs.lemmas.List.Sums.{sum_by-append, sum_by-cons}
use Rattle.roster_instance.specs.declared.choice.Choice.{Choice}
use Rattle.roster_instance.specs.declared.choice.Choice.TheVariants.{Off, Work}
use Rattle.roster_instance.specs.declared.choice.Shift.{Shift}
use Rattle.roster_instance.specs.declared.choice.Skill.{Skill}
use Rattle.roster_instance.specs.Choices.{all_choices, all_rows, same_choice}
use Rattle.roster_instance.specs.Counting.{one_if}
use Rattle.roster_rules.specs.Improver.{same_row}
use Rattle.roster_instance.specs.Meaning.{Meaning, day_count, shift_at, shift_count, skill_at, skill_count}
use Rattle.roster_instance.specs.Rosters.{Row, is_choice_of, is_row_of}
use Rattle.roster_laws.proofs.SameRows.{same_choice_is, same_choice_self, same_row_is, same_row_self}

-- ---- how often a test passes

pub count-cons : {X : Type 0} (p : X → Bool) (x : X) (xs : List X) → count_by p (x ∷ xs) ≡ cond (p x) 1 0 + count_by p xs
count-cons p x xs = sum_by-cons (λ y. cond (p y) 1 0) x xs

count-flat : {X Y : Type 0} (p : Y → Bool) (f : X → List Y) (g : X → ℕ) → ((x : X) → count_by p (f x) ≡ g x) → (xs : List X) → count_by p (flat_map f xs) ≡ sum_by g xs
count-flat p f g each [] = refl
count-flat p f g each (x ∷ xs) =
    sum_by-append (λ y. cond (p y) 1 0) (f x) (flat_map f xs) ∙ ap₂ (λ a b. a + b) (each x) (count-flat p f g each xs) ∙ sym (sum_by-cons g x xs)

pub count-map : {X Y : Type 0} (p : Y → Bool) (q : X → Bool) (f : X → Y) → ((x : X) → p (f x) ≡ q x) → (xs : List X) → count_by p (map f xs) ≡ count_by q xs
count-map p q f each [] = refl
count-map p q f each (x ∷ xs) = count-cons p (f x) (map f xs) ∙ ap₂ (λ b n. cond b 1 0 + n) (each x) (count-map p q f each xs) ∙ sym (count-cons q x xs)

pub count-none : {X : Type 0} (xs : List X) → count_by (λ x. false) xs ≡ 0
count-none [] = refl
count-none {X} (x ∷ xs) = omega (arith, count-cons (λ (y : X). false) x xs, count-none xs)

sum-none : {X : Type 0} (xs : List X) → sum_by (λ x. 0) xs ≡ 0
sum-none [] = refl
sum-none {X} (x ∷ xs) = omega (arith, sum_by-cons (λ (y : X). 0) x xs, sum-none xs)

-- a sum that has the same number n for each item that passes a test, and 0 for the others
count-times : {X : Type 0} (p : X → Bool) (n : ℕ) (xs : List X) → sum_by (λ x. if p x then n else 0) xs ≡ count_by p xs * n
count-times p n [] = omega arith
count-times p n (x ∷ xs) =
    sum_by-cons (λ y. if p y then n else 0) x xs ∙ ap₂ (λ a b. a + b) (here (p x)) (count-times p n xs) ∙ sym (add-mul (cond (p x) 1 0) (count_by p xs) n) ∙ ap (λ m. m * n) (sym (count-cons p x xs))
  where
    here : (b : Bool) → (if b then n else 0) ≡ cond b 1 0 * n
    here true = omega arith
    here false = omega arith

count-range : (a n k : ℕ) → count_by (λ t. k == t) (range_with_len a n) ≡ one_if (nat_le a k && nat_lt k (a + n))
count-range a zero k = grind (arith, nat_tests)
count-range a (suc n) k = count-cons (λ t. k == t) a (range_with_len (a + 1) n) ∙ ap (λ m. cond (k == a) 1 0 + m) (count-range (a + 1) n k) ∙ one_more
  where
    one_more : cond (k == a) 1 0 + one_if (nat_le (a + 1) k && nat_lt k ((a + 1) + n)) ≡ one_if (nat_le a k && nat_lt k (a + suc n))
    one_more = grind (arith, nat_tests)

pub count-below : (n k : ℕ) → count_by (λ t. k == t) (range_with_len 0 n) ≡ one_if (nat_lt k n)
count-below n k = count-range 0 n k ∙ from_zero
  where
    from_zero : one_if (nat_le 0 k && nat_lt k (0 + n)) ≡ one_if (nat_lt k n)
    from_zero = grind (arith, nat_tests)

-- ---- choices

module _ (c : Meaning) where
  abbrev shifts : List ℕ
  shifts = range_with_len 0 (shift_count c)

  abbrev skills : List ℕ
  skills = range_with_len 0 (skill_count c)

  abbrev with_shift : ℕ → List Choice
  with_shift s = map (λ k. Work (shift_at s) (skill_at k)) skills

  count-off : count_by (same_choice Off) (flat_map with_shift shifts) ≡ 0
  count-off = count-flat (same_choice Off) with_shift (λ s. 0) (λ s. count-map (same_choice Off) (λ k. false) (λ k. Work (shift_at s) (skill_at k)) (λ k. refl) skills ∙ count-none skills) shifts ∙ sum-none shifts

  count-work : (s : Shift) (k : Skill) → count_by (same_choice (Work s k)) (flat_map with_shift shifts) ≡ one_if (nat_lt s.0 (shift_count c) && nat_lt k.0 (skill_count c))
  count-work s k =
      count-flat (same_choice (Work s k)) with_shift (λ t. if s.0 == t then here else 0) (λ t. count-map (same_choice (Work s k)) (λ l. (s.0 == t) && (k.0 == l)) (λ l. Work (shift_at t) (skill_at l)) (λ l. refl) skills ∙ of_shift (s.0 == t)) shifts
      ∙ count-times (λ t. s.0 == t) here shifts
      ∙ ap₂ (λ a b. a * b) (count-below (shift_count c) s.0) (count-below (skill_count c) k.0)
      ∙ both (nat_lt s.0 (shift_count c)) (nat_lt k.0 (skill_count c))
    where
      here : ℕ
      here = count_by (λ l. k.0 == l) skills

      of_shift : (b : Bool) → count_by (λ l. b && (k.0 == l)) skills ≡ (if b then here else 0)
      of_shift true = refl
      of_shift false = count-none skills

      both : (a b : Bool) → one_if a * one_if b ≡ one_if (a && b)
      both true true = refl
      both true false = refl
      both false b = omega arith

  pub count-choices : (x : Choice) → count_by (same_choice x) (all_choices c) ≡ one_if (is_choice_of c x)
  count-choices Off = omega (arith, count-cons (same_choice Off) Off (flat_map with_shift shifts), count-off)
  count-choices (Work s k) = omega (arith, count-cons (same_choice (Work s k)) Off (flat_map with_shift shifts), count-work s k)

-- ---- rows

longer : (a b : ℕ) → (suc a == suc b) ≡ (a == b)
longer a b = grind (arith, nat_tests)

module _ (choices : List Choice) (p : Choice → Bool) (each : (x : Choice) → count_by (same_choice x) choices ≡ one_if (p x)) where
  joined : (e q l : Bool) → one_if q * one_if (e && l) ≡ one_if (e && (q && l))
  joined true true true = refl
  joined true true false = refl
  joined true false l = omega arith
  joined false true l = refl
  joined false false l = refl

  count-rows : (m : ℕ) (row : Row) → count_by (same_row row) (all_rows choices m) ≡ one_if ((length row == m) && list_all p row)
  unfolding all_rows
  count-rows zero [] = refl
  count-rows zero (x ∷ xs) = ap (λ b. one_if (b && list_all p (x ∷ xs))) (sym (ne_eqb (length (x ∷ xs)) 0 (λ e. absurd (omega (arith, e)))))
  count-rows (suc m) [] =
      count-flat (same_row []) (λ first. map (λ rest. first ∷ rest) (all_rows choices m)) (λ first. 0)
      (λ first. count-map (same_row []) (λ rest. false) (λ rest. first ∷ rest) (λ rest. refl) (all_rows choices m) ∙ count-none (all_rows choices m)) choices
      ∙ sum-none choices
      ∙ ap (λ b. one_if (b && true)) (sym (ne_eqb 0 (suc m) (λ e. absurd (omega (arith, e)))))
  count-rows (suc m) (x ∷ xs) =
      let rows = all_rows choices m in
      let n = count_by (same_row xs) rows in
      let with_first : (b : Bool) → count_by (λ rest. b && same_row xs rest) rows ≡ (if b then n else 0) = elim [ true ↦ refl | false ↦ count-none rows ] in
      count-flat (same_row (x ∷ xs)) (λ first. map (λ rest. first ∷ rest) rows) (λ first. if same_choice x first then n else 0)
      (λ first. count-map (same_row (x ∷ xs)) (λ rest. same_choice x first && same_row xs rest) (λ rest. first ∷ rest) (λ rest. refl) rows ∙ with_first (same_choice x first)) choices
      ∙ count-times (same_choice x) n choices
      ∙ ap₂ (λ a b. a * b) (each x) (count-rows m xs)
      ∙ joined (length xs == m) (p x) (list_all p xs)
      ∙ ap (λ b. one_if (b && (p x && list_all p xs))) (sym (longer (length xs) m))

pub count-all_rows : (c : Meaning) (row : Row) → count_by (same_row row) (all_rows (all_choices c) (day_count c)) ≡ one_if (is_row_of c row)
count-all_rows c row = count-rows (all_choices c) (is_choice_of c) (count-choices c) (day_count c) row

-- ---- members

pub passes : {X : Type 0} (p : X → Bool) (xs : List X) → All (λ y. p y ≡ true → 0 < count_by p xs) xs
passes p [] = All-nil (λ y. p y ≡ true → 0 < 0)
passes {X} p (x ∷ xs) =
    let P : X → Type 0 = λ y. p y ≡ true → 0 < count_by p (x ∷ xs) in
    All-cons P x xs (λ e. omega (arith, count-cons p x xs, ap one_if e)) (λ k d h e. omega (arith, count-cons p x xs, passes p xs k d h e))

module _ {X : Type 0} (same : X → X → Bool) where
  contains_count : ((x : X) → same x x ≡ true) → (xs : List X) (x : X) → Contains xs x → 0 < count_by (same x) xs
  contains_count self xs x member = All-contains (λ y. same x y ≡ true → 0 < count_by (same x) xs) xs x (passes (same x) xs) member (self x)

  count_contains : ((x y : X) → same x y ≡ true → x ≡ y) → (xs : List X) (x : X) → 0 < count_by (same x) xs → Contains xs x
  count_contains is [] x some = absurd (omega (arith, some))
  count_contains is (y ∷ ys) x some = go (same x y) refl (rw count-cons at some) (count_contains is ys x)
    where
      go : (b : Bool) → same x y ≡ b → 0 < cond (same x y) 1 0 + count_by (same x) ys → (0 < count_by (same x) ys → Contains ys x) → Contains (y ∷ ys) x
      go true e h later = rw (is x y e) (0, omega arith, refl)
      go false e h later = Contains-append_right (y ∷ []) ys x (later (omega (arith, h, ap one_if e)))

pub is_one : (b : Bool) → 0 < one_if b → b ≡ true
is_one true h = refl
is_one false h = absurd (omega (arith, h))

module _ (c : Meaning) where
  pub member_is_choice : (x : Choice) → Contains (all_choices c) x → is_choice_of c x ≡ true
  member_is_choice x member = is_one (is_choice_of c x) (rw (← count-choices c x) (contains_count same_choice same_choice_self (all_choices c) x member))

  pub choice_is_member : (x : Choice) → is_choice_of c x ≡ true → Contains (all_choices c) x
  choice_is_member x is = count_contains same_choice same_choice_is (all_choices c) x (omega (arith, count-choices c x, ap one_if is))

  pub member_is_row : (row : Row) → Contains (all_rows (all_choices c) (day_count c)) row → is_row_of c row ≡ true
  member_is_row row member = is_one (is_row_of c row) (rw (← count-all_rows c row) (contains_count same_row same_row_self (all_rows (all_choices c) (day_count c)) row member))

  pub row_is_member : (row : Row) → is_row_of c row ≡ true → Contains (all_rows (all_choices c) (day_count c)) row
  row_is_member row is = count_contains same_row same_row_is (all_rows (all_choices c) (day_count c)) row (omega (arith, count-all_rows c row, ap one_if is))
