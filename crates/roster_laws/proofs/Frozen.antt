-- What steps of best rows from a week on keep: the frozen days of each nurse, and the whole roster if all
-- days are frozen.
use Rattle.std.proofs.Common.{◌≡◌, ◌∙◌, ◌<◌, ◌≤◌, ◌⊎◌, ◌/◌, ◌||◌, ◌==◌, ℕ, Bool, true, false, not, cond, inl, inr, ap, arith, refl, sym, [], ◌∷◌, length, nat_lt, Contains, Option, Some, None}
use Rattle.std.specs.List.{list_all}
use Rattle.std.proofs.lemmas.Bool.{and_parts, cases_eq, cases_lt, eqb-true, lt-ltb}
use Rattle.std.proofs.lemmas.List.{ext_get_or, set-get_or, set_past}
use Rattle.std.proofs.lemmas.List.Elements.{Contains-append_right}
use Rattle.roster_instance.specs.declared.choice.Choice.{Choice}
use Rattle.roster_instance.specs.declared.choice.Choice.TheVariants.{Off}
use Rattle.roster_rules.specs.AllowedRows.{IsBestRow, allowed_rows, best_row, is_frozen, keeps_frozen_day, keeps_frozen_days}
use Rattle.roster_instance.specs.Choices.{same_choice}
use Rattle.roster_rules.specs.HardRules.{keeps_hard}
use Rattle.roster_rules.specs.Improver.{if_cheaper, run, step, step_with}
use Rattle.roster_instance.specs.Meaning.{Meaning, day_count, is_fixed, nurse_count, week_count}
use Rattle.roster_rules.specs.Penalties.{penalty}
use Rattle.roster_instance.specs.Rosters.{Row, Rows, choice_on, fits_case, is_choice_of, is_row_of, row_of, with_row}
use Rattle.roster_instance.proofs.RosterFacts.{row-length}
use Rattle.roster_laws.specs.FrozenDays.{FrozenDaysStay}
use Rattle.roster_laws.proofs.Allowed.{allowed_keeps}
use Rattle.roster_laws.proofs.Below.{all_elim}
use Rattle.roster_laws.proofs.Kept.{best_is_allowed, run_keeps}
use Rattle.roster_laws.proofs.OneRow.{other_row, own_row}
use Rattle.roster_laws.proofs.SameRows.{same_choice_is}

-- the choice of a frozen day is the present one
pub frozen_is : (c : Meaning) (from : ℕ) (r : Rows) (n d : ℕ) (choice : Choice) → keeps_frozen_day c from r n d choice ≡ true → is_frozen c from n d ≡ true → choice ≡ choice_on (row_of r n) d
frozen_is c from r n d choice keeps frozen = same_choice_is choice (choice_on (row_of r n) d) (ap (λ b. not b || same_choice choice (choice_on (row_of r n) d)) (sym frozen) ∙ keeps)

module _ (c : Meaning) (from : ℕ) where
  pub stays_self : (r : Rows) → FrozenDaysStay c from r r
  stays_self r n d within frozen = refl

  pub stays_on : (r s t : Rows) → FrozenDaysStay c from r s → FrozenDaysStay c from s t → FrozenDaysStay c from r t
  stays_on r s t first later n d within frozen = later n d within frozen ∙ first n d within frozen

  -- putting in a row that keeps the nurse's frozen days
  pub row_stays : (r : Rows) (n : ℕ) (row : Row) → keeps_frozen_days c from r n row ≡ true → FrozenDaysStay c from r (with_row r n row)
  row_stays r n row keeps m d within frozen = go (cases_lt n (length r)) (cases_eq m n)
    where
      go : (n < length r) ⊎ (length r ≤ n) → (m ≡ n) ⊎ (m ≡ n → ⊥) → choice_on (row_of (with_row r n row) m) d ≡ choice_on (row_of r m) d
      go (inr past) either = ap (λ rows. choice_on (row_of rows m) d) (set_past r n row past)
      go (inl inside) (inr other) = ap (λ own. choice_on own d) (other_row r n inside row m other)
      go (inl inside) (inl same) =
          ap (λ k. choice_on (row_of (with_row r n row) k) d) same
          ∙ ap (λ own. choice_on own d) (own_row r n inside row)
          ∙ frozen_is c from r n d (choice_on row d) (all_elim (day_count c) (λ k. keeps_frozen_day c from r n k (choice_on row k)) keeps d within) (ap (λ k. is_frozen c from k d) (sym same) ∙ frozen)
          ∙ ap (λ k. choice_on (row_of r k) d) (sym same)

  pub best_stays : (r : Rows) (n : ℕ) (row : Row) → IsBestRow c from r n row → FrozenDaysStay c from r (with_row r n row)
  best_stays r n row best =
      let member : Contains (allowed_rows c from r n) row = rw best.split (Contains-append_right best.before (row ∷ best.after) row (0, omega arith, refl)) in
      row_stays r n row (allowed_keeps c from r n row member).1

  pub step_stays : (r : Rows) (n : ℕ) → FrozenDaysStay c from r (step c (best_row c from) r n)
  unfolding step
  step_stays r n = go (best_row c from r n) refl
    where
      chosen : (row : Row) (b : Bool) → keeps_frozen_days c from r n row ≡ true → FrozenDaysStay c from r (cond b (with_row r n row) r)
      chosen row true keeps = row_stays r n row keeps
      chosen row false keeps = stays_self r

      go : (o : Option Row) → best_row c from r n ≡ o → FrozenDaysStay c from r (step_with c r n o)
      go None e = stays_self r
      go (Some row) e = chosen row (nat_lt (penalty c (with_row r n row)) (penalty c r)) (allowed_keeps c from r n row (best_is_allowed c from r n row e)).1

  -- one more step
  pub steps_stay : (first r : Rows) (n : ℕ) → FrozenDaysStay c from first r → FrozenDaysStay c from first (step c (best_row c from) r n)
  steps_stay first r n so_far = stays_on first r (step c (best_row c from) r n) so_far (step_stays r n)

  -- ---- all days are frozen

  module _ (all : week_count c ≤ from) where
    each_frozen : (n d : ℕ) → d < day_count c → is_frozen c from n d ≡ true
    each_frozen n d within = ap (λ b. b || is_fixed c n d) (lt-ltb (d / 7) from (omega (arith, within, all)))

    row_is_present : (r : Rows) (n : ℕ) (row : Row) → fits_case c r ≡ true → n < nurse_count c → (length row ≡ day_count c) → keeps_frozen_days c from r n row ≡ true → row ≡ row_of r n
    row_is_present r n row fits inside days keeps =
        ext_get_or Off row (row_of r n) (days ∙ sym (row-length c r n fits inside))
        (λ d h. frozen_is c from r n d (choice_on row d) (all_elim (day_count c) (λ k. keeps_frozen_day c from r n k (choice_on row k)) keeps d (omega (arith, h, days))) (each_frozen n d (omega (arith, h, days))))

    with_present : (r : Rows) (n : ℕ) (row : Row) → fits_case c r ≡ true → is_row_of c row ≡ true → keeps_frozen_days c from r n row ≡ true → with_row r n row ≡ r
    with_present r n row fits is keeps = go (cases_lt n (length r))
      where
        days : length row ≡ day_count c
        days = eqb-true (length row) (day_count c) (and_parts (length row == day_count c) (list_all (is_choice_of c) row) is).0

        go : (n < length r) ⊎ (length r ≤ n) → with_row r n row ≡ r
        go (inr past) = set_past r n row past
        go (inl inside) =
            let nurse : n < nurse_count c = omega (arith, inside, eqb-true (length r) (nurse_count c) (and_parts (length r == nurse_count c) (list_all (is_row_of c) r) fits).0) in
            ap (λ own. with_row r n own) (row_is_present r n row fits nurse days keeps) ∙ set-get_or r n []

    pub all_frozen-step : (r : Rows) → fits_case c r ≡ true → (n : ℕ) → step c (best_row c from) r n ≡ r
    unfolding step
    all_frozen-step r fits n = go (best_row c from r n) refl
      where
        either_same : (b : Bool) → cond b r r ≡ r
        either_same true = refl
        either_same false = refl

        go : (o : Option Row) → best_row c from r n ≡ o → step_with c r n o ≡ r
        go None e = refl
        go (Some row) e =
            let kept = allowed_keeps c from r n row (best_is_allowed c from r n row e) in
            ap (if_cheaper c r) (with_present r n row fits (and_parts (is_row_of c row) (keeps_hard c (with_row r n row)) kept.0).0 kept.1) ∙ either_same (nat_lt (penalty c r) (penalty c r))

    run_is : (rounds : ℕ) (r : Rows) → fits_case c r ≡ true → (run c (best_row c from) rounds r).roster ≡ r
    run_is rounds r fits = run_keeps c (best_row c from) (λ s. s ≡ r) (λ s n e. ap (λ q. step c (best_row c from) q n) e ∙ all_frozen-step r fits n) rounds r refl

pub all_frozen-run : (c : Meaning) (from rounds : ℕ) (r : Rows) → fits_case c r ≡ true → week_count c ≤ from → (run c (best_row c from) rounds r).roster ≡ r
all_frozen-run c from rounds r fits all = run_is c from all rounds r fits
