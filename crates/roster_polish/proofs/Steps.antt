-- A step of a descent, and what it spends.
use Rattle.std.proofs.Common.{◌≡◌, ◌∙◌, ◌+◌, ◌-◌, ◌*◌, ◌<◌, ◌≤◌, ◌⊎◌, ℕ, Bool, true, false, not, inl, inr, ap, arith, mul_assoc, nat_lt, refl, subst, sym}
use Rattle.std.specs.List.{All}
use Rattle.std.proofs.lemmas.Bool.{cases_Bool, ltb-false, ltb-true}
use Rattle.std.proofs.lemmas.Nat.{mul-le}
use Rattle.roster_instance.specs.Counting.{one_if}
use Rattle.roster_instance.specs.Meaning.{Meaning, nurse_count}
use Rattle.roster_instance.specs.Rosters.{Rows}
use Rattle.roster_rules.specs.AllowedRows.{allowed_rows, best_row, penalty_with}
use Rattle.roster_rules.specs.Improver.{same_rows, step}
use Rattle.roster_rules.specs.Penalties.{penalty}
use Rattle.roster_laws.specs.Greatest.{extension_count, extensions_in, greatest_extension_count}
use Rattle.roster_laws.proofs.GreatestLemmas.{greatest_extensions}
use Rattle.roster_laws.proofs.SameRows.{same_rows_is}
use Rattle.roster_laws.proofs.Steps.{changed_is_cheaper, step_is_least}
use Rattle.roster_laws.specs.Settled.{HasBestRow}
use Rattle.roster_polish.specs.Settled.{Spends, extensions_of}

-- a Boolean whose negation is false
not_false : (b : Bool) → false ≡ not b → b ≡ true
not_false true e = refl
not_false false e = e

module _ (c : Meaning) (from : ℕ) (r new : Rows) (n : ℕ) (is : new ≡ step c (best_row c from) r n) where
  -- a step that changes nothing leaves a best row
  module _ (changed : Bool) (changed_is : changed ≡ not (same_rows new r)) (unchanged : changed ≡ false) where
    pub is_same : new ≡ r
    is_same = same_rows_is new r (not_false (same_rows new r) (sym unchanged ∙ changed_is))

    pub has_best : HasBestRow c from new n
    has_best = subst (λ s. HasBestRow c from s n) (sym is_same) (subst (λ s. All (λ row. penalty c s ≤ penalty_with c r n row) (allowed_rows c from r n)) (sym is ∙ is_same) (step_is_least c from r n))

  -- a step that changes something makes the roster cheaper
  pub falls_if : (changed : Bool) → changed ≡ not (same_rows new r) → changed ≡ true → penalty c new < penalty c r
  falls_if changed changed_is differs =
      ltb-true (penalty c new) (penalty c r) (ap (λ s. nat_lt (penalty c s) (penalty c r)) is ∙ sym (changed_is_cheaper c (best_row c from) r n) ∙ ap (λ s. not (same_rows s r)) (sym is) ∙ sym changed_is ∙ differs)

pub one_and_rest : (less size : ℕ) → (less + 1) * size ≡ size + less * size
one_and_rest less size = omega arith

pub both_of : (a b size : ℕ) → (a + b) * size ≡ a * size + b * size
both_of a b size = omega arith

module _ (c : Meaning) (n meter left : ℕ) (inside : n < nurse_count c) (some : 0 < left) where
  one_more : extension_count c n ≤ greatest_extension_count c
  one_more = (greatest_extensions c (omega (arith, inside))).above n inside

  one_of : extensions_of c left ≡ greatest_extension_count c + extensions_of c (left - 1)
  one_of =
      let is : left ≡ left - 1 + 1 = omega (arith, some) in
      ap (λ m. m * greatest_extension_count c) is ∙ one_and_rest (left - 1) (greatest_extension_count c)

  -- a search is one of those that are left
  pub search_fits_meter : (most : ℕ) → meter + extensions_of c left ≤ most → meter + extension_count c n ≤ most
  search_fits_meter most room = omega (arith, one_more, one_of, room)

  pub spent : (new left_new : ℕ) → left_new ≡ left - 1 → new ≤ meter + extension_count c n → Spends c meter left new left_new
  spent new left_new less counted = record { fewer = omega (arith, less); counted = omega (arith, counted, one_more, one_of, ap (extensions_of c) less) }

  -- no search is taken if the meter stood still
  pub spent_if : (before after left_new : ℕ) → before ≡ meter → left_new ≡ left - one_if (nat_lt before after) → after ≤ meter + extension_count c n → Spends c meter left after left_new
  spent_if before after left_new begun less counted = go (cases_Bool (nat_lt before after))
    where
      go : (nat_lt before after ≡ true) ⊎ (nat_lt before after ≡ false) → Spends c meter left after left_new
      go (inl searched) = spent after left_new (less ∙ ap (λ b. left - one_if b) searched) counted
      go (inr still) =
          let one_less_none : left_new ≡ left - 0 = less ∙ ap (λ b. left - one_if b) still in
          let none : left_new ≡ left = omega (arith, one_less_none) in
          record { fewer = omega (arith, none); counted = omega (arith, ltb-false before after still, begun, ap (extensions_of c) none) }

-- one spending after another
pub spent_both : (c : Meaning) (meter left meter2 left2 meter3 left3 : ℕ) → Spends c meter left meter2 left2 → Spends c meter2 left2 meter3 left3 → Spends c meter left meter3 left3
spent_both c meter left meter2 left2 meter3 left3 first later = record { fewer = omega (arith, first.fewer, later.fewer); counted = omega (arith, first.counted, later.counted) }

-- what is left can be counted if all could be
pub rest_fits_meter : (c : Meaning) (meter left meter2 left2 most : ℕ) → Spends c meter left meter2 left2 → meter + extensions_of c left ≤ most → meter2 + extensions_of c left2 ≤ most
rest_fits_meter c meter left meter2 left2 most spends room = omega (arith, spends.counted, room)

-- the same if the clock was read before
pub spent_read : (c : Meaning) (meter left read meter2 left2 : ℕ) → read ≡ left → Spends c meter read meter2 left2 → Spends c meter left meter2 left2
spent_read c meter left read meter2 left2 same spends = subst (λ n. Spends c meter n meter2 left2) same spends

pub spent_none : (c : Meaning) (meter left : ℕ) → Spends c meter left meter left
spent_none c meter left = record { fewer = omega arith; counted = omega arith }

-- ---- a round over all nurses

module _ (c : Meaning) (meter left : ℕ) (enough : nurse_count c ≤ left) where
  round_of : extensions_of c left ≡ extensions_of c (left - nurse_count c) + extensions_of c (nurse_count c)
  round_of =
      let is : left ≡ left - nurse_count c + nurse_count c = omega (arith, enough) in
      ap (extensions_of c) is ∙ both_of (left - nurse_count c) (nurse_count c) (greatest_extension_count c)

  pub round_spent : (new : ℕ) → new ≤ meter + nurse_count c * greatest_extension_count c → Spends c meter left new (left - nurse_count c)
  round_spent new counted = record { fewer = omega arith; counted = omega (arith, counted, round_of) }

pub round_fits_meter : (c : Meaning) (meter left meter2 left2 most : ℕ) → Spends c meter left meter2 left2 → meter + extensions_of c left ≤ most → nurse_count c ≤ left2 → meter2 + nurse_count c * greatest_extension_count c ≤ most
round_fits_meter c meter left meter2 left2 most spends room enough =
    omega (arith, rest_fits_meter c meter left meter2 left2 most spends room, mul-le (nurse_count c) (greatest_extension_count c) left2 (greatest_extension_count c) enough (omega arith))
