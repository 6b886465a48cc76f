-- How many days and weekends can be worked at most in the days that are left.
use Rattle.std.proofs.lemmas.Bool.{cases_eq, eq-eqb, ne_eqb}
use Rattle.std.proofs.Common.{◌≡◌, ◌+◌, ◌*◌, ◌/◌, ◌%◌, ◌≤◌, ◌==◌, ◌⊎◌, ◌&&◌, ℕ, suc, Bool, true, false, not, inl, inr, arith, subst, List, ◌∷◌, Option, Some, if◌then◌else◌, is_some}
use Rattle.roster_instance.specs.declared.choice.Shift.{Shift}
use Rattle.roster_instance.specs.Choices.{shift_of}
use Rattle.roster_instance.specs.Counting.{one_if}
use Rattle.roster_instance.specs.Meaning.{Meaning, day_count, week_count}
use Rattle.roster_state.proofs.SumLaw.{one_at_most}
use Rattle.roster_rules.specs.Prefix.{Summary}
use Rattle.roster_offers.specs.Offers.{best_of_offers_at}
use Rattle.roster_offers.specs.declared.offer.Offer.{Offer}
use Rattle.roster_state.specs.Transition.{next_of}
use Rattle.roster_completion.specs.Later.{days_to_work, weekends_to_work}
use Rattle.roster_completion.proofs.BestLaw.{by_days, last_of_next}

-- in m days up to the end of a week this number of weekends begin or go on: on a Sunday this one counts if
-- the Saturday wasn't worked
abbrev weekends_left : ℕ → Option Shift → ℕ
weekends_left m last = if m % 7 == 1 then m / 7 + one_if (not (is_some last)) else (m + 6) / 7

-- the same, by what the tests return alone
abbrev begins : (sat sun before now : Bool) → ℕ
begins sat sun before now = if sat then one_if now else if sun then one_if (not before && now) else 0

abbrev left_where : (sun : Bool) → ℕ → Bool → ℕ
left_where sun m before = if sun then m / 7 + one_if (not before) else (m + 6) / 7

on_saturday : (m : ℕ) (before now : Bool) → m % 7 ≡ 1 → begins true false before now + left_where true m now ≤ left_where false (suc m) before
on_saturday m before true at = omega (arith, at)
on_saturday m before false at = omega (arith, at)

on_sunday : (m : ℕ) (before now : Bool) → m % 7 ≡ 0 → begins false true before now + left_where false m now ≤ left_where true (suc m) before
on_sunday m true now at = omega (arith, at)
on_sunday m false true at = omega (arith, at)
on_sunday m false false at = omega (arith, at)

weekend_day : (m d weeks : ℕ) (before now : Bool) → suc m + d ≡ 7 * weeks → begins (d % 7 == 5) (d % 7 == 6) before now + left_where (m % 7 == 1) m now ≤ left_where (suc m % 7 == 1) (suc m) before
weekend_day m d weeks before now days = go (cases_eq (d % 7) 5) (cases_eq (d % 7) 6)
  where
    go : (d % 7 ≡ 5) ⊎ (d % 7 ≡ 5 → ⊥) → (d % 7 ≡ 6) ⊎ (d % 7 ≡ 6 → ⊥) → begins (d % 7 == 5) (d % 7 == 6) before now + left_where (m % 7 == 1) m now ≤ left_where (suc m % 7 == 1) (suc m) before
    go (inl sat) sun = rw (eq-eqb (d % 7) 5 sat, eq-eqb (m % 7) 1 (omega (arith, sat, days)), ne_eqb (suc m % 7) 1 (λ e. omega (arith, sat, days, e))) (on_saturday m before now (omega (arith, sat, days)))
    go (inr not_sat) (inl sun) = rw (ne_eqb (d % 7) 5 not_sat, eq-eqb (d % 7) 6 sun, ne_eqb (m % 7) 1 (λ e. omega (arith, sun, days, e)), eq-eqb (suc m % 7) 1 (omega (arith, sun, days))) (on_sunday m before now (omega (arith, sun, days)))
    go (inr not_sat) (inr not_sun) = rw (ne_eqb (d % 7) 5 not_sat, ne_eqb (d % 7) 6 not_sun, ne_eqb (m % 7) 1 (λ e. not_sat (omega (arith, days, e))), ne_eqb (suc m % 7) 1 (λ e. not_sun (omega (arith, days, e)))) (omega arith)

left_at_most : (m : ℕ) (last : Option Shift) → weekends_left m last ≤ (m + 6) / 7
left_at_most m last = go (cases_eq (m % 7) 1) (is_some last)
  where
    go : (m % 7 ≡ 1) ⊎ (m % 7 ≡ 1 → ⊥) → (before : Bool) → left_where (m % 7 == 1) m before ≤ (m + 6) / 7
    go (inl at) true = rw (eq-eqb (m % 7) 1 at) (omega (arith, at))
    go (inl at) false = rw (eq-eqb (m % 7) 1 at) (omega (arith, at))
    go (inr apart) before = rw (ne_eqb (m % 7) 1 apart) (omega arith)

module _ (c : Meaning) (n : ℕ) where
  abbrev AreFew : (m d : ℕ) → Summary → List Offer → Type 0
  AreFew m d s row = (days_to_work row ≤ m) × (weekends_to_work d s.last row ≤ weekends_left m s.last)

  day_more : (m d : ℕ) (s : Summary) (x : Offer) (row : List Offer) → suc m + d ≡ day_count c → AreFew m (suc d) (next_of c n d s (shift_of x.choice)) row → AreFew (suc m) d s (x ∷ row)
  day_more m d s x row days after =
      let shift : Option Shift = shift_of x.choice in
      let later = subst (λ o. weekends_to_work (suc d) o row ≤ weekends_left m o) (last_of_next c n d s shift) after.1 in
      (omega (arith, after.0, one_at_most (is_some shift)), omega (arith, later, weekend_day m d (week_count c) (is_some s.last) (is_some shift) days))

  -- no more than the days and the weekends that are left
  pub few_to_come : (scale : ℕ) (offers : ℕ → List Offer) (m d : ℕ) (s : Summary) → m + d ≡ day_count c → (cost : ℕ) (row : List Offer) → best_of_offers_at c n scale offers m d s ≡ Some (cost, row) → (days_to_work row ≤ m) × (weekends_to_work d s.last row ≤ (m + 6) / 7)
  few_to_come scale offers m d s days cost row is =
      let few = by_days c n scale offers (λ d x. 0 ≤ d) (λ d below k x inside. omega arith) (λ m d s cost row. AreFew m d s row) (λ d s last. (omega arith, omega arith)) (λ m d s x cost row days _ _ after. day_more m d s x row days after) m d s days cost row is in
      (few.0, omega (arith, few.1, left_at_most m s.last))
