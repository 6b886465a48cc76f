-- Whatever slots pay in a fade, the row that it finds for a nurse fits the case and keeps the frozen days.
use Rattle.std.proofs.Common.{◌≡◌, ◌∙◌, ◌<◌, ◌≤◌, ◌==◌, ◌&&◌, ◌⊎◌, ℕ, true, inl, inr, ap, arith, refl, sym, List, [], ◌∷◌, length, Contains, None, Some}
use Rattle.std.specs.List.{list_all}
use Rattle.std.proofs.lemmas.Bool.{and_parts, cases_eq, cases_lt, eqb-true}
use Rattle.std.proofs.lemmas.List.{set_past}
use Rattle.std.proofs.lemmas.List.Elements.{Contains-append_right}
use Rattle.roster_instance.specs.Choices.{all_choices, all_rows, days_of}
use Rattle.roster_instance.specs.Faults.{first_fault, is_none_of}
use Rattle.roster_instance.specs.Meaning.{Meaning, day_count, nurse_count}
use Rattle.roster_instance.specs.Rosters.{Row, Rows, choice_on, fits_case, is_choice_of, is_row_of, row_of, with_row}
use Rattle.roster_rules.specs.AllowedRows.{is_frozen, keeps_frozen_day, keeps_frozen_days}
use Rattle.roster_rules.specs.HardRules.{hard_faults, keeps_absences, keeps_hard, keeps_skills, keeps_successions}
use Rattle.roster_rules.specs.declared.fault.HardFault.{HardFault}
use Rattle.roster_rules.proofs.FirstLeast as least
use Rattle.roster_instance.proofs.RosterFacts.{row-length}
use Rattle.roster_laws.specs.FrozenDays.{FrozenDaysStay}
use Rattle.roster_laws.proofs.Allowed.{kept_is_member, kept_passes}
use Rattle.roster_laws.proofs.AllRows.{member_is_row}
use Rattle.roster_laws.proofs.Below.{all_elim}
use Rattle.roster_laws.proofs.Frozen.{frozen_is}
use Rattle.roster_laws.proofs.OneRow.{other_row, own_row}
use Rattle.roster_slots.specs.Slots.{SlotPrices}
use Rattle.roster_prices.specs.LowerBounds.{can_work, row_by_dual_prices, own_rows, row_cost_by}

module _ (c : Meaning) (from : ℕ) (given : Rows) (scale : ℕ) (w : SlotPrices) (n : ℕ) (row : Row) (is : row_by_dual_prices c from given scale w n ≡ Some row) where
  among : Contains (own_rows c from given n) row
  among =
      let found = least.found (row_cost_by c scale w n) (own_rows c from given n) row is in
      rw found.split (Contains-append_right found.before (row ∷ found.after) row (0, omega arith, refl))

  pub found_fits : is_row_of c row ≡ true
  found_fits = member_is_row c row (kept_is_member (can_work c from given n) (all_rows (all_choices c) (day_count c)) row among)

  pub found_stays : keeps_frozen_days c from given n row ≡ true
  found_stays =
      (and_parts (keeps_skills c n row (day_count c) && keeps_absences c n row (day_count c) && keeps_successions c n (days_of row) (day_count c)) (keeps_frozen_days c from given n row)
      (kept_passes (can_work c from given n) (all_rows (all_choices c) (day_count c)) row among)).1

-- a row put into a roster that keeps the frozen days of a given one
pub put_stays : (c : Meaning) (from : ℕ) (given r : Rows) (n : ℕ) (row : Row) → FrozenDaysStay c from given r → keeps_frozen_days c from given n row ≡ true → FrozenDaysStay c from given (with_row r n row)
put_stays c from given r n row stays keeps m d within frozen = go (cases_lt n (length r)) (cases_eq m n)
  where
    go : (n < length r) ⊎ (length r ≤ n) → (m ≡ n) ⊎ (m ≡ n → ⊥) → choice_on (row_of (with_row r n row) m) d ≡ choice_on (row_of given m) d
    go (inr past) either = ap (λ rows. choice_on (row_of rows m) d) (set_past r n row past) ∙ stays m d within frozen
    go (inl inside) (inr other) = ap (λ own. choice_on own d) (other_row r n inside row m other) ∙ stays m d within frozen
    go (inl inside) (inl same) =
        ap (λ k. choice_on (row_of (with_row r n row) k) d) same
        ∙ ap (λ own. choice_on own d) (own_row r n inside row)
        ∙ frozen_is c from given n d (choice_on row d) (all_elim (day_count c) (λ k. keeps_frozen_day c from given n k (choice_on row k)) keeps d within) (ap (λ k. is_frozen c from k d) (sym same) ∙ frozen)
        ∙ ap (λ k. choice_on (row_of given k) d) (sym same)

-- a row of the case is as long as the one that it replaces
pub same_length : (c : Meaning) (r : Rows) (n : ℕ) (row : Row) → fits_case c r ≡ true → n < nurse_count c → is_row_of c row ≡ true → length row ≡ length (row_of r n)
same_length c r n row fits inside is =
    eqb-true (length row) (day_count c) (and_parts (length row == day_count c) (list_all (is_choice_of c) row) is).0 ∙ sym (row-length c r n fits inside)

-- and the other way round
pub kept_is_none : (c : Meaning) (r : Rows) → keeps_hard c r ≡ true → first_fault (hard_faults c r) ≡ None
kept_is_none c r keeps = of_list (hard_faults c r) keeps
  where
    of_list : (faults : List HardFault) → is_none_of faults ≡ true → first_fault faults ≡ None
    of_list [] e = refl
    of_list (f ∷ fs) e = absurd cc
