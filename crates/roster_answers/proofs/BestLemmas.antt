-- The best row that a search finds, and what is logged of the search.
use Rattle.std.proofs.Common.{◌≡◌, ◌∙◌, ◌≤◌, [], ℕ, None, Option, Some, ap, if◌then◌else◌, is_some, subst, sym, unwrap_or}
use Rattle.roster_rules.specs.AllowedRows.{IsBestRow, allowed_rows, penalty_with}
use Rattle.roster_instance.specs.Meaning.{Meaning}
use Rattle.roster_instance.specs.Names.{find_name}
use Rattle.roster_rules.specs.Penalties.{penalty}
use Rattle.roster_case.specs.Held.{HeldRoster}
use Rattle.roster_laws.specs.Greatest.{extension_count}
use Rattle.roster_instance.specs.Rosters.{Row, Rows, with_row}
use Rattle.roster_rules.proofs.FirstLeast.{only}
use Rattle.roster_answers.specs.Answer.{number_of, unknown_in, with_best}
use Rattle.roster_answers.specs.declared.fault.Thing.TheVariants as thing
use Rattle.roster_reports.specs.Lines.{Text}

module _ (c : Meaning) (from : ℕ) (r : Rows) (n : ℕ) (row : Row) (best : IsBestRow c from r n row) where
  -- the row is that of the definition
  pub best_put : with_row r n row ≡ with_best c from r n
  best_put = ap (λ o. with_row r n (unwrap_or o [])) (sym (only (penalty_with c r n) (allowed_rows c from r n) row best))

  pub total_put : (total : ℕ) → total ≡ penalty_with c r n row → total ≡ penalty c (with_best c from r n)
  total_put total is = is ∙ ap (penalty c) best_put

-- the nurse of a name that the case has
module _ (c : Meaning) (name : Text) (n : ℕ) (found : Some n ≡ find_name c.nurse_names name) where
  pub known : unknown_in c name ≡ None
  known = sym (ap (λ (o : Option ℕ). if is_some o then None else Some (thing.Nurse, name)) found)

  pub numbered : n ≡ number_of c name
  numbered = ap (λ (o : Option ℕ). unwrap_or o 0) found

-- a name that the case doesn't have
pub unknown : (c : Meaning) (name : Text) → find_name c.nurse_names name ≡ None → unknown_in c name ≡ Some (thing.Nurse, name)
unknown c name none = ap (λ (o : Option ℕ). if is_some o then None else Some (thing.Nurse, name)) none

-- the search for the nurse of a name, with the roster held
pub searched_for : (c : Meaning) (r : Rows) (name : Text) (n : ℕ) → Some n ≡ find_name c.nurse_names name → (held : HeldRoster) → held ≡ record { case = c; roster = r } → (counted : ℕ) → counted ≤ extension_count held.case n
    → counted ≤ extension_count c (number_of c name)
searched_for c r name n found held held_is counted few =
    subst (λ k. counted ≤ extension_count c k) (numbered c name n found) (subst (λ (h : HeldRoster). counted ≤ extension_count h.case n) held_is few)
