-- How the counts over a row change from day to day.
use Rattle.std.proofs.Common.{◌≡◌, ◌∙◌, ◌+◌, Bool, ℕ, suc, ap, arith, if◌then◌else◌, sym, Option}
use Rattle.std.proofs.Math.ListN.{get_or-map}
use Rattle.roster_instance.specs.Choices.{days_of, shift_of}
use Rattle.roster_instance.specs.Counting.{sum_below}
use Rattle.roster_instance.specs.Days.{shift_on}
use Rattle.roster_instance.specs.RunLaw.{day_violations}
use Rattle.roster_rules.specs.Runs.{open_run, run_violations}
use Rattle.roster_instance.specs.Rosters.{Row, choice_on}
use Rattle.roster_instance.specs.declared.choice.Choice.TheVariants.{Off}
use Rattle.roster_instance.specs.declared.choice.Shift.{Shift}
use Rattle.roster_instance.specs.declared.rules.Limits.{Limits}
use Rattle.roster_rules.proofs.RunLaw as law

-- a sum with one more number
pub sum_more : (f : ℕ → ℕ) (n sum more : ℕ) → sum ≡ sum_below n f → more ≡ f n → sum + more ≡ sum_below (n + 1) f
sum_more f n sum more sum_is more_is =
    let one : suc n ≡ n + 1 = omega arith in
    (λ i. sum_is i + more_is i) ∙ ap (λ k. sum_below k f) one

-- the shift of a day, from its choice
pub shift_of_day : (row : Row) (d : ℕ) (shift : Option Shift) → shift ≡ shift_of (choice_on row d) → shift ≡ shift_on (days_of row) d
shift_of_day row d shift is = is ∙ sym (get_or-map shift_of row d Off)

module _ (b : ℕ) (p : ℕ → Bool) (d run : ℕ) (of_kind : Bool) (run_is : run ≡ open_run b p d) (kind_is : of_kind ≡ p d) where
  pub run_more : (next : ℕ) → next ≡ (if of_kind then run + 1 else 0) → next ≡ open_run b p (d + 1)
  run_more next is =
      let one : suc d ≡ d + 1 = omega arith in
      is ∙ (λ i. if kind_is i then run_is i + 1 else 0) ∙ sym (law.grown b p d) ∙ ap (open_run b p) one

  pub violations_more : (l : Limits) (violations day : ℕ) → violations ≡ run_violations l b p d → day ≡ day_violations l run of_kind → violations + day ≡ run_violations l b p (d + 1)
  violations_more l violations day violations_are day_is =
      let one : suc d ≡ d + 1 = omega arith in
      (λ i. violations_are i + day_is i) ∙ (λ i. run_violations l b p d + day_violations l (run_is i) (kind_is i)) ∙ sym (law.violations l b p d) ∙ ap (run_violations l b p) one
