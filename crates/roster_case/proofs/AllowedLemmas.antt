-- One day of a row, by its choice and the shift before it.
use Rattle.std.proofs.Common.{◌≡◌, ◌∙◌, ◌&&◌, ℕ, Bool, not, ap, Option}
use Rattle.roster_instance.specs.declared.choice.Choice.{Choice}
use Rattle.roster_instance.specs.declared.choice.Shift.{Shift}
use Rattle.roster_instance.specs.Choices.{days_of, shift_of}
use Rattle.roster_instance.specs.Meaning.{Meaning, forbids, last_shift, past_of}
use Rattle.roster_instance.specs.Rosters.{Row, Rows, choice_on}
use Rattle.roster_rules.specs.HardRules.{breaks_succession, shift_before}
use Rattle.roster_rules.proofs.CountLemmas.{shift_of_day}
use Rattle.roster_laws.specs.OneRow.{is_open}

pub row_day : (c : Meaning) (r : Rows) (n : ℕ) (row : Row) (day : ℕ) (last : Option Shift) (choice : Choice) → choice ≡ choice_on row day → last ≡ shift_before (last_shift (past_of c n).border) (days_of row) day
    → (b : Bool) → b ≡ (is_open c r n day choice && not (forbids c.successions last (shift_of choice))) → b ≡ (is_open c r n day (choice_on row day) && not (breaks_succession c n (days_of row) day))
row_day c r n row day last choice choice_is last_is b is =
    let today = shift_of_day row day (shift_of choice) (ap shift_of choice_is) in
    is ∙ (λ i. is_open c r n day (choice_is i) && not (forbids c.successions (last_is i) (today i)))
