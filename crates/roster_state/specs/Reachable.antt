-- States that no row leads to, and that a search may leave out (our own). Whether a state is one of them
-- depends on its last shift and its two runs alone.
use Rattle.std.specs.Prelude.{ℕ, ◌+◌, ◌-◌, ◌==◌, ◌&&◌, ◌||◌, Bool, nat_le, Option, Some, None}
use Rattle.roster_instance.specs.declared.rules.Border.{Border}
use Rattle.roster_instance.specs.declared.rules.Border.TheVariants.{Free, Working}
use Rattle.roster_instance.specs.declared.choice.Shift.{Shift}
use Rattle.roster_instance.specs.Meaning.{Meaning, contract_of, past_of, run_of_shift}
use Rattle.roster_rules.specs.Prefix.{Summary}
use Rattle.roster_instance.specs.Sizes.{cap}

-- how many more days the history counts for its last shift than for working days
abbrev pub excess : Border → ℕ
excess (Free run) = 0
excess (Working shift shift_run working_run) = shift_run - working_run

-- a run of days off is within its cap, and there is no run of a shift. A run of working days and that of the
-- last shift are within their caps; that of the shift is longer than that of the working days by no more than
-- the history counts, unless the working days are at their cap.
abbrev pub can_be_with : Meaning → ℕ → (more run shift_run : ℕ) → Option Shift → Bool
can_be_with c n more run shift_run None = nat_le run (cap (contract_of c n).free) && (shift_run == 0)
can_be_with c n more run shift_run (Some t) =
    nat_le run (cap (contract_of c n).working) && nat_le shift_run (cap (run_of_shift c t.0))
    && (nat_le (cap (contract_of c n).working) run || nat_le shift_run (run + more))

-- a row may lead to this state, by its last shift and its runs
abbrev pub can_be : Meaning → ℕ → Summary → Bool
can_be c n s = can_be_with c n (excess (past_of c n).border) s.run s.shift_run s.last
