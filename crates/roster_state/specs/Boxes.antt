-- Boxes: for a last shift, or none, an interval for each other number of a state (our own).
use Rattle.std.specs.Prelude.{◌≡◌, ℕ, ◌+◌, ◌<◌, ◌≤◌, List, Option, false, slice_index_or}
use Rattle.roster_instance.specs.declared.choice.Shift.{Shift}
use Rattle.roster_instance.specs.Meaning.{Meaning, forbids, shift_count}
use Rattle.roster_rules.specs.Prefix.{Summary}
use Rattle.roster_state.specs.declared.state_box.StateBox.{StateBox}
use Rattle.roster_state.specs.declared.state_box.Interval.{Interval}
use Rattle.roster_state.specs.Codes.{shift_digit}
use Rattle.roster_state.specs.Transition.{next_of}

pub record InInterval (interval : Interval) (x : ℕ) : Type 0 where
  pub low : interval.least ≤ x
  pub high : x ≤ interval.greatest

-- each number of the state but its last shift is in the box's interval
pub record InBox (state_box : StateBox) (s : Summary) : Type 0 where
  pub run : InInterval state_box.run s.run
  pub shift_run : InInterval state_box.shift_run s.shift_run
  pub weekends : InInterval state_box.weekends s.weekends
  pub assignments : InInterval state_box.assignments s.assignments

abbrev pub no_number : Interval
no_number = record { least = 65535; greatest = 0 }

abbrev pub empty_box : StateBox
empty_box = record { run = no_number; shift_run = no_number; weekends = no_number; assignments = no_number }

-- one number alone
abbrev pub one_number : ℕ → Interval
one_number x = record { least = x; greatest = x }

-- the numbers of one state, but for its last shift
abbrev pub one_state : Summary → StateBox
one_state s =
    record {
      run = one_number s.run;
      shift_run = one_number s.shift_run;
      weekends = one_number s.weekends;
      assignments = one_number s.assignments;
    }

-- the box of a shift's number, in a list with one box for each last shift
abbrev pub box_at : List StateBox → ℕ → StateBox
box_at boxes digit = slice_index_or boxes digit empty_box

-- from each state of these boxes that doesn't forbid it, a shift or a day off leads into a box
abbrev pub LeadsInto : Meaning → (n day : ℕ) → List StateBox → Option Shift → StateBox → Type 0
LeadsInto c n day boxes shift after =
    (s : Summary) → shift_digit s.last < shift_count c + 1 → InBox (box_at boxes (shift_digit s.last)) s
    → forbids c.successions s.last shift ≡ false → InBox after (next_of c n day s shift)
