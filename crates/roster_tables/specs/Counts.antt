-- How many states are reachable on a day (our own).
use Rattle.std.specs.Prelude.{ℕ, ◌+◌, ◌-◌, ◌*◌, if◌then◌else◌, List, min}
use Rattle.roster_instance.specs.Counting.{sum_below}
use Rattle.roster_instance.specs.Meaning.{Meaning}
use Rattle.roster_rules.specs.Prefix.{Summary}
use Rattle.roster_state.specs.declared.state_box.StateBox.{StateBox}
use Rattle.roster_state.specs.declared.state_box.Interval.{Interval}
use Rattle.roster_state.specs.Boxes.{box_at}
use Rattle.roster_state.specs.Codes.{Sizes, shift_digit, shift_numbered, sizes_of}
use Rattle.roster_state.specs.Reachable.{can_be}

-- how many of an interval's numbers are below a size
abbrev pub numbers_in : Interval → ℕ → ℕ
numbers_in interval size = min (interval.greatest + 1) size - interval.least

-- a sum over these numbers
abbrev pub sum_over : Interval → ℕ → (ℕ → ℕ) → ℕ
sum_over interval size f = sum_below (numbers_in interval size) (λ i. f (interval.least + i))

-- the state with these numbers and without worked weekends or assignments
abbrev pub group_of : (last run shift_run : ℕ) → Summary
group_of last run shift_run =
    record { last = shift_numbered last; run = run; shift_run = shift_run; assignments = 0; weekends = 0 }

-- how many of the states that differ from one in their worked weekends and assignments alone are reachable:
-- those in the box, if a row may lead to them
abbrev pub states_with : Meaning → ℕ → List StateBox → Summary → ℕ
states_with c n boxes group =
    if can_be c n group
    then numbers_in (box_at boxes (shift_digit group.last)).weekends (sizes_of c n).weekends
    * numbers_in (box_at boxes (shift_digit group.last)).assignments (sizes_of c n).assignments
    else 0

-- how many states with a last shift's number and a run of working days or days off are reachable
abbrev pub states_of_run : Meaning → ℕ → List StateBox → (last run : ℕ) → ℕ
states_of_run c n boxes last run =
    sum_over (box_at boxes last).shift_run (sizes_of c n).shift_run
    (λ shift_run. states_with c n boxes (group_of last run shift_run))

-- how many with a last shift's number are reachable
abbrev pub states_of_last : Meaning → ℕ → List StateBox → ℕ → ℕ
states_of_last c n boxes last =
    sum_over (box_at boxes last).run (sizes_of c n).run (states_of_run c n boxes last)

-- how many are reachable on a day
abbrev pub states_on : Meaning → ℕ → List StateBox → ℕ
states_on c n boxes = sum_below (sizes_of c n).last (states_of_last c n boxes)

-- ---- the most that there are, by the boxes alone

-- how many states with one last shift have their other numbers in a box and below these sizes
abbrev pub states_in : Sizes → StateBox → ℕ
states_in z state_box =
    numbers_in state_box.run z.run * (numbers_in state_box.shift_run z.shift_run
    * (numbers_in state_box.weekends z.weekends * numbers_in state_box.assignments z.assignments))

-- and how many in the boxes of a day
abbrev pub states_in_boxes : Sizes → List StateBox → ℕ
states_in_boxes z boxes = sum_below z.last (λ last. states_in z (box_at boxes last))
