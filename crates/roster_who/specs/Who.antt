-- Who may take a shift: a nurse's rows that have it, the first of the cheapest, and what is reported of it
-- (our own).
use Rattle.std.specs.Prelude.{◌≡◌, Contains, ℕ, false, ◌+◌, ◌*◌, ◌<◌, ◌==◌, ◌&&◌, Bool, true, not, min, nat_le, List, flat_map, filter, if◌then◌else◌, map, Option, option_map}
use Rattle.std.specs.List.{range_with_len}
use Rattle.std.specs.List.Sorted.{IsPermutation, IsSortedBy}
use Rattle.std.specs.Option.{option_map_or, option_to_list}
use Rattle.std.specs.Ordering.{is_lt, nat_cmp, ordering_then}
use Rattle.std.specs.declared.cmp.Ordering.{Ordering}
use Rattle.roster_instance.specs.declared.choice.Choice.{Choice}
use Rattle.roster_instance.specs.declared.choice.Choice.TheVariants.{Off, Work}
use Rattle.roster_instance.specs.declared.choice.Skill.{Skill}
use Rattle.roster_instance.specs.Choices.{all_choices, all_rows, same_choice}
use Rattle.roster_instance.specs.Counting.{all_below, count_below, sum_below}
use Rattle.roster_instance.specs.Meaning.{Meaning, day_count, is_absent, minimum, nurse_count, shift_count, skill_count}
use Rattle.roster_instance.specs.Rosters.{Row, Rows, choice_on, cover, row_of, with_row}
use Rattle.roster_rules.specs.AllowedRows.{allowed_rows, first_least, penalty_with}
use Rattle.roster_laws.specs.Staffing.{shortfall}
use Rattle.roster_prices.specs.LowerBounds.{can_work}
use Rattle.roster_who.specs.declared.asked.Asked.{Asked}
use Rattle.roster_who.specs.declared.taker.Taker.{Taker}

-- ---- what is asked for

-- the choice is the assignment: that shift, with that skill, or with any skill if none is named
abbrev pub is_asked : Asked → Choice → Bool
is_asked asked Off = false
is_asked asked (Work s k) =
    (s.0 == asked.shift.0) && option_map_or (λ (skill : Skill). skill.0 == k.0) asked.skill true

-- ---- the roster in which absent nurses are off

abbrev pub here_choice : Meaning → Rows → (n d : ℕ) → Choice
here_choice c r n d = if is_absent c n d then Off else choice_on (row_of r n) d

-- the roster without the work of absent nurses
abbrev pub without_absent_work : Meaning → Rows → Rows
without_absent_work c r =
    map (λ n. map (here_choice c r n) (range_with_len 0 (day_count c))) (range_with_len 0 (nurse_count c))

-- the number of nurses by which a roster falls short of its minimums
abbrev pub missed : Meaning → Rows → ℕ
missed c r = sum_below (day_count c) (λ d. shortfall c (minimum c d) (cover r d))

-- ---- a nurse's rows that have the assignment

-- no slot of the day is short by more than before: each has its minimum, or as many nurses as before
abbrev pub short_by_no_more : Meaning → (r next : Rows) → ℕ → Bool
short_by_no_more c r next d =
    all_below (shift_count c)
    (λ s. all_below (skill_count c) (λ k. nat_le (min (minimum c d s k) (cover r d s k)) (cover next d s k)))

-- the nurse can work the row, it has the assignment, and with it no slot is short by more than before
abbrev pub is_taking : Meaning → ℕ → Rows → Asked → ℕ → Row → Bool
is_taking c from r asked n row =
    can_work c from r n row && all_below (day_count c) (short_by_no_more c r (with_row r n row))
    && is_asked asked (choice_on row asked.day)

-- all these rows, in order
abbrev pub taking_rows : Meaning → ℕ → Rows → Asked → ℕ → List Row
taking_rows c from r asked n = filter (is_taking c from r asked n) (all_rows (all_choices c) (day_count c))

-- what each nurse short of a minimum adds to the cost of a row, on top of the roster's penalty
abbrev pub missed_weight : ℕ
missed_weight = 1000000

abbrev pub cost_with : Meaning → Rows → ℕ → Row → ℕ
cost_with c r n row = missed_weight * missed c (with_row r n row) + penalty_with c r n row

-- the first of the cheapest of these rows, if there is one
abbrev pub taking_row : Meaning → ℕ → Rows → Asked → ℕ → Option Row
taking_row c from r asked n = first_least (cost_with c r n) (taking_rows c from r asked n)

-- for each nurse these rows are the allowed rows with the assignment, and the cost of each is the roster's
-- penalty with it
abbrev pub AreAllowedRows : Meaning → Rows → Type 0
AreAllowedRows c r =
    (from : ℕ) (asked : Asked) (n : ℕ) → n < nurse_count c
    → taking_rows c from r asked n
    ≡ filter (λ row. is_asked asked (choice_on row asked.day)) (allowed_rows c from r n)

abbrev pub CountPenalties : Meaning → Rows → Type 0
CountPenalties c r =
    (from : ℕ) (asked : Asked) (n : ℕ) → n < nurse_count c → (row : Row)
    → Contains (taking_rows c from r asked n) row → cost_with c r n row ≡ penalty_with c r n row

-- ---- what is reported

-- the number of days on which a row has another choice than the nurse's present one
abbrev pub changed_days : Meaning → Rows → ℕ → Row → ℕ
changed_days c r n row =
    count_below (day_count c) (λ d. not (same_choice (choice_on row d) (choice_on (row_of r n) d)))

-- the figures of a nurse with a row
abbrev pub taker_by : Meaning → Rows → ℕ → Row → Taker
taker_by c r n row =
    record {
      nurse = n;
      missed = missed c (with_row r n row);
      penalty = penalty_with c r n row;
      changed = changed_days c r n row;
    }

-- the figures of a nurse, if she may take the assignment
abbrev pub taker : Meaning → ℕ → Rows → Asked → ℕ → Option Taker
taker c from r asked n = option_map (taker_by c r n) (taking_row c from r asked n)

-- all who may, in the order of the scenario
abbrev pub takers : Meaning → ℕ → Rows → Asked → List Taker
takers c from r asked =
    flat_map (λ n. option_to_list (taker c from r asked n)) (range_with_len 0 (nurse_count c))

-- ---- their order

-- by the shortfall, then by the penalty, then by the order of the scenario
abbrev pub order_of : Taker → Taker → Ordering
order_of one other =
    ordering_then (ordering_then (nat_cmp one.missed other.missed) (nat_cmp one.penalty other.penalty))
    (nat_cmp one.nurse other.nurse)

abbrev pub comes_before : Taker → Taker → Bool
comes_before one other = is_lt (order_of one other)

-- the same takers, and none comes after one that it precedes
pub record AreInOrder (all listed : List Taker) : Type 0 where
  pub same : IsPermutation all listed
  pub sorted : IsSortedBy comes_before listed
