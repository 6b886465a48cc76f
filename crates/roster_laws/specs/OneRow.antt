-- A roster with one nurse's row replaced: what the other rows cost, and what each day of the row adds.
use Rattle.std.specs.Prelude.{◌≡◌, ℕ, ◌+◌, Bool, not, true, ◌&&◌, ◌==◌, [], length, if◌then◌else◌}
use Rattle.roster_instance.specs.declared.choice.Choice.{Choice}
use Rattle.roster_instance.specs.Choices.{days_of, shift_of}
use Rattle.roster_instance.specs.Counting.{all_below, sum_below}
use Rattle.roster_instance.specs.Meaning.{Meaning, day_count, nurse_count}
use Rattle.roster_instance.specs.Rosters.{Row, Rows, choice_on, cover, days_of_nurse, row_of, with_row}
use Rattle.roster_rules.specs.AllowedRows.{keeps_frozen_day, keeps_frozen_days, row_keeps}
use Rattle.roster_rules.specs.HardRules.{breaks_succession, keeps_absences, keeps_hard, keeps_skills, keeps_successions, may_take}
use Rattle.roster_rules.specs.Penalties.{nurse_cost, own_cost, request_cost_on, staffing_cost_by}
use Rattle.roster_laws.specs.Staffing.{meets, with_choice}

-- ---- the penalty

-- what the rows of all other nurses cost
abbrev pub rest_of : Meaning → Rows → ℕ → ℕ
rest_of c r n = sum_below (nurse_count c) (λ m. if m == n then 0 else nurse_cost c m (days_of_nurse r m))

-- how many of the other nurses work in a slot; a nurse without a row is off
abbrev pub others : Rows → ℕ → ℕ → ℕ → ℕ → ℕ
others r n d s k = cover (with_row r n []) d s k

-- S1, S4, S8, S9: the price of a choice on a day, which is the cost of that day's staffing with it, plus that
-- of the nurse's requests
abbrev pub price : Meaning → Rows → ℕ → ℕ → Choice → ℕ
price c r n d choice =
    staffing_cost_by c d (with_choice (others r n d) choice) + request_cost_on c n d (shift_of choice)

-- the prices of a row's choices, summed over its days
abbrev pub prices : Meaning → Rows → ℕ → Row → ℕ
prices c r n row = sum_below (length row) (λ d. price c r n d (choice_on row d))

-- the roster's penalty after the nurse's row is replaced: the rest, the nurse's own cost, and the prices
abbrev pub penalty_by_row : Meaning → Rows → ℕ → Row → ℕ
penalty_by_row c r n row = rest_of c r n + own_cost c n (days_of row) + prices c r n row

-- ---- the hard rules

-- each slot has its minimum, and each nurse's row keeps the successions, the skills and the absences
abbrev pub keeps_by_parts : Meaning → Rows → Bool
keeps_by_parts c r =
    all_below (day_count c) (λ d. meets c d (cover r d))
    && all_below (nurse_count c) (λ n. keeps_successions c n (days_of_nurse r n) (day_count c))
    && all_below (nurse_count c) (λ n. keeps_skills c n (row_of r n) (day_count c))
    && all_below (nurse_count c) (λ n. keeps_absences c n (row_of r n) (day_count c))

-- a choice is open if the nurse has the skill and isn't absent, and each minimum of the day is met with it
abbrev pub is_open : Meaning → Rows → ℕ → ℕ → Choice → Bool
is_open c r n d choice = may_take c n d choice && meets c d (with_choice (others r n d) choice)

-- each choice of a row is open on its day, and may follow the one before it
abbrev pub is_open_row : Meaning → Rows → ℕ → Row → ℕ → Bool
is_open_row c r n row m =
    all_below m (λ d. is_open c r n d (choice_on row d) && not (breaks_succession c n (days_of row) d))

-- ---- from a week on

-- with the row the roster keeps the hard rules, and the row keeps the nurse's frozen days
abbrev pub is_allowed_row : Meaning → ℕ → Rows → ℕ → Row → Bool
is_allowed_row c from r n row = keeps_hard c (with_row r n row) && keeps_frozen_days c from r n row

-- the row is also one of the case's
abbrev pub MayBePutIn : Meaning → ℕ → Rows → ℕ → Row → Type 0
MayBePutIn c from r n row = (row_keeps c r n row ≡ true) × (keeps_frozen_days c from r n row ≡ true)

-- a choice is offered if it is open, and on a frozen day only if it is the present one
abbrev pub is_offered : Meaning → ℕ → Rows → ℕ → ℕ → Choice → Bool
is_offered c from r n d choice = is_open c r n d choice && keeps_frozen_day c from r n d choice

-- each choice of a row is offered on its day, and may follow the one before it
abbrev pub is_offered_row : Meaning → ℕ → Rows → ℕ → Row → ℕ → Bool
is_offered_row c from r n row m =
    all_below m
    (λ d. is_offered c from r n d (choice_on row d) && not (breaks_succession c n (days_of row) d))

-- a row is allowed exactly if its choices are offered
abbrev pub AllowedWhereOffered : Meaning → ℕ → Rows → ℕ → Row → Type 0
AllowedWhereOffered c from r n row =
    is_allowed_row c from r n row ≡ is_offered_row c from r n row (day_count c)
