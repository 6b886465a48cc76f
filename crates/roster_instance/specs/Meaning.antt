-- What the four texts of an instance mean, apart from the roster. Shifts, skills, contracts and nurses are
-- numbered from 0 in the order of the scenario.
use Rattle.std.specs.Prelude.{ℕ, ◌+◌, ◌*◌, ◌/◌, ◌%◌, Bool, false, ◌||◌, ◌==◌, if◌then◌else◌, List, [], length, replicate, Option, Some, None, slice_index_or, unwrap_or}
use Rattle.std.specs.Option.{option_map_or}
use Rattle.roster_instance.specs.declared.choice.Choice.{Choice}
use Rattle.roster_instance.specs.declared.choice.Shift.{Shift}
use Rattle.roster_instance.specs.declared.choice.Skill.{Skill}
use Rattle.roster_instance.specs.declared.rules.Border.{Border}
use Rattle.roster_instance.specs.declared.rules.Border.TheVariants.{Free, Working}
use Rattle.roster_instance.specs.declared.rules.ContractRules.{ContractRules}
use Rattle.roster_instance.specs.declared.rules.DayRequests.{DayRequests}
use Rattle.roster_instance.specs.declared.rules.Limits.{Limits}
use Rattle.roster_instance.specs.declared.rules.Need.{Need}
use Rattle.roster_instance.specs.declared.rules.Past.{Past}

-- a nurse: the number of the contract, and the skills in the order of the line
pub record NurseFacts : Type 0 where
  pub contract : ℕ
  pub skills : List Skill

-- a week: with index 8 s + k the requirements of shift s and skill k from Monday to Sunday, if a line has
-- them; with index 7 n + w what the off requests of nurse n for weekday w name, what the wishes to work name,
-- whether the nurse is absent, and whether the day is fixed
pub record WeekFacts : Type 0 where
  pub needs : List (Option (List Need))
  pub off_requests : List DayRequests
  pub wishes : List DayRequests
  pub absences : List Bool
  pub fixed : List Bool

-- `runs` gives the wanted days in a row of each shift; `successions`, for each shift with such a line, the
-- shifts that may not follow; `past` the history of each nurse; `base` is a roster that is kept, as a row for
-- each nurse, and `keep` the points for each day that differs from it; the texts say neither
pub record Meaning : Type 0 where
  pub name : List ℕ
  pub skill_names : List (List ℕ)
  pub shift_names : List (List ℕ)
  pub runs : List Limits
  pub successions : List (Option (List Bool))
  pub contract_names : List (List ℕ)
  pub contracts : List ContractRules
  pub nurse_names : List (List ℕ)
  pub nurses : List NurseFacts
  pub past : List (Option Past)
  pub weeks : List WeekFacts
  pub base : List (List Choice)
  pub keep : ℕ

-- ---- numbers of weeks, days, shifts, skills, contracts and nurses

abbrev pub week_count : Meaning → ℕ
week_count c = length c.weeks

-- days are numbered from 0, through all weeks; day 0 is a Monday
abbrev pub day_count : Meaning → ℕ
day_count c = 7 * week_count c

abbrev pub shift_count : Meaning → ℕ
shift_count c = length c.shift_names

abbrev pub skill_count : Meaning → ℕ
skill_count c = length c.skill_names

abbrev pub nurse_count : Meaning → ℕ
nurse_count c = length c.nurse_names

-- ---- by number

abbrev pub shift_at : ℕ → Shift
shift_at s = record { 0 = s }

abbrev pub skill_at : ℕ → Skill
skill_at k = record { 0 = k }

-- the defaults for what no line gives: limits and a need of (0,0), and below a contract of zeros, a nurse
-- without skills, no past, an empty week
abbrev pub no_limits : Limits
no_limits = record { least = 0; greatest = 0 }

abbrev pub no_need : Need
no_need = record { minimum = 0; optimum = 0 }

abbrev pub no_contract : ContractRules
no_contract =
    record { total = no_limits; working = no_limits; free = no_limits; weekends = 0; whole_weekends = false }

abbrev pub nobody : NurseFacts
nobody = record { contract = 0; skills = [] }

abbrev pub no_past : Past
no_past = record { border = Free 0; assignments = 0; weekends = 0 }

abbrev pub no_requests : DayRequests
no_requests = record { any = false; shifts = replicate 8 false }

abbrev pub no_week : WeekFacts
no_week = record { needs = []; off_requests = []; wishes = []; absences = []; fixed = [] }

-- the least and the greatest number of days in a row of a shift
abbrev pub run_of_shift : Meaning → ℕ → Limits
run_of_shift c s = slice_index_or c.runs s no_limits

-- the contract and the skills of a nurse
abbrev pub nurse_at : Meaning → ℕ → NurseFacts
nurse_at c n = slice_index_or c.nurses n nobody

-- the name of a nurse
abbrev pub nurse_name : Meaning → ℕ → List ℕ
nurse_name c n = slice_index_or c.nurse_names n []

-- the contract of a nurse
abbrev pub contract_of : Meaning → ℕ → ContractRules
contract_of c n = slice_index_or c.contracts (nurse_at c n).contract no_contract

-- what a nurse did before day 0
abbrev pub past_of : Meaning → ℕ → Past
past_of c n = unwrap_or (slice_index_or c.past n None) no_past

-- the week of a day
abbrev pub week_of : Meaning → ℕ → WeekFacts
week_of c d = slice_index_or c.weeks (d / 7) no_week

-- the minimum and the optimum of a slot of the case; (0,0) if no line has them
abbrev pub need : Meaning → ℕ → ℕ → ℕ → Need
need c d s k =
    option_map_or (λ week. slice_index_or week (d % 7) no_need)
    (slice_index_or (week_of c d).needs (8 * s + k) None) no_need

-- the minimum of a slot
abbrev pub minimum : Meaning → ℕ → ℕ → ℕ → ℕ
minimum c d s k = (need c d s k).minimum

-- the optimum of a slot
abbrev pub optimum : Meaning → ℕ → ℕ → ℕ → ℕ
optimum c d s k = (need c d s k).optimum

-- what the off requests of a nurse for a day name; below, what the wishes name
abbrev pub off_requests_of : Meaning → ℕ → ℕ → DayRequests
off_requests_of c n d = slice_index_or (week_of c d).off_requests (7 * n + d % 7) no_requests

abbrev pub wishes_of : Meaning → ℕ → ℕ → DayRequests
wishes_of c n d = slice_index_or (week_of c d).wishes (7 * n + d % 7) no_requests

-- an off request names this nurse, day and shift; `Any` names each shift
abbrev pub has_off_request : Meaning → ℕ → ℕ → ℕ → Bool
has_off_request c n d s = (off_requests_of c n d).any || slice_index_or (off_requests_of c n d).shifts s false

-- a wish to work names this nurse and day, and this shift
abbrev pub has_wish : Meaning → ℕ → ℕ → ℕ → Bool
has_wish c n d s = slice_index_or (wishes_of c n d).shifts s false

-- a wish to work names this nurse and day, and `Any` for the shift
abbrev pub has_wish_for_any : Meaning → ℕ → ℕ → Bool
has_wish_for_any c n d = (wishes_of c n d).any

-- the nurse is absent on the day
abbrev pub is_absent : Meaning → ℕ → ℕ → Bool
is_absent c n d = slice_index_or (week_of c d).absences (7 * n + d % 7) false

-- the nurse's choice on the day stays as the solution has it
abbrev pub is_fixed : Meaning → ℕ → ℕ → Bool
is_fixed c n d = slice_index_or (week_of c d).fixed (7 * n + d % 7) false

-- ---- the history (profile: if the last shift of a line is `None`, only the days off count, else only the
-- two other runs)

-- the shift of the day before the first Monday, if it was worked
abbrev pub last_shift : Border → Option Shift
last_shift (Free n) = None
last_shift (Working s own all) = Some s

-- ---- successions

-- the first shift forbids the second on the next day, by the lines of successions
abbrev pub forbids : List (Option (List Bool)) → Option Shift → Option Shift → Bool
forbids successions (Some s) (Some t) =
    option_map_or (λ line. slice_index_or line t.0 false) (slice_index_or successions s.0 None) false
forbids successions (Some s) None = false
forbids successions None next = false

-- ---- a roster that is kept

-- the same case, in which each day of a nurse whose shift differs from these rows costs `keep` points more;
-- at 0 points it is the case itself
abbrev pub keeping : Meaning → List (List Choice) → ℕ → Meaning
keeping c rows keep = if keep == 0 then c else record c { base = rows; keep = keep }
