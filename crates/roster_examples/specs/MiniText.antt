-- The text of the small instance, line by line, and what a text means.
use Rattle.std.specs.Prelude.{take, drop, ℕ, ◌-◌, ◌++◌, List, [], ◌∷◌, codes, flat_map, map, slice_set, insert, Option, Some, None, option_map, Ok, Err}
use Rattle.std.specs.List.{range_with_len}
use Rattle.roster_bundle.specs.declared.bundle.Bundle.{Bundle}
use Rattle.roster_text.specs.Reading.{Read, bundle_at}
use Rattle.roster_bundle.specs.Token.{all_seen, tokens_of}
use Rattle.roster_rules.specs.declared.penalties.Costs.{Costs}
use Rattle.roster_instance.specs.declared.fault.CaseFault.{CaseFault}
use Rattle.roster_rules.specs.declared.fault.HardFault.{HardFault}
use Rattle.roster_instance.specs.Bundles.{meaning_of, rows_of}
use Rattle.roster_instance.specs.Faults.{first_fault}
use Rattle.roster_rules.specs.HardRules.{hard_faults}
use Rattle.roster_instance.specs.Meaning.{Meaning, nurse_count}
use Rattle.roster_rules.specs.Penalties.{costs_of, total_cost}
use Rattle.roster_instance.specs.Refusals.{all_faults}
use Rattle.roster_instance.specs.Rosters.{Rows}
use Rattle.roster_instance.specs.Sizes.{state_count, choice_count}

abbrev pub Lines : Type 0
Lines = List (List ℕ)

abbrev pub mini_lines : Lines
mini_lines =
    codes "SCENARIO = mini" ∷
    [] ∷
    codes "WEEKS = 1" ∷
    [] ∷
    codes "SKILLS = 1" ∷
    codes "Nurse" ∷
    [] ∷
    codes "SHIFT_TYPES = 2" ∷
    codes "Early (1,5)" ∷
    codes "Night (1,5)" ∷
    [] ∷
    codes "FORBIDDEN_SHIFT_TYPES_SUCCESSIONS" ∷
    codes "Early 0" ∷
    codes "Night 1 Early" ∷
    [] ∷
    codes "CONTRACTS = 1" ∷
    codes "Full (2,5) (1,5) (1,5) 1 1" ∷
    [] ∷
    codes "NURSES = 2" ∷
    codes "Ann Full 1 Nurse" ∷
    codes "Bob Full 1 Nurse" ∷
    [] ∷
    codes "HISTORY" ∷
    codes "0 mini" ∷
    [] ∷
    codes "NURSE_HISTORY" ∷
    codes "Ann 0 0 None 0 0 1" ∷
    codes "Bob 0 0 None 0 0 1" ∷
    [] ∷
    codes "WEEK_DATA" ∷
    codes "mini" ∷
    [] ∷
    codes "REQUIREMENTS" ∷
    codes "Early Nurse (0,1) (0,1) (0,1) (0,1) (0,1) (0,1) (0,1)" ∷
    [] ∷
    codes "SHIFT_OFF_REQUESTS = 0" ∷
    [] ∷
    codes "SOLUTION" ∷
    codes "0 mini" ∷
    [] ∷
    codes "ASSIGNMENTS = 0" ∷
    []

-- the text with another line instead of the n-th, counted from 1; and with one more after it
abbrev pub line : ℕ → List ℕ → Lines → Lines
line n text lines = slice_set lines (n - 1) text

abbrev pub line_after : ℕ → List ℕ → Lines → Lines
line_after n text lines = insert lines n text

-- the lines with a solution of these assignments, and their number as it is written
abbrev pub solved : List ℕ → Lines → Lines → Lines
solved count assignments lines = line 41 (codes "ASSIGNMENTS = " ++ count) lines ++ assignments

-- assignments of a nurse to Early with the skill Nurse
abbrev pub early_lines : List ℕ → List (List ℕ) → Lines
early_lines nurse days = map (λ day. nurse ++ codes " " ++ day ++ codes " Early Nurse") days

-- a solution of one assignment
abbrev pub assigned : List ℕ → Lines
assigned assignment = solved (codes "1") (assignment ∷ []) mini_lines

abbrev pub bob_on_monday_night : Lines
bob_on_monday_night = assigned (codes "Bob Mon Night Nurse")

abbrev pub bob_early_on_tuesday : Lines
bob_early_on_tuesday = assigned (codes "Bob Tue Early Nurse")

-- other off requests, from their number on, with wishes and absences after them
abbrev pub requested : List ℕ → Lines → Lines
requested text lines = line 36 (codes "SHIFT_OFF_REQUESTS = " ++ text) lines

-- one more line after the off requests: Eve, who is no nurse of the scenario
abbrev pub eve_on_tuesday : Lines
eve_on_tuesday = line_after 36 (codes "Eve Tue") mini_lines

-- a third shift, and another contract
abbrev pub with_late : List ℕ → Lines
with_late contract =
    line 8 (codes "SHIFT_TYPES = 3")
    (line 11 (codes "Late (1,7)") (line 17 (codes "Full " ++ contract) mini_lines))

-- Ann works in her absence, and Bob with a skill that he lacks
abbrev pub absence_and_skill : Lines
absence_and_skill =
    line 5 (codes "SKILLS = 2")
    (line 6 (codes "Nurse Head")
    (line 36 (codes "SHIFT_OFF_REQUESTS = 0 ABSENCES = 1 Ann Mon")
    (solved (codes "2") (codes "Ann Mon Early Nurse" ∷ codes "Bob Tue Early Head" ∷ []) mini_lines)))

-- Early is to be worked at least two days in a row, and three days are worked; Ann's history ends with a run
-- of one
abbrev pub short_early_run : Lines
short_early_run =
    line 9 (codes "Early (2,5)")
    (line 17 (codes "Full (2,5) (3,5) (1,5) 1 1") (line 27 (codes "Ann 0 0 Early 1 1 0") mini_lines))

-- working days in a row are to be at least four and at most three, and Ann is off only on Wednesday
abbrev pub four_and_three_days : Lines
four_and_three_days =
    line 17 (codes "Full (2,5) (4,3) (1,5) 1 1")
    (solved (codes "6") (early_lines (codes "Ann")
    (codes "Mon" ∷ codes "Tue" ∷ codes "Thu" ∷ codes "Fri" ∷ codes "Sat" ∷ codes "Sun" ∷ [])) mini_lines)

-- a nurse is needed on Thursday night
abbrev pub night_needed : Lines → Lines
night_needed lines = line_after 34 (codes "Night Nurse (0,0) (0,0) (0,0) (1,1) (0,0) (0,0) (0,0)") lines

-- Bob works that night, and Early on all days except Friday
abbrev pub around_the_night : Lines
around_the_night =
    solved (codes "6") (codes "Bob Thu Night Nurse" ∷ early_lines (codes "Bob")
    (codes "Mon" ∷ codes "Tue" ∷ codes "Wed" ∷ codes "Sat" ∷ codes "Sun" ∷ [])) mini_lines

-- a second skill, which Ann has too, with an optimum of one nurse on each day
abbrev pub heads_wanted : Lines
heads_wanted =
    line 5 (codes "SKILLS = 2")
    (line 6 (codes "Nurse Head")
    (line 20 (codes "Ann Full 2 Head Nurse")
    (line_after 34 (codes "Early Head (0,1) (0,1) (0,1) (0,1) (0,1) (0,1) (0,1)") mini_lines)))

-- two weeks of the instance, with this off request in the second, and these assignments in the solutions of
-- the first and the second
abbrev pub two_weeks : List ℕ → List ℕ → List ℕ → Lines
two_weeks request first second =
    take 29 (line 3 (codes "WEEKS = 2") mini_lines)
    ++ take 8 (drop 29 mini_lines)
    ++ take 8 (drop 29 (line 36 (codes "SHIFT_OFF_REQUESTS = " ++ request) mini_lines))
    ++ drop 37 (line 41 (codes "ASSIGNMENTS = " ++ first) mini_lines)
    ++ drop 37 (line 41 (codes "ASSIGNMENTS = " ++ second) mini_lines)

abbrev pub text_of_lines : Lines → List ℕ
text_of_lines lines = flat_map (λ l. l ++ codes "\n") lines

abbrev pub bundle_in : {A : Type 0} → (Bundle → A) → Read Bundle → Option A
bundle_in f (Ok b) = Some (f b.0)
bundle_in f (Err e) = None

-- a value of the bundle that a text spells, if it spells one
abbrev pub if_spelled : {A : Type 0} → (List ℕ → Bundle → A) → List ℕ → Option A
if_spelled f text = bundle_in (f text) (bundle_at (all_seen text (tokens_of text)))

abbrev pub case_in : Lines → Option Meaning
case_in lines = if_spelled meaning_of (text_of_lines lines)

abbrev pub roster_in : Lines → Option Rows
roster_in lines = if_spelled (λ source b. rows_of source (meaning_of source b) b) (text_of_lines lines)

-- all refusals, all breaches of the hard rules, the penalties of the rules, and their sum
abbrev pub refusals_in : Lines → Option (List CaseFault)
refusals_in lines = if_spelled all_faults (text_of_lines lines)

-- the first refusal, if any
abbrev pub first_in : {A : Type 0} → Option (List A) → Option A
first_in None = None
first_in (Some faults) = first_fault faults

abbrev pub refusal_in : Lines → Option CaseFault
refusal_in lines = first_in (refusals_in lines)

abbrev pub breaches_in : Lines → Option (List HardFault)
breaches_in lines =
    if_spelled (λ source b. hard_faults (meaning_of source b) (rows_of source (meaning_of source b) b))
    (text_of_lines lines)

abbrev pub costs_in : Lines → Option Costs
costs_in lines =
    if_spelled (λ source b. costs_of (meaning_of source b) (rows_of source (meaning_of source b) b))
    (text_of_lines lines)

abbrev pub total_in : Lines → Option ℕ
total_in lines = option_map total_cost (costs_in lines)

-- the number of states and of choices of each nurse
abbrev pub all_sizes : Meaning → List (ℕ × ℕ)
all_sizes c = map (λ n. (state_count c n, choice_count c n)) (range_with_len 0 (nurse_count c))

abbrev pub sizes_in : Lines → Option (List (ℕ × ℕ))
sizes_in lines = option_map all_sizes (case_in lines)
