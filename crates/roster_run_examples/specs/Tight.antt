-- The small instance, made so tight by minimums, successions, the history, skills, absences or fixed days
-- that a nurse has few rows.
use Rattle.std.specs.Prelude.{ℕ, true, false, List, [], ◌∷◌, ◌++◌, codes, flat_map, map, replicate, take, if◌then◌else◌, Some, None}
use Rattle.std.specs.List.{range_with_len}
use Rattle.roster_instance.specs.declared.choice.Choice.{Choice}
use Rattle.roster_instance.specs.declared.choice.Choice.TheVariants.{Off, Work}
use Rattle.roster_instance.specs.declared.rules.Border.TheVariants.{Working}
use Rattle.roster_instance.specs.Meaning.{Meaning, no_requests, shift_at, skill_at}
use Rattle.roster_run_examples.specs.Mini.{a_need, a_nurse, all_free, early_on, early_shift, free_week, is_among, mini_of_one_shift, off_for}
use Rattle.roster_instance.specs.Rosters.{Row, Rows}
use Rattle.roster_rules.specs.AllowedRows.{best_row}
use Rattle.roster_rules.specs.Improver.{Run, line_of, log_of, run}

-- these days need at least one nurse; Ann is absent on some days, and others of hers are fixed
abbrev pub of_ann : (days away fixed : List ℕ) → Meaning
of_ann days away fixed = record mini_of_one_shift {
  weeks = record {
    needs =
        Some (map (λ d. a_need (if is_among days d then 1 else 0) 1) (range_with_len 0 7))
        ∷ replicate 63 None;
    off_requests = replicate 14 no_requests;
    wishes = replicate 14 no_requests;
    absences = map (is_among away) (range_with_len 0 7) ++ replicate 7 false;
    fixed = map (is_among fixed) (range_with_len 0 7) ++ replicate 7 false;
  } ∷ [];
}

-- these days need at least one nurse, and Ann is absent on them
abbrev pub needing_without_ann : List ℕ → List ℕ → Meaning
needing_without_ann days away = of_ann days away []

-- these days of Ann are fixed
abbrev pub fixing : List ℕ → Meaning
fixing fixed = of_ann [] [] fixed

-- these days need at least one nurse
abbrev pub needing : List ℕ → Meaning
needing days = needing_without_ann days []

-- Early may not follow Early
abbrev pub resting : Meaning → Meaning
resting c = record c { successions = Some (true ∷ replicate 7 false) ∷ [] }

-- Ann worked a shift on the last day before the first Monday
abbrev pub after_shift : ℕ → Meaning → Meaning
after_shift s c =
    record c {
      past = Some (record { border = Working (shift_at s) 1 1; assignments = 1; weekends = 0 })
          ∷ off_for 1 ∷ [];
    }

-- Ann has no skill
abbrev pub unskilled : Meaning → Meaning
unskilled c = record c { nurses = record a_nurse { skills = [] } ∷ a_nurse ∷ [] }

-- Ann is a head, and Bob a nurse
abbrev pub with_heads : Meaning
with_heads =
    record mini_of_one_shift {
      skill_names = codes "Nurse" ∷ codes "Head" ∷ [];
      nurses = record a_nurse { skills = skill_at 1 ∷ [] } ∷ a_nurse ∷ [];
    }

abbrev pub night_shift : Choice
night_shift = Work (shift_at 1) (skill_at 0)

abbrev pub early_as_head : Choice
early_as_head = Work (shift_at 0) (skill_at 1)

-- a week that begins with these choices, and then is free
abbrev pub beginning : Row → Row
beginning row = take 7 (row ++ free_week)

-- ---- the rows and rosters of the worked examples

-- a nurse is needed from Monday to Friday
abbrev pub needing_weekdays : Meaning
needing_weekdays = needing (0 ∷ 1 ∷ 2 ∷ 3 ∷ 4 ∷ [])

-- Ann works on Tuesday only
abbrev pub ann_on_tuesday : Rows
ann_on_tuesday = early_on (1 ∷ []) ∷ free_week ∷ []

-- Bob works on Tuesday only
abbrev pub bob_on_tuesday : Rows
bob_on_tuesday = free_week ∷ early_on (1 ∷ []) ∷ []

-- Early on these days, with each weekend: off, its Sunday, its Saturday, both
abbrev pub with_each_weekend : List ℕ → List Row
with_each_weekend days =
    early_on days ∷ early_on (days ++ 6 ∷ []) ∷ early_on (days ++ 5 ∷ []) ∷ early_on (days ++ 5 ∷ 6 ∷ []) ∷ []

-- weeks that begin with Early, with Night, and with Early on Tuesday
abbrev pub early_first : Row
early_first = beginning (early_shift ∷ [])

abbrev pub night_first : Row
night_first = beginning (night_shift ∷ [])

abbrev pub early_second : Row
early_second = beginning (Off ∷ early_shift ∷ [])

-- weeks that begin with two shifts, on Monday and on the next day or the one after it
abbrev pub night_early : Row
night_early = beginning (night_shift ∷ early_shift ∷ [])

abbrev pub early_night : Row
early_night = beginning (early_shift ∷ night_shift ∷ [])

abbrev pub night_off_early : Row
night_off_early = beginning (night_shift ∷ Off ∷ early_shift ∷ [])

abbrev pub two_nights : Row
two_nights = beginning (night_shift ∷ night_shift ∷ [])

-- the run of this number of rounds with one shift, from the free weeks, and the text of its log
abbrev pub run_of : ℕ → Run
run_of rounds = run mini_of_one_shift (best_row mini_of_one_shift 0) rounds all_free

abbrev pub log_text : ℕ → List ℕ
log_text rounds =
    flat_map (line_of mini_of_one_shift)
    (log_of mini_of_one_shift (best_row mini_of_one_shift 0) rounds all_free)

-- the roster that it comes to
abbrev pub shared_week : Rows
shared_week = early_on (0 ∷ 2 ∷ 3 ∷ 4 ∷ []) ∷ early_on (1 ∷ 5 ∷ 6 ∷ []) ∷ []
