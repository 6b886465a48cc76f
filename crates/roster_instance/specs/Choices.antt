-- The choices that a nurse has on a day, and her rows over several days, each list in its order (INRC-II; the
-- order is our profile: Off first, then by shift, within a shift by skill, and rows by the first day on which
-- they differ).
use Rattle.std.specs.Prelude.{ℕ, zero, suc, Bool, true, false, ◌&&◌, ◌==◌, List, [], ◌∷◌, map, flat_map, Option, Some, None}
use Rattle.std.specs.List.{range_with_len}
use Rattle.roster_instance.specs.declared.choice.Choice.{Choice}
use Rattle.roster_instance.specs.declared.choice.Choice.TheVariants.{Off, Work}
use Rattle.roster_instance.specs.declared.choice.Shift.{Shift}
use Rattle.roster_instance.specs.Days.{Days}
use Rattle.roster_instance.specs.Meaning.{Meaning, shift_count, skill_count, shift_at, skill_at}

-- all choices: Off, then for each shift each skill
abbrev pub all_choices : Meaning → List Choice
all_choices c =
    Off ∷ flat_map (λ s. map (λ k. Work (shift_at s) (skill_at k)) (range_with_len 0 (skill_count c)))
    (range_with_len 0 (shift_count c))

-- all lists of m of these items, ordered by the first item in which they differ
unfoldable pub all_rows : {A : Type 0} → List A → ℕ → List (List A)
all_rows items zero = [] ∷ []
all_rows items (suc m) = flat_map (λ first. map (λ rest. first ∷ rest) (all_rows items m)) items

-- the shift of a choice, if one is worked
abbrev pub shift_of : Choice → Option Shift
shift_of Off = None
shift_of (Work s k) = Some s

-- a row without its skills
abbrev pub days_of : List Choice → Days
days_of row = map shift_of row

-- both off, or the same shift with the same skill
abbrev pub same_choice : Choice → Choice → Bool
same_choice Off Off = true
same_choice Off (Work s k) = false
same_choice (Work s k) Off = false
same_choice (Work s k) (Work t l) = (s.0 == t.0) && (k.0 == l.0)
