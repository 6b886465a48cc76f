-- A solution as it is shown, and its canonical text.
use Rattle.std.specs.Prelude.{ℕ, List, [], ◌∷◌, ◌++◌, Option, option_map, length, codes, decimal, slice_index_or}
use Rattle.std.specs.List.{flat_map, filter_map, range_with_len}
use Rattle.std.specs.Option.{option_map_or}

-- one week's solution: its scenario's name, the number of nurses, and by number each nurse's name and, on
-- each weekday, the shift and the skill that the nurse works, if any
pub record Shown : Type 0 where
  pub week : ℕ
  pub name : List ℕ
  pub nurses : ℕ
  pub nurse : ℕ → List ℕ
  pub on : ℕ → ℕ → Option (List ℕ × List ℕ)

-- one line of a solution
pub record Assignment : Type 0 where
  pub nurse : List ℕ
  pub weekday : ℕ
  pub shift : List ℕ
  pub skill : List ℕ

-- an assignment, from its four fields
abbrev pub assignment : List ℕ → ℕ → List ℕ → List ℕ → Assignment
assignment nurse weekday shift skill =
    record { nurse = nurse; weekday = weekday; shift = shift; skill = skill }

-- the assignment of a nurse on a weekday, if there is one
abbrev pub assignment_on : Shown → ℕ → ℕ → Option Assignment
assignment_on s n weekday =
    option_map (λ work. assignment (s.nurse n) weekday work.0 work.1) (s.on n weekday)

-- a nurse's assignments, from Monday to Sunday
unfoldable pub nurse_assignments : Shown → ℕ → List Assignment
nurse_assignments s n = filter_map (assignment_on s n) (range_with_len 0 7)

-- all assignments, nurse by nurse
unfoldable pub assignments : Shown → List Assignment
assignments s = flat_map (nurse_assignments s) (range_with_len 0 s.nurses)

-- a weekday in three letters; 0 is Monday
abbrev pub weekday_text : ℕ → List ℕ
weekday_text weekday = slice_index_or
    (codes "Mon" ∷ codes "Tue" ∷ codes "Wed" ∷ codes "Thu" ∷ codes "Fri" ∷ codes "Sat" ∷ codes "Sun"
    ∷ []) weekday []

-- a line of four words
abbrev pub line_text : List ℕ → List ℕ → List ℕ → List ℕ → List ℕ
line_text nurse day shift skill =
    nurse ++ codes " " ++ day ++ codes " " ++ shift ++ codes " " ++ skill ++ codes "\n"

-- the line of an assignment
unfoldable pub assignment_line : Assignment → List ℕ
assignment_line a = line_text a.nurse (weekday_text a.weekday) a.shift a.skill

-- the lines before those of the assignments
unfoldable pub heading : Shown → List ℕ
heading s =
    codes "SOLUTION\n" ++ decimal s.week ++ codes " " ++ s.name ++ codes "\n\nASSIGNMENTS = "
    ++ decimal (length (assignments s)) ++ codes "\n"

-- the canonical text of a solution
unfoldable pub canonical : Shown → List ℕ
canonical s = heading s ++ flat_map assignment_line (assignments s)

-- ---- the lines as they are written, day by day

-- the line of a nurse's weekday, empty if the nurse is off
unfoldable pub line_on : Shown → ℕ → ℕ → List ℕ
line_on s n weekday = option_map_or assignment_line (assignment_on s n weekday) []

-- a nurse's lines, from Monday to Sunday
unfoldable pub nurse_lines : Shown → ℕ → List ℕ
nurse_lines s n = flat_map (line_on s n) (range_with_len 0 7)
