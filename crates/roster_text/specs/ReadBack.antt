-- When a solution that is written can be read again, and what is read then.
use Rattle.std.specs.Prelude.{◌≡◌, ℕ, ◌≤◌, IsTrue, List, All, length, map}
use Rattle.roster_bundle.specs.declared.bundle.Assignment.{Assignment}
use Rattle.roster_bundle.specs.declared.bundle.Solution.{Solution}
use Rattle.roster_bundle.specs.Canonical.{Shown, assignment, assignments, canonical}
use Rattle.roster_bundle.specs.Canonical.{Assignment as ShownAssignment}
use Rattle.roster_bundle.specs.Weekdays.{weekday}
use Rattle.roster_text.specs.Grammar.{Spelled, solution}
use Rattle.roster_bundle.specs.Token.{all_seen, is_word, text_of, tokens_of}
use Rattle.roster_bundle.specs.Limits.{most_counted, most_small}

-- each name in an assignment is a word
pub record HasWords (a : ShownAssignment) : Type 0 where
  pub nurse : IsTrue (is_word a.nurse)
  pub shift : IsTrue (is_word a.shift)
  pub skill : IsTrue (is_word a.skill)

-- the names are words, and the numbers are in range
pub record IsWritable (s : Shown) : Type 0 where
  pub week : s.week ≤ most_small
  pub name : IsTrue (is_word s.name)
  pub words : All HasWords (assignments s)
  pub count : length (assignments s) ≤ most_counted

-- what an assignment says, with the texts of its names in the source
abbrev pub said : List ℕ → Assignment → ShownAssignment
said source a =
    assignment (text_of source a.nurse) (weekday a.day) (text_of source a.shift) (text_of source a.skill)

-- the solution, whose names are tokens of the source, says what is shown: the same week, the same scenario,
-- and the same assignments in the same order
pub record Says (source : List ℕ) (v : Solution) (s : Shown) : Type 0 where
  pub week : v.week.value ≡ s.week
  pub scenario : text_of source v.scenario ≡ s.name
  pub lines : map (said source) v.assignments.items ≡ assignments s

-- the tokens of its canonical text spell one solution, and this says what is shown
pub record IsReadBack (s : Shown) : Type 0 where
  pub value : Solution
  pub spelled : Spelled (solution value) (all_seen (canonical s) (tokens_of (canonical s)))
  pub only : (v : Solution)
      → Spelled (solution v) (all_seen (canonical s) (tokens_of (canonical s))) → v ≡ value
  pub says : Says (canonical s) value s
