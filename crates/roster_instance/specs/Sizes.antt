-- The sizes of the search for a nurse (our own).
use Rattle.std.specs.Prelude.{ℕ, ◌+◌, ◌*◌, max, length, map, List, [], ◌∷◌}
use Rattle.roster_instance.specs.Meaning.{Meaning, shift_count, nurse_at, contract_of}
use Rattle.roster_instance.specs.declared.rules.Limits.{Limits}

-- a run that is longer than its cap costs the same as one of that length
abbrev pub cap : Limits → ℕ
cap l = max l.least l.greatest

abbrev pub greatest_of : List ℕ → ℕ
greatest_of [] = 0
greatest_of (n ∷ ns) = max n (greatest_of ns)

-- the number of states in a nurse's search: the product of the ranges of the five numbers of a summary
unfoldable pub state_count : Meaning → ℕ → ℕ
state_count c n =
    (shift_count c + 1)
    * (max (cap (contract_of c n).working) (cap (contract_of c n).free) + 1)
    * (greatest_of (map cap c.runs) + 1)
    * (cap (contract_of c n).total + 1)
    * ((contract_of c n).weekends + 1)

-- the number of choices that a nurse has on a day
unfoldable pub choice_count : Meaning → ℕ → ℕ
choice_count c n = 1 + shift_count c * length (nurse_at c n).skills
