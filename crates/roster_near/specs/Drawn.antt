-- The nurses that are free in the last neighbourhood, and the rows that were found for them (our own).
use Rattle.std.specs.Prelude.{ℕ, zero, suc, ◌+◌, ◌-◌, ◌*◌, ◌/◌, ◌%◌, ◌&&◌, List, if◌then◌else◌, nat_le, nat_lt, slice_index_or, take}
use Rattle.roster_instance.specs.Meaning.{shift_at, skill_at}
use Rattle.roster_instance.specs.Rosters.{Row, choice_on}
use Rattle.roster_instance.specs.declared.choice.Choice.{Choice}
use Rattle.roster_instance.specs.declared.choice.Choice.TheVariants.{Off, Work}
use Rattle.roster_near.specs.declared.found.Found.{Found}
use Rattle.roster_near.specs.declared.problem.Problem.{Problem}

-- the free nurses
abbrev pub free_nurses : Problem → List ℕ
free_nurses problem = take problem.free problem.nurses.items

-- the choice of a number: 0 is a day off, and from 1 on there is each shift with each of 8 skills
abbrev pub choice_of_number : ℕ → Choice
choice_of_number zero = Off
choice_of_number (suc work) = Work (shift_at (work / 8)) (skill_at (work % 8))

-- the number that was found for a free nurse on an open day
abbrev pub number_found : Found → (free offset : ℕ) → ℕ
number_found found free offset =
    if nat_lt offset found.days then slice_index_or found.numbers.items (free * found.days + offset) 0 else 0

-- the choice of a free nurse in the rows that were found: on an open day that of the number that was found,
-- and on the others the given one
abbrev pub choice_found : Problem → Found → (free : ℕ) → (given : Row) → (day : ℕ) → Choice
choice_found problem found free given day =
    let window = problem.window in
    if nat_le window.first day && nat_lt day window.end
    then choice_of_number (number_found found free (day - window.first))
    else choice_on given day
