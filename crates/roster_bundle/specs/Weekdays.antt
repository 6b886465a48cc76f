-- The days of a week: how they are written, and their numbers.
use Rattle.std.specs.Prelude.{ℕ, List, codes}
use Rattle.roster_bundle.specs.declared.bundle.Day.{Day}
use Rattle.roster_bundle.specs.declared.bundle.Day.TheVariants as days

-- a day in three letters
abbrev pub short : Day → List ℕ
short days.Monday = codes "Mon"
short days.Tuesday = codes "Tue"
short days.Wednesday = codes "Wed"
short days.Thursday = codes "Thu"
short days.Friday = codes "Fri"
short days.Saturday = codes "Sat"
short days.Sunday = codes "Sun"

-- a day's full name
abbrev pub long : Day → List ℕ
long days.Monday = codes "Monday"
long days.Tuesday = codes "Tuesday"
long days.Wednesday = codes "Wednesday"
long days.Thursday = codes "Thursday"
long days.Friday = codes "Friday"
long days.Saturday = codes "Saturday"
long days.Sunday = codes "Sunday"

-- a day by its number; 0 is Monday
abbrev pub weekday : Day → ℕ
weekday days.Monday = 0
weekday days.Tuesday = 1
weekday days.Wednesday = 2
weekday days.Thursday = 3
weekday days.Friday = 4
weekday days.Saturday = 5
weekday days.Sunday = 6
