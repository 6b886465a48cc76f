-- Rows from day to day.
use Rattle.std.specs.Prelude.{◌≡◌, ◌<◌, ℕ, false, length}
use Rattle.roster_instance.specs.Counting.{count_below}
use Rattle.roster_instance.specs.Days.{Days}
use Rattle.roster_instance.specs.Meaning.{Meaning}
use Rattle.roster_rules.specs.HardRules.{breaks_succession, keeps_successions}

-- no shift of these days is forbidden by the one before it, the history's last shift included
abbrev pub KeepsSuccessions : Meaning → ℕ → Days → Type 0
KeepsSuccessions c n days = (d : ℕ) → d < length days → breaks_succession c n days d ≡ false

-- how many days are tried, up to the first forbidden one and with it: each day before which no day is
-- forbidden
abbrev pub days_tried : Meaning → ℕ → Days → ℕ
days_tried c n days = count_below (length days) (keeps_successions c n days)
