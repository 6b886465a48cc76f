-- The kinds of days that runs are made of.
use Rattle.std.specs.Prelude.{Bool, not, Option, is_some}
use Rattle.roster_instance.specs.declared.choice.Shift.{Shift}
use Rattle.roster_costs.specs.declared.runs.Kind.{Kind}
use Rattle.roster_costs.specs.declared.runs.Kind.TheVariants.{Working, Free, Of}
use Rattle.roster_instance.specs.Days.{is_shift}

-- a day with this shift, or with none, is of the kind
abbrev pub is_of : Kind → Option Shift → Bool
is_of Working shift = is_some shift
is_of Free shift = not (is_some shift)
is_of (Of s) shift = is_shift s.0 shift
