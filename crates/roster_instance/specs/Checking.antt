-- The result of a call that checks for faults in their order: Ok if there is none, else the first. Want of
-- memory is no fault of the text, and can come at any time.
use Rattle.std.specs.Prelude.{◌≡◌, ◌≢◌, List, Some}
use Rattle.roster_instance.specs.declared.fault.CaseFault.{CaseFault}
use Rattle.roster_instance.specs.declared.fault.CaseFault.TheVariants.{Memory}
use Rattle.roster_instance.specs.Faults.{first_fault}

-- unless it is want of memory, the fault is the first of these
abbrev pub IsFirst : List CaseFault → CaseFault → Type 0
IsFirst faults f = f ≢ Memory → first_fault faults ≡ Some f
