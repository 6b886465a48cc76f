-- Lists of faults in their order.
use Rattle.std.specs.Prelude.{ℕ, Bool, true, false, List, [], ◌∷◌, ◌++◌, flat_map, if◌then◌else◌, Option, Some, None}
use Rattle.std.specs.List.{range_with_len}

-- the fault, if the test passes
abbrev pub fault_if : {F : Type 0} → Bool → F → List F
fault_if b fault = if b then fault ∷ [] else []

-- the faults at each number below n
abbrev pub below : {F : Type 0} → ℕ → (ℕ → List F) → List F
below n faults = flat_map faults (range_with_len 0 n)

-- the faults of each item of a list, which depend on the items before it: those given, and those of the list
abbrev pub each_after : {A F : Type 0} → (List A → A → List F) → List A → List A → List F
each_after faults earlier [] = []
each_after faults earlier (x ∷ xs) = faults earlier x ++ each_after faults (earlier ++ x ∷ []) xs

-- the faults of each item, which depend on the items before it
abbrev pub each : {A F : Type 0} → (List A → A → List F) → List A → List F
each faults xs = each_after faults [] xs

-- the first fault, which is the one reported
abbrev pub first_fault : {F : Type 0} → List F → Option F
first_fault [] = None
first_fault (f ∷ fs) = Some f

abbrev pub is_none_of : {F : Type 0} → List F → Bool
is_none_of [] = true
is_none_of (f ∷ fs) = false
