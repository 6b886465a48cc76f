-- What a roster that is kept costs at 0 points, and on a day that differs from it.
use Rattle.std.proofs.Common.{◌≡◌, ◌+◌, ℕ, zero, suc, Bool, true, false, ap₂, refl, Option, if◌then◌else◌}
use Rattle.roster_instance.specs.declared.choice.Shift.{Shift}
use Rattle.roster_instance.specs.Counting.{sum_below}
use Rattle.roster_instance.specs.Days.{Days, shift_on}
use Rattle.roster_instance.specs.Meaning.{Meaning}
use Rattle.roster_rules.specs.Penalties.{is_kept, keep_cost, keep_cost_on}

free_if : (kept : Bool) (keep : ℕ) → keep ≡ 0 → (if kept then 0 else keep) ≡ 0
free_if true keep none = refl
free_if false keep none = none

-- at 0 points no day costs anything
pub free_at_no_points : (c : Meaning) (n d : ℕ) (shift : Option Shift) → c.keep ≡ 0 → keep_cost_on c n d shift ≡ 0
free_at_no_points c n d shift none = free_if (is_kept c n d shift) c.keep none

pub nothing_below : (m : ℕ) (f : ℕ → ℕ) → ((k : ℕ) → f k ≡ 0) → sum_below m f ≡ 0
nothing_below zero f each = refl
nothing_below (suc m) f each = ap₂ (λ a b. a + b) (nothing_below m f each) (each m)

pub free_days_at_no_points : (c : Meaning) (n : ℕ) (days : Days) → c.keep ≡ 0 → keep_cost c n days ≡ 0
free_days_at_no_points c n days none = nothing_below _ (λ d. keep_cost_on c n d (shift_on days d)) (λ d. free_at_no_points c n d (shift_on days d) none)
