-- What the searches of a neighbourhood spend, and the memory that they need (our own).
use Rattle.std.specs.Prelude.{◌+◌, ◌*◌, ◌≤◌, ℕ}
use Rattle.roster_bundle.specs.Limits.{greatest_u64}
use Rattle.roster_instance.specs.Meaning.{Meaning}
use Rattle.roster_laws.specs.Greatest.{greatest_extension_count}
use Rattle.roster_prices.specs.Workspaces.{FitsBound}
use Rattle.roster_prices.specs.declared.workspace.BoundWorkspace.{BoundWorkspace}

-- how many extensions a number of searches counts on the meter at most
abbrev pub extensions_of : Meaning → ℕ → ℕ
extensions_of c searches = searches * greatest_extension_count c

-- each search was one of those that were left, and the meter counted no more than these may
pub record SpendsSearches (c : Meaning) (meter left new_meter new_left : ℕ) : Type 0 where
  pub fewer : new_left ≤ left
  pub counted : new_meter + extensions_of c new_left ≤ meter + extensions_of c left

-- searches can be made: there is memory for the case, and the meter can count the searches that are left
pub record CanGoOn {T : Type 0} (c : Meaning) (w : BoundWorkspace T) (meter left : ℕ) : Type 0 where
  pub bounds : FitsBound c w
  pub room : meter + extensions_of c left ≤ greatest_u64

-- searches were made that were left, and the memory serves further ones
pub record HasGoneOn {T : Type 0} (c : Meaning) (w : BoundWorkspace T)
    (meter left new_meter new_left : ℕ) : Type 0 where
  pub bounds : FitsBound c w
  pub spends : SpendsSearches c meter left new_meter new_left
