-- A roster that no single row improves, and how searches are counted (our own).
use Rattle.std.specs.Prelude.{ℕ, ◌+◌, ◌*◌, ◌<◌, ◌≤◌}
use Rattle.roster_instance.specs.Meaning.{Meaning, nurse_count}
use Rattle.roster_instance.specs.Rosters.{Rows}
use Rattle.roster_laws.specs.Greatest.{greatest_extension_count}
use Rattle.roster_laws.specs.Settled.{HasBestRow}

-- no allowed row of any nurse is cheaper than the present one
abbrev pub IsSettled : Meaning → ℕ → Rows → Type 0
IsSettled c from r = (n : ℕ) → n < nurse_count c → HasBestRow c from r n

-- how many extensions a number of searches counts on the meter at most
abbrev pub extensions_of : Meaning → ℕ → ℕ
extensions_of c searches = searches * greatest_extension_count c

-- each search was one of those that were left, and the meter counted no more than these may
pub record Spends (c : Meaning) (meter left new_meter new_left : ℕ) : Type 0 where
  pub fewer : new_left ≤ left
  pub counted : new_meter + extensions_of c new_left ≤ meter + extensions_of c left
