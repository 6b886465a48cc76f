-- What searches spend.
use Rattle.std.proofs.Common.{◌≡◌, ◌+◌, ◌*◌, ◌<◌, ◌≤◌, ℕ, arith}
use Rattle.std.proofs.lemmas.Nat.{mul-le}
use Rattle.roster_bundle.specs.Limits.{greatest_u64}
use Rattle.roster_instance.specs.Meaning.{Meaning, nurse_count}
use Rattle.roster_laws.specs.Greatest.{extension_count, greatest_extension_count}
use Rattle.roster_laws.proofs.GreatestLemmas.{greatest_extensions}
use Rattle.roster_near.specs.Spending.{SpendsSearches, extensions_of}

one_and_rest : (less size : ℕ) → (less + 1) * size ≡ size + less * size
one_and_rest less size = omega arith

module _ (c : Meaning) (n meter left less : ℕ) (inside : n < nurse_count c) (one : less + 1 ≡ left) where
  one_more : extension_count c n ≤ greatest_extension_count c
  one_more = (greatest_extensions c (omega (arith, inside))).above n inside

  one_of : extensions_of c left ≡ greatest_extension_count c + extensions_of c less
  one_of = rw (← one) (one_and_rest less (greatest_extension_count c))

  -- a search is one of those that are left
  pub search_fits_meter : meter + extensions_of c left ≤ greatest_u64 → meter + extension_count c n ≤ greatest_u64
  search_fits_meter room = omega (arith, one_more, one_of, room)

  pub spent_one : (new : ℕ) → new ≤ meter + extension_count c n → SpendsSearches c meter left new less
  spent_one new counted = record { fewer = omega (arith, one); counted = omega (arith, counted, one_more, one_of) }

-- fewer searches may be left than could be
pub spent_less : (c : Meaning) (meter left meter2 left2 less : ℕ) → less ≤ left2 → SpendsSearches c meter left meter2 left2 → SpendsSearches c meter left meter2 less
spent_less c meter left meter2 left2 less below spends =
    record { fewer = omega (arith, spends.fewer, below); counted = omega (arith, spends.counted, mul-le less (greatest_extension_count c) left2 (greatest_extension_count c) below (omega arith)) }
