-- How many extensions the searches of a round count on the meter.
use Rattle.std.proofs.Common.{◌+◌, ◌*◌, ◌<◌, ◌≤◌, ℕ, arith}
use Rattle.std.proofs.lemmas.Nat.{mul-le}
use Rattle.roster_instance.specs.Meaning.{Meaning, nurse_count}
use Rattle.roster_laws.specs.Greatest.{extension_count, extensions_in, greatest_extension_count}
use Rattle.roster_laws.proofs.GreatestLemmas.{greatest_extensions}

-- ---- after the searches of the first n nurses
module _ (c : Meaning) (n start meter : ℕ) (so_far : meter ≤ start + n * greatest_extension_count c) (inside : n < nurse_count c) where
  one_more : extension_count c n ≤ greatest_extension_count c
  one_more = (greatest_extensions c (omega (arith, inside))).above n inside

  pub search_fits_meter : (most : ℕ) → start + nurse_count c * greatest_extension_count c ≤ most → meter + extension_count c n ≤ most
  search_fits_meter most room = omega (arith, so_far, one_more, room, mul-le (n + 1) (greatest_extension_count c) (nurse_count c) (greatest_extension_count c) (omega (arith, inside)) (omega arith))

  pub counted_more : (new : ℕ) → new ≤ meter + extension_count c n → new ≤ start + (n + 1) * greatest_extension_count c
  counted_more new more = omega (arith, so_far, one_more, more)

-- ---- after the first rounds

module _ (c : Meaning) (made start meter : ℕ) (so_far : meter ≤ start + extensions_in c made) where
  pub round_fits_meter : (rounds most : ℕ) → made < rounds → start + extensions_in c rounds ≤ most → meter + nurse_count c * greatest_extension_count c ≤ most
  round_fits_meter rounds most within room =
      let all = nurse_count c * greatest_extension_count c in
      omega (arith, so_far, room, mul-le (made + 1) all rounds all (omega (arith, within)) (omega arith))

  pub round_counted : (new : ℕ) → new ≤ meter + nurse_count c * greatest_extension_count c → new ≤ start + extensions_in c (made + 1)
  round_counted new more = omega (arith, so_far, more)

  pub round_within : (rounds new : ℕ) → made < rounds → new ≤ meter + nurse_count c * greatest_extension_count c → new ≤ start + extensions_in c rounds
  round_within rounds new within more =
      let all = nurse_count c * greatest_extension_count c in
      omega (arith, round_counted new more, mul-le (made + 1) all rounds all (omega (arith, within)) (omega arith))

  -- more rounds count no less
  pub rounds_within : (rounds : ℕ) → made ≤ rounds → meter ≤ start + extensions_in c rounds
  rounds_within rounds within =
      let all = nurse_count c * greatest_extension_count c in
      omega (arith, so_far, mul-le made all rounds all within (omega arith))
