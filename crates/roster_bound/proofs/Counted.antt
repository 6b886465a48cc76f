-- How many extensions the searches of rounds and branchings count on the meter.
use Rattle.std.proofs.Common.{◌+◌, ◌*◌, ◌<◌, ◌≤◌, ℕ, arith}
use Rattle.std.proofs.lemmas.Nat.{mul-le}
use Rattle.roster_instance.specs.Meaning.{Meaning, nurse_count}
use Rattle.roster_laws.specs.Greatest.{extensions_in, greatest_extension_count}
use Rattle.roster_bound.specs.BoundLogs.{node_rounds}

-- ---- after the rounds and the first branchings

module _ (c : Meaning) (rounds branched start meter : ℕ) (so_far : meter ≤ start + extensions_in c (rounds + branched * (2 * node_rounds))) where
  pub branching_fits_meter : (nodes most : ℕ) → branched < nodes → start + extensions_in c (rounds + nodes * (2 * node_rounds)) ≤ most → meter + extensions_in c (2 * node_rounds) ≤ most
  branching_fits_meter nodes most within room =
      let all = nurse_count c * greatest_extension_count c in
      omega (arith, so_far, room, mul-le (rounds + (branched + 1) * 24) all (rounds + nodes * 24) all (omega (arith, within)) (omega arith))

  pub branching_counted : (new : ℕ) → new ≤ meter + extensions_in c (2 * node_rounds) → new ≤ start + extensions_in c (rounds + (branched + 1) * (2 * node_rounds))
  branching_counted new more = omega (arith, so_far, more)

  pub branching_within : (nodes new : ℕ) → branched < nodes → new ≤ meter + extensions_in c (2 * node_rounds) → new ≤ start + extensions_in c (rounds + nodes * (2 * node_rounds))
  branching_within nodes new within more =
      let all = nurse_count c * greatest_extension_count c in
      omega (arith, so_far, more, mul-le (rounds + (branched + 1) * 24) all (rounds + nodes * 24) all (omega (arith, within)) (omega arith))

  -- more branchings count no less
  pub branchings_within : (nodes : ℕ) → branched ≤ nodes → meter ≤ start + extensions_in c (rounds + nodes * (2 * node_rounds))
  branchings_within nodes within =
      let all = nurse_count c * greatest_extension_count c in
      omega (arith, so_far, mul-le (rounds + branched * 24) all (rounds + nodes * 24) all (omega (arith, within)) (omega arith))
