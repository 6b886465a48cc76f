-- Where the slots of a pooled row are.
use Rattle.std.proofs.Common.{◌≡◌, ◌+◌, ◌*◌, ◌<◌, ℕ, arith}
use Rattle.std.proofs.lemmas.Nat.{mul-add-lt}

-- in `rows` rows of `days` days, slot `day` of row `at` is one of all slots
pub slot_inside : (at day days rows slots : ℕ) → slots ≡ rows * days → at < rows → day < days → at * days + day < slots
slot_inside at day days rows slots is here inside = omega (arith, is, mul-add-lt at days day rows here inside)
