-- A segment of a list is replaced.
use Rattle.std.proofs.Common.{◌≡◌, ◌+◌, ◌<◌, ◌≤◌, ℕ, arith, List, length, get_or}
use Rattle.std.proofs.lemmas.List.{places}
use borrow.Rule.Slice.PartMut.{put_mid}

module _ (a : ℕ) (old part : List ℕ) (room : a + length part ≤ length old) where
  pub part_length : length (put_mid a (length part) old part) ≡ length old
  part_length = grind (arith, places)

  pub part_inside : (i : ℕ) → i < length part → get_or (put_mid a (length part) old part) (a + i) 0 ≡ get_or part i 0
  part_inside i below = grind (arith, places)

  pub part_before : (i : ℕ) → i < a → get_or (put_mid a (length part) old part) i 0 ≡ get_or old i 0
  part_before i below = grind (arith, places)

  pub part_after : (i : ℕ) → a + length part ≤ i → get_or (put_mid a (length part) old part) i 0 ≡ get_or old i 0
  part_after i past = grind (arith, places)
