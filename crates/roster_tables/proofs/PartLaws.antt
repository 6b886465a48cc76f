-- Consecutive cells of a list are written anew.
use Rattle.std.proofs.Common.{◌≡◌, ◌+◌, ◌-◌, ◌≤◌, ℕ, arith, subst, List, ◌++◌, drop, length}
use Rattle.std.proofs.lemmas.List.{length-append, length-drop}
use borrow.Rule.Slice.PartMut.{put_mid}
use Rattle.roster_lanes.specs.Lanes.{SameOutside}
use Rattle.roster_offers.proofs.PartLaws.{part_after, part_before, part_inside, part_length}
use Rattle.roster_tables.specs.Halves.{IsWritten}

module _ (a : ℕ) (old part : List ℕ) (capacity : a + length part ≤ length old) where
  pub part_outside : SameOutside a (a + length part) old (put_mid a (length part) old part)
  part_outside = record { before = part_before a old part capacity; after = part_after a old part capacity }

  pub part_written : IsWritten a part old (put_mid a (length part) old part)
  part_written = record { inside = part_inside a old part capacity; others = part_outside; length_stays = part_length a old part capacity }

-- the same, by their number
pub part_put : (a long : ℕ) (old part : List ℕ) → length part ≡ long → a + long ≤ length old → IsWritten a part old (put_mid a (a + long - a) old part)
part_put a long old part is capacity =
    let width : length part ≡ a + long - a = omega (arith, is) in
    subst (λ w. IsWritten a part old (put_mid a w old part)) width (part_written a old part (omega (arith, is, capacity)))

pub front_length : (part old : List ℕ) (n : ℕ) → length part ≡ n → n ≤ length old → length (part ++ drop n old) ≡ length old
front_length part old n long capacity = omega (arith, length-append part (drop n old), length-drop n old, long, capacity)
