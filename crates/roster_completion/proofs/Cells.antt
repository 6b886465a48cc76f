-- What holds of each cell below an index, and of one cell more.
use borrow.Rule.Slice.PartMut.{put_mid}
use Rattle.std.proofs.lemmas.Bool.{cases_lt}
use Rattle.std.proofs.lemmas.Nat.{mul-add-lt, mul-le}
use Rattle.std.proofs.lemmas.List.Edits.{get_or-between, length-between}
use Rattle.std.specs.List.{between}
use Rattle.roster_offers.proofs.PartLaws.{part_before, part_inside, part_length}
use Rattle.std.proofs.Common.{⊎_elim, ◌∙◌, ◌≤◌, ◌*◌, ◌-◌, ◌≡◌, ◌+◌, ◌<◌, ℕ, List, arith, below_more, get_or, length, subst, sym}
use Rattle.std.proofs.lemmas.List.{get_or_past}

-- a segment of a list is replaced by another one of the same length
module _ (cells part : List ℕ) (first width : ℕ) (long : length part ≡ width) (inside : first + width ≤ length cells) where
  pub put_length : length (put_mid first width cells part) ≡ length cells
  put_length = subst (λ w. length (put_mid first w cells part) ≡ length cells) long (part_length first cells part (omega (arith, long, inside)))

  pub put_before : (k : ℕ) → k < first → get_or (put_mid first width cells part) k 0 ≡ get_or cells k 0
  put_before k below = subst (λ w. get_or (put_mid first w cells part) k 0 ≡ get_or cells k 0) long (part_before first cells part (omega (arith, long, inside)) k below)

  pub put_inside : (k : ℕ) → k < width → get_or (put_mid first width cells part) (first + k) 0 ≡ get_or part k 0
  put_inside k below = subst (λ w. get_or (put_mid first w cells part) (first + k) 0 ≡ get_or part k 0) long (part_inside first cells part (omega (arith, long, inside)) k (omega (arith, long, below)))

-- blocks of `size` cells, and one block more
module _ (cells part : List ℕ) (block size : ℕ) (long : length part ≡ size) (inside : block * size + size ≤ length cells) where
  abbrev pub with_block : List ℕ
  with_block = put_mid (block * size) (block * size + size - block * size) cells part

  width : block * size + size - block * size ≡ size
  width = omega arith

  fits : block * size + (block * size + size - block * size) ≤ length cells
  fits = omega (arith, inside)

  as_long : length part ≡ block * size + size - block * size
  as_long = long ∙ sym width

  pub blocks_more : (P : (block index cell : ℕ) → Type 0) → ((r q : ℕ) → r < block → q < size → P r q (get_or cells (r * size + q) 0)) → ((q : ℕ) → q < size → P block q (get_or part q 0))
      → (r q : ℕ) → r < block + 1 → q < size → P r q (get_or with_block (r * size + q) 0)
  blocks_more P below here r q l m =
      below_more (λ r. (q : ℕ) → q < size → P r q (get_or with_block (r * size + q) 0)) block
      (λ r l q m. subst (P r q) (sym (put_before cells part (block * size) _ as_long fits (r * size + q) (omega (arith, mul-add-lt r size q block l m)))) (below r q l m))
      (λ q m. subst (P block q) (sym (put_inside cells part (block * size) _ as_long fits q (omega (arith, m)))) (here q m)) r l q m

  pub low_more : (most : ℕ) → ((k : ℕ) → k < block * size → get_or cells k 0 ≤ most) → ((k : ℕ) → get_or part k 0 ≤ most) → (k : ℕ) → k < (block + 1) * size → get_or with_block k 0 ≤ most
  low_more most below here k l =
      ⊎_elim
      (λ m. subst (λ x. x ≤ most) (sym (put_before cells part (block * size) _ as_long fits k m)) (below k m))
      (λ m. let there : block * size + (k - block * size) ≡ k = omega (arith, m) in
      subst (λ j. get_or with_block j 0 ≤ most) there
      (subst (λ x. x ≤ most) (sym (put_inside cells part (block * size) _ as_long fits (k - block * size) (omega (arith, l, m)))) (here (k - block * size))))
      (cases_lt k (block * size))

  pub blocks_length : length with_block ≡ length cells
  blocks_length = put_length cells part (block * size) _ as_long fits

-- past the end there is nothing
pub all_low : (most : ℕ) (cells : List ℕ) (count : ℕ) → length cells ≡ count → ((k : ℕ) → k < count → get_or cells k 0 ≤ most) → (k : ℕ) → get_or cells k 0 ≤ most
all_low most cells count is low k = ⊎_elim (λ l. low k l) (λ m. let past : length cells ≤ k = omega (arith, is, m) in omega (arith, get_or_past cells k 0 past)) (cases_lt k count)

-- a segment of a list of low cells
pub part_low : (most : ℕ) (cells : List ℕ) (first end : ℕ) → end ≤ length cells → ((k : ℕ) → get_or cells k 0 ≤ most) → (k : ℕ) → get_or (between first end cells) k 0 ≤ most
part_low most cells first end inside low k =
    ⊎_elim
    (λ l. subst (λ x. x ≤ most) (sym (get_or-between cells first end k 0 l)) (low (first + k)))
    (λ m. let past : length (between first end cells) ≤ k = omega (arith, length-between cells first end inside, m) in omega (arith, get_or_past (between first end cells) k 0 past))
    (cases_lt (first + k) end)

pub block_inside : (block blocks size : ℕ) → block < blocks → block * size + size ≤ blocks * size
block_inside block blocks size l = let all : (block + 1) * size ≤ blocks * size = mul-le (block + 1) size blocks size (omega (arith, l)) (omega arith) in omega (arith, all)
