-- The completion bounds of a day, or those after a last shift, are set block by block: a block for each last
-- shift, or for each line. All blocks have the same size.
use borrow.Rule.Slice.PartMut.{put_mid}
use Rattle.std.proofs.Common.{◌≡◌, ◌∙◌, ◌+◌, ◌-◌, ◌*◌, ◌<◌, ◌≤◌, ℕ, List, ap, arith, get_or, length}
use Rattle.std.proofs.lemmas.List.Edits.{length-between}
use Rattle.std.specs.List.{between}
use Rattle.roster_completion.specs.declared.completion_day.CompletionDay.{CompletionDay}
use Rattle.roster_state.specs.CompletionLines.{most_completion_bound}
use Rattle.roster_completion.specs.Lines.{AreSet, extensions_of}
use Rattle.roster_completion.proofs.Cells.{all_low, low_more, block_inside, blocks_length, blocks_more}

-- the first blocks are set: something holds of each completion bound in them, and they are counted
pub record AreBlocks (day : CompletionDay) (P : (block index cell : ℕ) → Type 0) (size block : ℕ) (old new : List ℕ) (before after : ℕ) : Type 0 where
  pub each : (r q : ℕ) → r < block → q < size → P r q (get_or new (r * size + q) 0)
  pub low : (k : ℕ) → k < block * size → get_or new k 0 ≤ most_completion_bound
  pub long : length new ≡ length old
  pub counted : after ≡ before + block * (size * length day.offers.now)

module _ {day : CompletionDay} {P : (block index cell : ℕ) → Type 0} {size block : ℕ} {old here : List ℕ} {before now : ℕ} (blocks : ℕ) (capacity : length old ≡ blocks * size) (so_far : AreBlocks day P size block old here before now) where
  pub all_set : blocks ≡ block → AreSet day old here before now
  all_set all =
      let end : blocks * size ≡ block * size = ap (λ r. r * size) all in
      record {
        low = all_low most_completion_bound here (blocks * size) (so_far.long ∙ capacity) (λ k l. so_far.low k (omega (arith, l, end)));
        length = so_far.long;
        counted = omega (arith, so_far.counted, ap (λ m. m * length day.offers.now) (capacity ∙ end));
      }

  module _ (below : block < blocks) where
    -- the next block
    abbrev cut : List ℕ
    cut = between (block * size) (block * size + size) here

    pub block_within : block * size + size ≤ length here
    block_within = omega (arith, block_inside block blocks size below, so_far.long, capacity)

    pub block_long : length cut ≡ size
    block_long = let long = length-between here (block * size) (block * size + size) block_within in omega (arith, long)

    pub block_extensions : (most : ℕ) → before + extensions_of day old ≤ most → now + extensions_of day cut ≤ most
    block_extensions most extensions = omega (arith, extensions, so_far.counted, ap (λ m. m * length day.offers.now) capacity, block_inside block blocks (size * length day.offers.now) below, ap (λ m. m * length day.offers.now) block_long)

    pub block_more : (part : List ℕ) (after : ℕ) → ((q : ℕ) → q < size → P block q (get_or part q 0)) → AreSet day cut part now after
        → AreBlocks day P size (block + 1) old (put_mid (block * size) (block * size + size - block * size) here part) before after
    block_more part after each set =
        let long : length part ≡ size = set.length ∙ block_long in
        record {
          each = blocks_more here part block size long block_within P so_far.each each;
          low = low_more here part block size long block_within most_completion_bound so_far.low set.low;
          long = blocks_length here part block size long block_within ∙ so_far.long;
          counted = omega (arith, so_far.counted, set.counted, ap (λ m. m * length day.offers.now) block_long);
        }
