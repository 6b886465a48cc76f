-- Strips of cells that are written one after another.
use Rattle.std.proofs.Common.{◌≡◌, ◌∙◌, ◌+◌, ◌-◌, ◌*◌, ◌/◌, ◌%◌, ◌<◌, ◌≤◌, ◌⊎◌, ℕ, List, arith, below_more, inl, inr, length, slice_index_or, subst, sym}
use Rattle.std.proofs.lemmas.Bool.{cases_lt}
use Rattle.std.proofs.lemmas.Nat.{mul-le}
use Rattle.roster_tables.specs.Halves.{IsWritten}
use Rattle.roster_tables.specs.Strips.{AreStripsIn, BetweenStripsKept}
use Rattle.roster_tables.specs.declared.strips.StripShape.{StripShape}

-- a strip is within the list
pub strip_within : {shape : StripShape} {long : ℕ} → AreStripsIn shape long → (strip : ℕ) → strip < shape.strips → strip * shape.stride + shape.width ≤ long
strip_within {shape} good strip in_strips = omega (arith, good.long_is, mul-le strip shape.stride (shape.strips - 1) shape.stride (omega (arith, in_strips)) (omega arith))

-- the strip of a cell, and its place there
pub record PlaceAt (strips stride j : ℕ) : Type 0 where
  pub strip : ℕ
  pub place : ℕ
  pub in_strips : strip < strips
  pub inside : place < stride
  pub is : strip * stride + place ≡ j

pub place_at : (strips stride j : ℕ) → 0 < stride → j < strips * stride → PlaceAt strips stride j
place_at strips stride j some below = record { strip = j / stride; place = j % stride; in_strips = go (cases_lt (j / stride) strips); inside = omega (arith, some); is = is }
  where
    is : j / stride * stride + j % stride ≡ j
    is = omega (arith, some)

    go : (j / stride < strips) ⊎ (strips ≤ j / stride) → j / stride < strips
    go (inl fewer) = fewer
    go (inr more) = absurd (omega (arith, mul-le strips stride (j / stride) stride more (omega arith), is, below))

-- one more strip is written
module _ (shape : StripShape) (apart : shape.width ≤ shape.stride) (strip : ℕ) {run cells new : List ℕ} (long : length run ≡ shape.width) (written : IsWritten (strip * shape.stride) run cells new) where
  pub done_more : (P : ℕ → ℕ → Type 0) → ((i b : ℕ) → i < strip → b < shape.width → P (i * shape.stride + b) (slice_index_or cells (i * shape.stride + b) 0)) → ((b : ℕ) → b < shape.width → P (strip * shape.stride + b) (slice_index_or run b 0))
      → (i b : ℕ) → i < strip + 1 → b < shape.width → P (i * shape.stride + b) (slice_index_or new (i * shape.stride + b) 0)
  done_more P below here i b before inside =
      below_more (λ i. (b : ℕ) → b < shape.width → P (i * shape.stride + b) (slice_index_or new (i * shape.stride + b) 0)) strip
      (λ i before b inside.
      let low = mul-le (i + 1) shape.stride strip shape.stride (omega (arith, before)) (omega arith) in
      subst (P (i * shape.stride + b)) (sym (written.others.before (i * shape.stride + b) (omega (arith, low, inside, apart)))) (below i b before inside))
      (λ b inside. subst (P (strip * shape.stride + b)) (sym (written.inside b (omega (arith, inside, long)))) (here b inside)) i before b inside

  -- what comes after the strips so far is as it was
  pub rest_more : (old : List ℕ) → ((j : ℕ) → strip * shape.stride ≤ j → slice_index_or cells j 0 ≡ slice_index_or old j 0) → (j : ℕ) → (strip + 1) * shape.stride ≤ j → slice_index_or new j 0 ≡ slice_index_or old j 0
  rest_more old rest j high = written.others.after j (omega (arith, high, long, apart)) ∙ rest j (omega (arith, high))

  pub between_more : (old : List ℕ) → BetweenStripsKept shape old cells → BetweenStripsKept shape old new
  between_more old kept i b wide inside = go (cases_lt i strip) ∙ kept i b wide inside
    where
      go : (i < strip) ⊎ (strip ≤ i) → slice_index_or new (i * shape.stride + b) 0 ≡ slice_index_or cells (i * shape.stride + b) 0
      go (inl before) = written.others.before (i * shape.stride + b) (omega (arith, mul-le (i + 1) shape.stride strip shape.stride (omega (arith, before)) (omega arith), inside))
      go (inr from) = written.others.after (i * shape.stride + b) (omega (arith, mul-le strip shape.stride i shape.stride from (omega arith), long, wide))
