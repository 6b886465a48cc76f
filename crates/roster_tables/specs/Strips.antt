-- Strips of cells in a list, each a stride after the one before it, with other cells between them (our own).
use Rattle.std.specs.Prelude.{◌≡◌, ◌+◌, ◌-◌, ◌*◌, ◌<◌, ◌≤◌, ℕ, List, slice_index_or}
use Rattle.roster_tables.specs.declared.strips.StripShape.{StripShape}

-- no strip reaches into the next one, and the last one ends with the list, which is that long
pub record AreStripsIn (shape : StripShape) (long : ℕ) : Type 0 where
  pub apart : shape.width ≤ shape.stride
  pub long_is : (shape.strips - 1) * shape.stride + shape.width ≡ long

-- each cell of the strips is right for its index
abbrev pub StripCells : StripShape → (ℕ → ℕ → Type 0) → List ℕ → Type 0
StripCells shape right cells =
    (i b : ℕ) → i < shape.strips → b < shape.width
    → right (i * shape.stride + b) (slice_index_or cells (i * shape.stride + b) 0)

-- each cell between strips is the old one
abbrev pub BetweenStripsKept : StripShape → (old new : List ℕ) → Type 0
BetweenStripsKept shape old new =
    (i b : ℕ) → shape.width ≤ b → b < shape.stride
    → slice_index_or new (i * shape.stride + b) 0 ≡ slice_index_or old (i * shape.stride + b) 0
