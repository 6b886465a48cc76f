-- What several readers give as one reader, and when a read of them fails.
use Rattle.std.specs.Prelude.{◌≡◌, ℕ, List, [], ◌∷◌, ◌++◌, drop, length, Option, Some, codes, option_and_then, option_map}
use Rattle.std.specs.Borrow.{MutBor}
use Rattle.std.specs.Fn.{Once}
use Rattle.roster_text.specs.Io.{IsOneRead}

-- the readers that have not come to their end, and the number of reads that have failed
pub record Left (R : Type 0) : Type 0 where
  pub readers : List R
  pub failures : ℕ

-- the bytes of each reader, each followed by one LF, if the bytes of all are known
abbrev pub joined_bytes : {R : Type 0} → (R → Option (List ℕ)) → List R → Option (List ℕ)
joined_bytes remaining [] = Some []
joined_bytes remaining (reader ∷ rest) =
    option_and_then (λ bytes.
    option_map (λ after. bytes ++ codes "\n" ++ after) (joined_bytes remaining rest)) (remaining reader)

-- the result is that of one read of the first reader, and the others stay
pub record ReadsFirst {F R E : Type 0}
    (g : Once F (MutBor R × (MutBor (List ℕ) × Unit {0})) (E × (MutBor R × (MutBor (List ℕ) × Unit {0}))))
    (read : F) (readers : List R) (bytes : List ℕ) (result : E) (readers_left : List R)
    (filled : List ℕ) : Type 0 where
  pub first : R
  pub first_left : R
  pub rest : List R
  pub before : readers ≡ first ∷ rest
  pub after : readers_left ≡ first_left ∷ rest
  pub called : IsOneRead g read first bytes result first_left filled

-- there is still a first reader, and those after it are the same
abbrev pub KeepsLater : {R : Type 0} → List R → List R → Type 0
KeepsLater old new = (length new ≡ length old) × (drop 1 new ≡ drop 1 old)
