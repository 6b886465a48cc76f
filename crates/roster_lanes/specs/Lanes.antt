-- Labels that are lowered to others if these are smaller, each with the pointer that says by what it was
-- lowered (our own).
use Rattle.std.specs.Prelude.{◌≡◌, ◌+◌, ◌%◌, ◌^◌, ◌<◌, ◌≤◌, ℕ, List, min, nat_lt, slice_index_or, if◌then◌else◌}

-- what the label at an index may become: the other one there plus `more`, as numbers of 32 bits are added
abbrev pub raised : List ℕ → ℕ → ℕ → ℕ
raised others more i = (slice_index_or others i 0 + more) % 2 ^ 32

-- the pointer of a label: the new one exactly if the label becomes smaller
abbrev pub pointer_by : (label candidate old new : ℕ) → ℕ
pointer_by label candidate old new = if nat_lt candidate label then new else old

-- the labels from index first up to end are lowered
abbrev pub LabelsLowered : (first end : ℕ) (others : List ℕ) (more : ℕ) (old new : List ℕ) → Type 0
LabelsLowered first end others more old new =
    (i : ℕ) → first ≤ i → i < end
    → slice_index_or new i 0 ≡ min (slice_index_or old i 0) (raised others more i)

-- the labels from index first up to end are set, to `most` at most
abbrev pub LabelsSet : (first end : ℕ) (others : List ℕ) (more most : ℕ) (new : List ℕ) → Type 0
LabelsSet first end others more most new =
    (i : ℕ) → first ≤ i → i < end → slice_index_or new i 0 ≡ min (raised others more i) most

-- the pointers of the labels that became smaller are set
abbrev pub PointersSet : (first end : ℕ) (others : List ℕ) (more pointer : ℕ) (labels old new : List ℕ)
    → Type 0
PointersSet first end others more pointer labels old new =
    (i : ℕ) → first ≤ i → i < end → slice_index_or new i 0
    ≡ pointer_by (slice_index_or labels i 0) (raised others more i) (slice_index_or old i 0) pointer

-- from index first up to end nothing has changed
abbrev pub SameInside : (first end : ℕ) (old new : List ℕ) → Type 0
SameInside first end old new =
    (i : ℕ) → first ≤ i → i < end → slice_index_or new i 0 ≡ slice_index_or old i 0

-- outside these indices nothing has changed
pub record SameOutside (first end : ℕ) (old new : List ℕ) : Type 0 where
  pub before : (i : ℕ) → i < first → slice_index_or new i 0 ≡ slice_index_or old i 0
  pub after : (i : ℕ) → end ≤ i → slice_index_or new i 0 ≡ slice_index_or old i 0
