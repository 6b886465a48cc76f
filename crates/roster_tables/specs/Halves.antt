-- Two pointers in a byte, each below 16 (our own).
use Rattle.std.specs.Prelude.{◌≡◌, ◌+◌, ◌/◌, ◌%◌, ◌<◌, ℕ, List, ◌++◌, length, map, slice_index_or, take}
use Rattle.roster_lanes.specs.Lanes.{SameOutside}

-- the pointer in the low half of a byte
abbrev pub low : ℕ → ℕ
low byte = byte % 16

-- and in the high half
abbrev pub high : ℕ → ℕ
high byte = byte / 16

-- the low halves of some bytes, then the high ones
abbrev pub halves : List ℕ → List ℕ
halves bytes = map low bytes ++ map high bytes

-- that many pointers in the halves of bytes
abbrev pub pointers_in : ℕ → List ℕ → List ℕ
pointers_in count bytes = take count (halves bytes)

-- how many bytes they need
abbrev pub bytes_for : ℕ → ℕ
bytes_for count = count / 2 + count % 2

-- from a first index on the new numbers are those of a run, and the others are the old ones
pub record IsWritten (first : ℕ) (run old new : List ℕ) : Type 0 where
  pub inside : (i : ℕ) → i < length run → slice_index_or new (first + i) 0 ≡ slice_index_or run i 0
  pub others : SameOutside first (first + length run) old new
  pub length_stays : length new ≡ length old
