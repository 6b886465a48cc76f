-- How a file is replaced: the temporary file next to it, and when it has been put in its place.
use Rattle.std.specs.Prelude.{◌≡◌, ℕ, ◌++◌, List, codes, decimal, Option, None, Some}

-- the name of a temporary file next to another, which differs from other such names in its number alone
abbrev pub temporary_name : List ℕ → ℕ → List ℕ
temporary_name path number = path ++ codes "." ++ decimal number ++ codes ".part"

-- it is such a name
abbrev pub IsTemporaryName : List ℕ → List ℕ → Type 0
IsTemporaryName path name = (number : ℕ) × (name ≡ temporary_name path number)

-- the file was flushed to the disk, and after that it had the first name and got the other
pub record IsPut {D File Flushed : Type 0} (flushes : D → File → Flushed → Type 0)
    (renames : D → Flushed → List ℕ → List ℕ → Type 0) (disk : D) (file : File)
    (name path : List ℕ) : Type 0 where
  pub flushed : Flushed
  pub is_flushed : flushes disk file flushed
  pub is_renamed : renames disk flushed name path

-- the bytes of a file that is made at the first write: those of a file that has just been made, until then
abbrev pub late_contents : {File : Type 0} → Option (List ℕ) → (File → Option (List ℕ)) → Option File
    → Option (List ℕ)
late_contents fresh contents None = fresh
late_contents fresh contents (Some file) = contents file
