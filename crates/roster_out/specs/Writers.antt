-- A writer whose file is made at the first write, and when its file has been put in its place.
use Rattle.std.specs.Prelude.{◌≡◌, ℕ, [], List, None, Some}
use Rattle.std.specs.Io.Buffered.{writer_buffer}
use Rattle.std.specs.declared.alloc.Global.{Global}
use Rattle.std.specs.declared.io.buffered.BufWriter.{BufWriter}
use Rattle.roster_out.specs.declared.late.LateFile.{LateFile}

abbrev pub LateWriter : Type 0 → Type 0 → Type 0
LateWriter D Made = BufWriter (LateFile D Made) Global

-- its file would have this name, and there is none yet
pub record IsUnwritten {D Made : Type 0} (name : List ℕ) (writer : LateWriter D Made) : Type 0 where
  pub name_is : writer.inner.place.temporary.now ≡ name
  pub none : writer.inner.file ≡ None
  pub empty : writer_buffer writer ≡ []

-- its file was put in its place, where before it had this name
pub record IsLastPut {D Made : Type 0} (puts : Made → List ℕ → Type 0) (name : List ℕ)
    (written : LateWriter D Made) : Type 0 where
  pub file : Made
  pub last : written.inner.file ≡ Some file
  pub put : puts file name
