-- What a run shows of its rosters while it goes on, and how a file has them.
use Rattle.std.specs.Prelude.{◌≡◌, ◌⊎◌, ℕ, Option}
use Rattle.std.specs.Io.KnownBytes.{Appends}
use Rattle.roster_text.specs.Io.{Watched}
use Rattle.roster_instance.specs.Bundles.{meaning_of}
use Rattle.roster_instance.specs.Meaning.{Meaning}
use Rattle.roster_instance.specs.Rosters.{Rows}
use Rattle.roster_bundle.specs.declared.bundle.Bundle.{Bundle}
use Rattle.roster_case.specs.Shown.{weeks_text}
use Rattle.roster_out.specs.Places.{IsPut, late_contents}
use Rattle.roster_out.specs.Writers.{LateWriter}
use Rattle.roster_out.specs.declared.place.Place.{Place}
use Rattle.roster_polish.specs.Plans.{IsPlanned}
use Rattle.roster_polish.specs.Shown.{SawOnlyReported}
use Rattle.roster_reports.specs.Lines.{Text}
use Rattle.roster_request.specs.declared.request.Command.{Command}
use Rattle.roster_answers.specs.Answer.{SpellsBundle, roster_of}
use Rattle.roster_cli.specs.Answer.{case_for}

-- ---- what is shown

-- Each roster that a saver was shown is reported by the log of a run. The run begins with the given roster,
-- or with one that a plan made of it.
pub record ShowsRun {S L : Type 0} (saw : S → Meaning → Rows → S → Type 0) (logged : L → Option Text)
    (log : Watched L) (from : ℕ) (c : Meaning) (r : Rows) (saver after : S) : Type 0 where
  pub begun : Rows
  pub planned : IsPlanned c from r begun
  pub start : ℕ
  pub shown : SawOnlyReported logged saw c from begun start log saver after

-- the same, or nothing was shown
abbrev pub Shows : {S L : Type 0} → (S → Meaning → Rows → S → Type 0) → (L → Option Text) → Watched L
    → Meaning → Rows → S → S → Type 0
Shows saw logged log c r saver after =
    (after ≡ saver) ⊎ ((from : ℕ) × ShowsRun saw logged log from c r saver after)

-- the same for a command on the case and the roster of the bundle that the bytes spell
pub record ShowsBundle {S L : Type 0} (saw : S → Meaning → Rows → S → Type 0) (logged : L → Option Text)
    (log : Watched L) (command : Command) (bytes : Text) (saver after : S) : Type 0 where
  pub bundle : Bundle
  pub spelled : SpellsBundle bytes bundle
  pub shows : Shows saw logged log (case_for command (meaning_of bytes bundle) (roster_of bytes bundle))
      (roster_of bytes bundle) saver after

-- the same, or nothing was shown
abbrev pub ShowsSpelled : {S L : Type 0} → (S → Meaning → Rows → S → Type 0) → (L → Option Text) → Watched L
    → Command → Text → S → S → Type 0
ShowsSpelled saw logged log command bytes saver after =
    (after ≡ saver) ⊎ ShowsBundle saw logged log command bytes saver after

-- the same for some bytes
abbrev pub ShowsSome : {S L : Type 0} → (S → Meaning → Rows → S → Type 0) → (L → Option Text) → Watched L
    → Command → S → S → Type 0
ShowsSome saw logged log command saver after =
    (bytes : Text) × ShowsSpelled saw logged log command bytes saver after

-- ---- what the file has

-- a roster of the case was put in a place, in a file that has its weeks
pub record IsSaved {D Made Flushed : Type 0} (fresh : Option Text) (contents : Made → Option Text)
    (flushes : D → Made → Flushed → Type 0) (renames : D → Flushed → Text → Text → Type 0)
    (place : Place D) (c : Meaning) (r : Rows) : Type 0 where
  pub file : Made
  pub has : Appends fresh (contents file) (weeks_text c r)
  pub put : IsPut flushes renames place.disk file place.temporary.now place.path.now

-- the file of a writer has the weeks of a roster, and nothing else
abbrev pub HasWeeks : {D Made : Type 0} → Option Text → (Made → Option Text) → LateWriter D Made → Meaning
    → Rows → Type 0
HasWeeks fresh contents writer c r =
    Appends fresh (late_contents fresh contents writer.inner.file) (weeks_text c r)
