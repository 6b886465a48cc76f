use Rattle.std.proofs.Common.{◌≡◌, Err, List, Ok, Result, inl, inr, refl, ℕ}
use Rattle.std.specs.Prelude.{IfErr, OnOk, Option}
use Rattle.roster_text.specs.Io.{StopsIn, Watched, Writes}
use Rattle.roster_text.specs.declared.fault.WriteFault.{WriteFault}
use Rattle.roster_text.proofs.Texts.{Stops-from_in}
use Rattle.roster_reports.specs.Lines.{Text}
use Rattle.roster_answers.specs.Answer.{Logs, ReportsFault}
use Rattle.roster_answers.specs.Lines.{fault_line}
use Rattle.roster_answers.specs.declared.fault.Fault.{Fault}
use Rattle.roster_answers.specs.declared.fault.Fault.TheVariants as fault
use Rattle.roster_answers.proofs.lines.report_fault.Goals as goal

module _ {X L : Type 0} (contents : L → Option (List ℕ)) (old new : Watched L) where
  -- the line was written, or a beginning of it
  logs : (line : Text) (result : Result X WriteFault) → OnOk result (Writes contents old new line) → IfErr result (StopsIn contents old new line) → Logs contents old new line
  logs line (Ok x) ok err = inl ok
  logs line (Err f) ok err = inr (Stops-from_in contents old new line f err)

  reports : (f : Fault) (result : Result X WriteFault) → OnOk result (Writes contents old new (fault_line f)) → IfErr result (StopsIn contents old new (fault_line f)) → (f ≡ fault.Log → new ≡ old)
      → ReportsFault contents old new f
  reports (fault.Text f) result ok err none = logs (fault_line (fault.Text f)) result ok err
  reports (fault.Case f nurse) result ok err none = logs (fault_line (fault.Case f nurse)) result ok err
  reports (fault.Hard f d) result ok err none = logs (fault_line (fault.Hard f d)) result ok err
  reports (fault.Unfound f d) result ok err none = logs (fault_line (fault.Unfound f d)) result ok err
  reports (fault.Unknown thing name) result ok err none = logs (fault_line (fault.Unknown thing name)) result ok err
  reports fault.Memory result ok err none = logs (fault_line fault.Memory) result ok err
  reports fault.Workspace result ok err none = logs (fault_line fault.Workspace) result ok err
  reports fault.Output result ok err none = logs (fault_line fault.Output) result ok err
  reports fault.Log result ok err none = none refl

pub returns-clause-line : goal.returns-clause-line
returns-clause-line g c = reports g.Log.Write.contents c.args.log.now c.write_line.new.log c.args.fault c.write_line.result c.write_line.ensures.ok c.write_line.ensures.err c.write_line.ensures.none
