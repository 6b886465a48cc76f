-- The line of a fault, if its output may go to a file.
use Rattle.std.proofs.Common.{◌≡◌, Option, refl}
use Rattle.roster_text.specs.Io.{Watched}
use Rattle.roster_answers.specs.Answer.{ReportsFault}
use Rattle.roster_answers.specs.declared.fault.Fault.{Fault}
use Rattle.roster_answers.specs.declared.fault.Fault.TheVariants as fault
use Rattle.roster_reports.specs.Lines.{Text}
use Rattle.roster_cli.specs.Answer.{ReportsTo}

-- each other fault has its own line
pub reports_other : {L : Type 0} (out : Option Text) (contents : L → Option Text) (old new : Watched L) (f : Fault) → (f ≡ fault.Output → ⊥) → ReportsFault contents old new f → ReportsTo out contents old new f
reports_other out contents old new (fault.Text f) other h = h
reports_other out contents old new (fault.Case f nurse) other h = h
reports_other out contents old new (fault.Hard f d) other h = h
reports_other out contents old new (fault.Unfound f d) other h = h
reports_other out contents old new (fault.Unknown thing name) other h = h
reports_other out contents old new fault.Memory other h = h
reports_other out contents old new fault.Workspace other h = h
reports_other out contents old new fault.Output other h = absurd (other refl)
reports_other out contents old new fault.Log other h = h
