use Rattle.std.proofs.Common.{Option, ap, subst}
use Rattle.std.specs.Io.KnownBytes.{Appends, Keeps}
use Rattle.std.specs.Io.Buffered.{writer_buffer, writer_contents}
use Rattle.roster_instance.specs.Meaning.{Meaning}
use Rattle.roster_case.specs.Shown.{weeks_text}
use Rattle.roster_out.specs.Places.{late_contents}
use Rattle.roster_out.specs.Writers.{LateWriter}
use Rattle.roster_out.specs.declared.late.LateFile.{LateFile}
use Rattle.roster_reports.specs.Lines.{Text}
use Rattle.roster_cli.proofs.OutLemmas.{in_file}
use Rattle.roster_cli.proofs.saver.write_roster.Goals as goal

pub returns : goal.returns
returns g c = λ e.
    let fresh = g.D.Disk.fresh in
    let contents = g.D.File.Write.contents in
    let in_all : LateWriter g.row.D.Denot g.row.D-File.Denot → Option Text = writer_contents (λ (late : LateFile g.row.D.Denot g.row.D-File.Denot). late_contents fresh contents late.file) in
    let unwritten = c.is_unwritten.ensures c.if-not-is_unwritten.false in
    let text = weeks_text c.case.result.now c.roster.result.now in
    let sent = c.show_weeks.new.output.inner in
    let flushed = c.flush.new.self in
    let last = late_contents fresh contents flushed.inner.file in
    let grown = subst (λ (w : LateWriter g.row.D.Denot g.row.D-File.Denot). Appends (in_all w) (in_all sent) text) (ap (λ w. w.inner) c.new-output.ensures) c.in-Ok.ensures.ok.taken in
    let kept = subst (λ (w : LateWriter g.row.D.Denot g.row.D-File.Denot). Keeps (in_all w) (in_all flushed)) c.into_inner-writer.ensures c.in-Ok-flush.ensures.bytes in
    let has = in_file fresh (late_contents fresh contents c.args.writer.inner.file) (in_all sent) last (writer_buffer c.args.writer) (writer_buffer flushed) text (ap (late_contents fresh contents) unwritten.0) unwritten.1 grown kept c.in-Ok-flush.ensures.ok in
    subst (λ (m : Meaning). Appends fresh last (weeks_text m c.args.held.now.roster)) c.case.ensures (subst (λ r. Appends fresh last (weeks_text c.case.result.now r)) c.roster.ensures.roster has)
