use Rattle.std.proofs.Common.{◌∙◌, ◌++◌, ap, codes, decimal, subst, sym}
use Rattle.std.specs.Prelude.{IfErr}
use Rattle.roster_text.specs.Io.{StopsIn}
use Rattle.roster_reports.specs.Lines.{text_line}
use Rattle.roster_reports.proofs.PieceLemmas.{expected-line}
use Rattle.roster_reports.proofs.faults.write_text_line.Goals as goal

pub returns-in-TooLong-clause-err : goal.returns-in-TooLong-clause-err
returns-in-TooLong-clause-err g c =
    let out = c.write_pieces-in-TooLong in
    subst (λ line. IfErr out.result (StopsIn g.Log.Write.contents c.args.log.now out.new.out line)) (sym (ap text_line c.in-TooLong.is)) out.ensures.err

pub returns-in-Expected-clause-err : goal.returns-in-Expected-clause-err
returns-in-Expected-clause-err g c =
    let out = c.write_pieces-in-Expected in
    let line = decimal c.in-Expected.line in
    let line_is = expected-line line c.as_bytes.result.now
    ∙ ap (λ what. codes "line " ++ line ++ codes ": expected " ++ what ++ codes "\n") (c.as_bytes.ensures.value ∙ c.text.ensures) ∙ sym (ap text_line c.in-Expected.is) in
    subst (λ text. IfErr out.result (StopsIn g.Log.Write.contents c.args.log.now out.new.out text)) line_is out.ensures.err
