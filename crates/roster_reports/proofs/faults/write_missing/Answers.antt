use Rattle.std.proofs.Common.{subst}
use Rattle.std.specs.Prelude.{IfErr, OnOk}
use Rattle.roster_text.specs.Io.{StopsIn, Writes}
use Rattle.roster_reports.proofs.PieceLemmas.{missing-after}
use Rattle.roster_reports.proofs.faults.write_missing.Goals as goal

pub returns-clause-ok : goal.returns-clause-ok
returns-clause-ok g c =
    let out = c.write_pieces in
    subst (λ text. OnOk out.result (Writes g.Log.Write.contents c.args.log.now out.new.out text))
    (missing-after c.args.before.now c.args.day.0 c.args.day.1.now c.args.shift.now c.args.skill.now c.args.have c.args.need) out.ensures.ok

pub returns-clause-err : goal.returns-clause-err
returns-clause-err g c =
    let out = c.write_pieces in
    subst (λ text. IfErr out.result (StopsIn g.Log.Write.contents c.args.log.now out.new.out text))
    (missing-after c.args.before.now c.args.day.0 c.args.day.1.now c.args.shift.now c.args.skill.now c.args.have c.args.need) out.ensures.err
