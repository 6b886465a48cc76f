use Rattle.std.proofs.Common.{subst}
use Rattle.std.specs.Prelude.{OnErr, OnOk}
use Rattle.roster_text.specs.Io.{Stops, Writes}
use Rattle.roster_json.proofs.ReportLines.{taker_is}
use Rattle.roster_json.proofs.taker.write_json_taker.Goals as goal

pub returns-clause-ok : goal.returns-clause-ok
returns-clause-ok g c =
    let made = c.write_object in
    subst (λ text. OnOk made.result (Writes g.W.Write.contents c.args.out.now made.new.out text)) (taker_is c.args.case.now c.args.nurse c.nurse_name.result.now c.args.penalty c.args.changed c.args.missed c.nurse_name.ensures) made.ensures.ok

pub returns-clause-err : goal.returns-clause-err
returns-clause-err g c =
    let made = c.write_object in
    subst (λ text. OnErr made.result (Stops g.W.Write.contents c.args.out.now made.new.out text)) (taker_is c.args.case.now c.args.nurse c.nurse_name.result.now c.args.penalty c.args.changed c.args.missed c.nurse_name.ensures) made.ensures.err
