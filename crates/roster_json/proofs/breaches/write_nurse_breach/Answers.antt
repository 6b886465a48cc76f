use Rattle.std.proofs.Common.{◌∙◌, subst}
use Rattle.std.specs.Prelude.{OnErr, OnOk}
use Rattle.roster_text.specs.Io.{Stops, Writes}
use Rattle.roster_json.proofs.BreachLines.{nurse_is}
use Rattle.roster_json.proofs.breaches.write_nurse_breach.Goals as goal

pub returns-clause-ok : goal.returns-clause-ok
returns-clause-ok g c =
    let made = c.write_object in
    subst (λ text. OnOk made.result (Writes g.W.Write.contents c.args.out.now made.new.out text))
    (nurse_is c.args.case.now c.args.rule c.args.nurse c.args.day c.as_bytes.result.now c.as_bytes-2.result.now c.nurse_name.result.now (c.as_bytes.ensures.value ∙ c.word.ensures) (c.as_bytes-2.ensures.value ∙ c.weekday.ensures) c.nurse_name.ensures) made.ensures.ok

pub returns-clause-err : goal.returns-clause-err
returns-clause-err g c =
    let made = c.write_object in
    subst (λ text. OnErr made.result (Stops g.W.Write.contents c.args.out.now made.new.out text))
    (nurse_is c.args.case.now c.args.rule c.args.nurse c.args.day c.as_bytes.result.now c.as_bytes-2.result.now c.nurse_name.result.now (c.as_bytes.ensures.value ∙ c.word.ensures) (c.as_bytes-2.ensures.value ∙ c.weekday.ensures) c.nurse_name.ensures) made.ensures.err
