use Rattle.std.proofs.Common.{◌∙◌, ◌++◌, ◌∷◌, [], subst}
use Rattle.roster_text.specs.Io.{Stops, Writes}
use Rattle.roster_text.proofs.Texts.{Stops-append}
use Rattle.roster_reports.specs.Lines.{Text}
use Rattle.roster_json.specs.Json.{member_of}
use Rattle.roster_json.proofs.Writing.{OnErr-always, last_err}
use Rattle.roster_json.proofs.object.write_field.Goals as goal

-- what comes before the value
abbrev before : Text → Text
before key = 44 ∷ 34 ∷ (key ++ 34 ∷ 58 ∷ [])

pub returns-in_err-put-clause-err : goal.returns-in_err-put-clause-err
returns-in_err-put-clause-err g c =
    let contents = g.W.Write.contents in
    OnErr-always c.from_residual.result _
    (Stops-append contents _ _ (before (member_of c.args.field).0) (member_of c.args.field).1
    (subst (λ k. Stops contents c.args.out.now c.put.new.out (before k)) (c.as_bytes.ensures.value ∙ c.key.ensures) c.in_err-put.ensures.err))

pub returns-clause-err : goal.returns-clause-err
returns-clause-err g c =
    let contents = g.W.Write.contents in
    last_err contents c.args.out.now c.put.new.out _ (before (member_of c.args.field).0)
    (subst (λ k. Writes contents c.args.out.now c.put.new.out (before k)) (c.as_bytes.ensures.value ∙ c.key.ensures) c.in_ok-put.ensures.ok) c.write_value.result (member_of c.args.field).1 c.write_value.ensures.err
