use Rattle.std.proofs.Common.{◌≡◌, ◌∙◌, ◌++◌, ap, append_assoc, codes, subst}
use Rattle.std.specs.Prelude.{IfErr, OnOk}
use Rattle.roster_text.specs.Io.{StopsIn, Writes}
use Rattle.roster_reports.specs.Lines.{Text}
use Rattle.roster_answers.specs.Lines.{thing_text, unknown_line}
use Rattle.roster_answers.specs.declared.fault.Thing.{Thing}
use Rattle.roster_answers.proofs.lines.write_unknown.Goals as goal

-- the five pieces of the line
joined : (word name : Text) → codes "unknown " ++ (word ++ (codes " " ++ (name ++ codes "\n"))) ≡ codes "unknown " ++ word ++ codes " " ++ name ++ codes "\n"
joined word name = simp append_assoc

line_is : (thing : Thing) (word name : Text) → word ≡ thing_text thing → codes "unknown " ++ (word ++ (codes " " ++ (name ++ codes "\n"))) ≡ unknown_line thing name
line_is thing word name is = joined word name ∙ ap (λ text. codes "unknown " ++ text ++ codes " " ++ name ++ codes "\n") is

pub returns-clause-ok : goal.returns-clause-ok
returns-clause-ok g c =
    let out = c.write_pieces in
    subst (λ text. OnOk out.result (Writes g.Log.Write.contents c.args.log.now out.new.out text))
    (line_is c.args.thing c.as_bytes.result.now c.args.name.now (c.as_bytes.ensures.value ∙ c.text.ensures)) out.ensures.ok

pub returns-clause-err : goal.returns-clause-err
returns-clause-err g c =
    let out = c.write_pieces in
    subst (λ text. IfErr out.result (StopsIn g.Log.Write.contents c.args.log.now out.new.out text))
    (line_is c.args.thing c.as_bytes.result.now c.args.name.now (c.as_bytes.ensures.value ∙ c.text.ensures)) out.ensures.err
