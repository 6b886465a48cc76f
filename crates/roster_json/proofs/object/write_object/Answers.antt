use Rattle.std.proofs.Common.{◌++◌, codes, flat_map, map, subst}
use Rattle.roster_text.specs.Io.{Stops, Writes}
use Rattle.roster_text.proofs.Texts.{Stops-append, Writes-append}
use Rattle.roster_reports.specs.Lines.{Text}
use Rattle.roster_json.specs.Json.{member_of, next_text}
use Rattle.roster_json.proofs.Shapes.{fields_are}
use Rattle.roster_json.proofs.Writing.{OnErr-always, inner_stops, last_err, last_ok}
use Rattle.roster_json.proofs.object.write_object.Goals as goal

-- what comes before the fields, and what comes after them
abbrev before : Text → Text
before kind = codes "{\"kind\":\"" ++ kind ++ codes "\""

abbrev after : Text
after = codes "}\n"

pub returns-in_err-put-clause-err : goal.returns-in_err-put-clause-err
returns-in_err-put-clause-err g c =
    let contents = g.W.Write.contents in
    let inner = flat_map next_text (map member_of c.args.fields.now) in
    OnErr-always c.from_residual.result _
    (Stops-append contents _ _ (before c.args.kind.now ++ inner) after
    (Stops-append contents _ _ (before c.args.kind.now) inner
    (subst (λ k. Stops contents c.args.out.now c.put.new.out (before k)) c.as_bytes.ensures.value c.in_err-put.ensures.err)))

pub returns-in_err-write_fields-clause-err : goal.returns-in_err-write_fields-clause-err
returns-in_err-write_fields-clause-err g c =
    let contents = g.W.Write.contents in
    let written = subst (λ k. Writes contents c.args.out.now c.put.new.out (before k)) c.as_bytes.ensures.value c.in_ok-put.ensures.ok in
    OnErr-always c.from_residual-in_err-write_fields.result _
    (inner_stops contents c.args.out.now c.put.new.out c.write_fields.new.out (before c.args.kind.now) written (flat_map next_text (map member_of c.args.fields.now)) after
    (subst (Stops contents c.put.new.out c.write_fields.new.out) (fields_are c.args.fields.now) c.in_err-write_fields.ensures.err))

pub returns-clause-ok : goal.returns-clause-ok
returns-clause-ok g c =
    let contents = g.W.Write.contents in
    let inner = flat_map next_text (map member_of c.args.fields.now) in
    let written = subst (λ k. Writes contents c.args.out.now c.put.new.out (before k)) c.as_bytes.ensures.value c.in_ok-put.ensures.ok in
    let fields = subst (Writes contents c.put.new.out c.write_fields.new.out) (fields_are c.args.fields.now) c.in_ok-write_fields.ensures.ok in
    last_ok contents _ _ _ (before c.args.kind.now ++ inner) (Writes-append contents c.args.out.now c.put.new.out c.write_fields.new.out (before c.args.kind.now) inner written fields) c.put-2.result after c.put-2.ensures.ok

pub returns-clause-err : goal.returns-clause-err
returns-clause-err g c =
    let contents = g.W.Write.contents in
    let inner = flat_map next_text (map member_of c.args.fields.now) in
    let written = subst (λ k. Writes contents c.args.out.now c.put.new.out (before k)) c.as_bytes.ensures.value c.in_ok-put.ensures.ok in
    let fields = subst (Writes contents c.put.new.out c.write_fields.new.out) (fields_are c.args.fields.now) c.in_ok-write_fields.ensures.ok in
    last_err contents _ _ _ (before c.args.kind.now ++ inner) (Writes-append contents c.args.out.now c.put.new.out c.write_fields.new.out (before c.args.kind.now) inner written fields) c.put-2.result after c.put-2.ensures.err
