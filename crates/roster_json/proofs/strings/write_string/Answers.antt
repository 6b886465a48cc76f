use Rattle.std.proofs.Common.{◌++◌, codes, flat_map}
use Rattle.std.specs.Str.Lossy.{utf8_lossy}
use Rattle.roster_text.proofs.Texts.{Stops-append, Writes-append}
use Rattle.roster_reports.specs.Lines.{Text}
use Rattle.roster_json.specs.Json.{escaped}
use Rattle.roster_json.proofs.Writing.{OnErr-always, inner_stops, last_err, last_ok}
use Rattle.roster_json.proofs.strings.write_string.Goals as goal

abbrev quote : Text
quote = codes "\""

pub returns-in_err-put-clause-err : goal.returns-in_err-put-clause-err
returns-in_err-put-clause-err g c =
    let inner = flat_map escaped (utf8_lossy c.args.name.now) in
    let contents = g.W.Write.contents in
    OnErr-always c.from_residual.result _
    (Stops-append contents _ _ (quote ++ inner) quote (Stops-append contents _ _ quote inner c.in_err-put.ensures.err))

pub returns-in_err-write_lossy-clause-err : goal.returns-in_err-write_lossy-clause-err
returns-in_err-write_lossy-clause-err g c =
    let inner = flat_map escaped (utf8_lossy c.args.name.now) in
    OnErr-always c.from_residual-in_err-write_lossy.result _
    (inner_stops g.W.Write.contents _ _ _ quote c.in_ok-put.ensures.ok inner quote c.in_err-write_lossy.ensures.err)

pub returns-clause-ok : goal.returns-clause-ok
returns-clause-ok g c =
    let inner = flat_map escaped (utf8_lossy c.args.name.now) in
    let contents = g.W.Write.contents in
    last_ok contents _ _ _ (quote ++ inner) (Writes-append contents _ _ _ quote inner c.in_ok-put.ensures.ok c.in_ok-write_lossy.ensures.ok) c.put-2.result quote c.put-2.ensures.ok

pub returns-clause-err : goal.returns-clause-err
returns-clause-err g c =
    let inner = flat_map escaped (utf8_lossy c.args.name.now) in
    let contents = g.W.Write.contents in
    last_err contents _ _ _ (quote ++ inner) (Writes-append contents _ _ _ quote inner c.in_ok-put.ensures.ok c.in_ok-write_lossy.ensures.ok) c.put-2.result quote c.put-2.ensures.err
