use Rattle.std.proofs.Common.{inl, refl, subst}
use Rattle.std.proofs.lemmas.Result.{err_from_is_err_and}
use Rattle.roster_answers.specs.Answer.{IsKeptAt, Output, outcome_of}
use Rattle.roster_cli.proofs.AnswerLemmas.{answers, shows, refused_keeping, refused_reading}
use Rattle.roster_cli.proofs.answer.report_bytes.Goals as goal

pub returns-in_err-given-clause-answers : goal.returns-in_err-given-clause-answers
returns-in_err-given-clause-answers g c =
    let output : Output g.row.Out.Denot = record { contents = g.Out.Write.contents; before = c.args.output.now; after = c.args.output.now } in
    let log : Output g.row.Log.Denot = record { contents = g.Log.Write.contents; before = c.args.log.now; after = c.args.log.now } in
    let p = err_from_is_err_and c.from_residual.result c.from_residual.ensures.1 in
    rw (p.1, p.2) (refused_reading output log c.args.command.now c.args.source.now c.in_err-given.field-0.0 c.in_err-given.ensures.refused refl refl)

-- want of memory for the roster that is kept
pub returns-in_default-clause-answers : goal.returns-in_default-clause-answers
returns-in_default-clause-answers g c =
    let output : Output g.row.Out.Denot = record { contents = g.Out.Write.contents; before = c.args.output.now; after = c.args.output.now } in
    let log : Output g.row.Log.Denot = record { contents = g.Log.Write.contents; before = c.args.log.now; after = c.args.log.now } in
    refused_keeping output log c.args.command.now c.args.source.now c.in_ok-given.given c.in_ok-given.ensures.says _ refl refl refl

pub returns-clause-answers : goal.returns-clause-answers
returns-clause-answers g c =
    let output : Output g.row.Out.Denot = record { contents = g.Out.Write.contents; before = c.args.output.now; after = c.report.new.output } in
    let log : Output g.row.Log.Denot = record { contents = g.Log.Write.contents; before = c.args.log.now; after = c.report.new.log } in
    let kept = subst (λ keep. IsKeptAt c.in_ok-given.given keep c.in-Ok.instance) c.keep_of.ensures.keep c.in-Ok.ensures in
    answers output log c.args.command.now c.args.source.now c.in_ok-given.given c.in_ok-given.ensures.says c.in-Ok.instance kept (outcome_of c.report.result) c.report.ensures.reports

-- ---- what is shown

pub returns-in_err-given-clause-saved : goal.returns-in_err-given-clause-saved
returns-in_err-given-clause-saved g c = inl refl

pub returns-in_default-clause-saved : goal.returns-in_default-clause-saved
returns-in_default-clause-saved g c = inl refl

pub returns-clause-saved : goal.returns-clause-saved
returns-clause-saved g c =
    let output : Output g.row.Out.Denot = record { contents = g.Out.Write.contents; before = c.args.output.now; after = c.report.new.output } in
    let log : Output g.row.Log.Denot = record { contents = g.Log.Write.contents; before = c.args.log.now; after = c.report.new.log } in
    let kept = subst (λ keep. IsKeptAt c.in_ok-given.given keep c.in-Ok.instance) c.keep_of.ensures.keep c.in-Ok.ensures in
    shows output log c.args.command.now c.args.source.now c.in_ok-given.given c.in_ok-given.ensures.says c.in-Ok.instance kept g.S.Saves.Saw c.args.aids.now.reporting.saver c.report.new.aids.reporting.saver c.report.ensures.saved
