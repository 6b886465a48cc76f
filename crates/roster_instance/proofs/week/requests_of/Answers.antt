use Rattle.std.proofs.Common.{◌∙◌, ◌*◌, ap, replicate, sym}
use Rattle.std.proofs.lemmas.Result.{err_from_is_err_and}
use Rattle.roster_instance.specs.Meaning.{no_requests}
use Rattle.roster_instance.specs.Refusals.{request_faults}
use Rattle.roster_instance.proofs.Sections.{each-alike}
use Rattle.roster_instance.proofs.RequestLemmas.{none-requested}
use Rattle.roster_instance.proofs.week.requests_of.Goals as goal

pub add_all-requires : goal.add_all-requires
add_all-requires c =
    let s = c.args.scenario.now in
    c.in_ok-no_requests.ensures ∙ ap (λ n. replicate (7 * n) no_requests) c.len.ensures ∙ sym (none-requested c.args.source.now s.nurses s.shifts)

pub returns-in_err-add_all-clause-first : goal.returns-in_err-add_all-clause-first
returns-in_err-add_all-clause-first c =
    let s = c.args.scenario.now in
    let p = err_from_is_err_and c.from_residual-in_err-add_all.result c.from_residual-in_err-add_all.ensures.1 in
    rw (p.1, p.2, ← each-alike (request_faults c.args.source.now s.nurses s.shifts) c.args.lines.now) c.in_err-add_all.ensures.first

pub returns-clause-none : goal.returns-clause-none
returns-clause-none c =
    let s = c.args.scenario.now in
    sym (each-alike (request_faults c.args.source.now s.nurses s.shifts) c.args.lines.now) ∙ c.in_ok-add_all.ensures.none
