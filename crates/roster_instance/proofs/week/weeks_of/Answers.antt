use Rattle.std.proofs.Common.{◌∙◌, sym}
use Rattle.std.proofs.lemmas.Result.{err_from_is_err_and}
use Rattle.roster_instance.specs.CaseParts.{known_of}
use Rattle.roster_instance.specs.Refusals.{week_faults}
use Rattle.roster_instance.proofs.Sections.{each-alike}
use Rattle.roster_instance.proofs.week.weeks_of.Goals as goal

pub returns-in_err-add_all-clause-first : goal.returns-in_err-add_all-clause-first
returns-in_err-add_all-clause-first c =
    let s = c.args.scenario.now in
    let p = err_from_is_err_and c.from_residual-in_err-add_all.result c.from_residual-in_err-add_all.ensures.1 in
    rw (p.1, p.2, ← each-alike (week_faults (known_of c.args.source.now s)) c.args.weeks.now) c.in_err-add_all.ensures.first

pub returns-clause-none : goal.returns-clause-none
returns-clause-none c =
    let s = c.args.scenario.now in
    sym (each-alike (week_faults (known_of c.args.source.now s)) c.args.weeks.now) ∙ c.in_ok-add_all.ensures.none
