use Rattle.std.proofs.Common.{◌∙◌, ◌*◌, ap, false, replicate, sym}
use Rattle.std.proofs.lemmas.Result.{err_from_is_err_and}
use Rattle.roster_instance.specs.Refusals.{day_faults}
use Rattle.roster_instance.proofs.DayLemmas.{no-days}
use Rattle.roster_instance.proofs.Sections.{each-alike}
use Rattle.roster_instance.proofs.week.marks_of.Goals as goal

pub add_all-requires : goal.add_all-requires
add_all-requires c =
    let s = c.args.scenario.now in
    c.in_ok-no_marks.ensures ∙ ap (λ n. replicate (7 * n) false) c.len.ensures ∙ sym (no-days c.args.source.now s.nurses)

pub returns-in_err-add_all-clause-first : goal.returns-in_err-add_all-clause-first
returns-in_err-add_all-clause-first c =
    let s = c.args.scenario.now in
    let p = err_from_is_err_and c.from_residual-in_err-add_all.result c.from_residual-in_err-add_all.ensures.1 in
    rw (p.1, p.2, ← each-alike (day_faults c.args.source.now s.nurses) c.args.lines.now) c.in_err-add_all.ensures.first

pub returns-clause-none : goal.returns-clause-none
returns-clause-none c =
    let s = c.args.scenario.now in
    sym (each-alike (day_faults c.args.source.now s.nurses) c.args.lines.now) ∙ c.in_ok-add_all.ensures.none
