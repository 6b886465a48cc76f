use Rattle.std.proofs.Common.{◌∙◌, Some, ap, is_some, sym}
use Rattle.std.proofs.Math.ListN.{set}
use Rattle.std.proofs.lemmas.Result.{err_from_is_err_and}
use Rattle.roster_instance.specs.declared.rules.Border.{Border}
use Rattle.roster_instance.specs.declared.rules.Past.{Past}
use Rattle.roster_instance.proofs.HistoryLemmas.{line-filled, line-new, line-repeated}
use Rattle.roster_instance.proofs.history.HistorySectionSectionNurseHistory.add.Goals as goal

pub returns-then-is_some-clause-first : goal.returns-then-is_some-clause-first
returns-then-is_some-clause-first c = λ earlier is other.
    let s = c.args.self.now in
    line-repeated s.source.now s.scenario.now.nurses s.scenario.now.shifts earlier s.past is c.args.line.now c.in_ok-nurse.nurse c.in_ok-nurse.ensures.number
    (ap is_some (sym c.get.ensures) ∙ sym c.is_some.ensures ∙ c.if-is_some.true)

pub returns-in_err-border_of-clause-first : goal.returns-in_err-border_of-clause-first
returns-in_err-border_of-clause-first c = λ earlier is.
    let s = c.args.self.now in
    let new = line-new s.source.now s.scenario.now.nurses s.scenario.now.shifts earlier s.past is c.args.line.now c.in_ok-nurse.nurse c.in_ok-nurse.ensures.number
    (ap is_some (sym c.get.ensures) ∙ sym c.is_some.ensures ∙ c.if-is_some.false) in
    let p = err_from_is_err_and c.from_residual-in_err-border_of.result c.from_residual-in_err-border_of.ensures.1 in
    rw (p.1, p.2, new) c.in_err-border_of.ensures.first

pub returns-clause-built : goal.returns-clause-built
returns-clause-built c = λ earlier is.
    let s = c.args.self.now in
    let line = c.args.line.now in
    let with_border : Border → Past = λ border. record { border = border; assignments = line.assignments; weekends = line.weekends } in
    c.set.ensures
    ∙ ap (λ border. set s.past c.in_ok-nurse.nurse (Some (with_border border))) c.in_ok-border_of.ensures.border
    ∙ sym (line-filled s.source.now s.scenario.now.nurses s.scenario.now.shifts earlier s.past is line c.in_ok-nurse.nurse c.in_ok-nurse.ensures.number
    (ap is_some (sym c.get.ensures) ∙ sym c.is_some.ensures ∙ c.if-is_some.false))

pub returns-clause-none : goal.returns-clause-none
returns-clause-none c = λ earlier is.
    let s = c.args.self.now in
    line-new s.source.now s.scenario.now.nurses s.scenario.now.shifts earlier s.past is c.args.line.now c.in_ok-nurse.nurse c.in_ok-nurse.ensures.number
    (ap is_some (sym c.get.ensures) ∙ sym c.is_some.ensures ∙ c.if-is_some.false)
    ∙ c.in_ok-border_of.ensures.none
