use Rattle.std.proofs.Common.{◌∙◌, ap, inl, inr, refl, subst, Err, Ok}
use Rattle.std.proofs.lemmas.Bool.{cases_Bool}
use Rattle.std.proofs.lemmas.Result.{err_from_is_err_and}
use Rattle.roster_text.specs.Io.{Stops, Writes}
use Rattle.roster_case.specs.Held.{HeldRoster}
use Rattle.roster_rules.specs.Penalties.{penalty}
use Rattle.roster_bound.specs.BoundRuns.{BoundLogStops, RaisesBound}
use Rattle.roster_bound.specs.Rounds.{AreSearched}
use Rattle.roster_bound.proofs.RoundLaws.{are_searched}
use Rattle.roster_answers.specs.Answer.{Output}
use Rattle.roster_reports.specs.Lines.{bound_text}
use Rattle.roster_answers.specs.declared.fault.Fault.TheVariants as fault
use Rattle.roster_timer.specs.Deadlines.{is_up, time_of}
use Rattle.roster_bound.specs.declared.effort.Effort.{Effort}
use Rattle.roster_answers.proofs.BoundLemmas.{all_within, bound_ends, bound_roomless, bound_stops, bound_unheld, endless, made_within}
use Rattle.roster_answers.proofs.bound.report_raised_bound.Goals as goal

pub returns-in_err-held-clause-reports : goal.returns-in_err-held-clause-reports
returns-in_err-held-clause-reports g c =
    let output : Output g.row.Out.Denot = record { contents = g.Out.Write.contents; before = c.args.output.now; after = c.args.output.now } in
    let log : Output g.row.Log.Denot = record { contents = g.Log.Write.contents; before = c.args.log.now; after = c.args.log.now } in
    let p = err_from_is_err_and c.from_residual.result c.from_residual.ensures.1 in
    rw (p.1, p.2) (all_within output log c.args.task.now.effort c.args.task.now.deadline.ends c.args.task.now.from c.args.instance.case c.args.instance.roster _ (bound_unheld c.args.task.now.effort c.args.task.now.from c.args.instance.case c.args.instance.roster output log c.in_err-held.field-0.0 c.in_err-held.ensures.unheld refl refl))

pub returns-in_default-clause-reports : goal.returns-in_default-clause-reports
returns-in_default-clause-reports g c =
    let output : Output g.row.Out.Denot = record { contents = g.Out.Write.contents; before = c.args.output.now; after = c.args.output.now } in
    let log : Output g.row.Log.Denot = record { contents = g.Log.Write.contents; before = c.args.log.now; after = c.args.log.now } in
    all_within output log c.args.task.now.effort c.args.task.now.deadline.ends c.args.task.now.from c.args.instance.case c.args.instance.roster _ (bound_roomless c.args.task.now.effort c.args.task.now.from c.args.instance.case c.args.instance.roster output log c.in_ok-held.ensures.kept refl refl)

pub returns-in_err-write_bound-in-Ok-raise_bound-clause-reports : goal.returns-in_err-write_bound-in-Ok-raise_bound-clause-reports
returns-in_err-write_bound-in-Ok-raise_bound-clause-reports g c =
    let output : Output g.row.Out.Denot = record { contents = g.Out.Write.contents; before = c.args.output.now; after = c.write_bound.new.output } in
    let log : Output g.row.Log.Denot = record { contents = g.Log.Write.contents; before = c.args.log.now; after = c.raise_bound.new.log } in
    let held = c.in_ok-held.ensures.held in
    let kept = c.in_ok-held.ensures.kept in
    let bound = c.in-Ok-raise_bound.raised.bound in
    let made = c.in-Ok-raise_bound.raised.effort in
    let is = c.in-Ok-raise_bound.ensures.made in
    let d = c.raise_bound.new.task.deadline in
    let raised = subst (λ (h : HeldRoster). RaisesBound g.Log.Write.contents h.case c.args.task.now.from h.roster made c.args.meter.now c.raise_bound.new.meter c.args.log.now c.raise_bound.new.log bound) held c.in-Ok-raise_bound.ensures.ok in
    let total_is = c.total.ensures.total ∙ ap (λ (h : HeldRoster). penalty h.case h.roster) held in
    let broken = c.in_err-write_bound-in-Ok-raise_bound.ensures.err in
    let stops : Stops g.Out.Write.contents c.args.output.now c.write_bound.new.output (bound_text c.total.result bound) = record { sent = broken.sent; stops = broken.stops } in
    let meant = subst (λ n. Stops g.Out.Write.contents c.args.output.now c.write_bound.new.output (bound_text n bound)) total_is stops in
    let p = err_from_is_err_and c.from_residual-in_err-write_bound-in-Ok-raise_bound.result c.from_residual-in_err-write_bound-in-Ok-raise_bound.ensures.1 in
    rw (p.1, p.2) (made_within output log c.args.task.now.effort made c.args.task.now.deadline.ends c.args.task.now.from c.args.instance.case c.args.instance.roster _ is.rounds is.nodes (λ none. is.all (endless d.ends d.last d.step (c.in-Ok-raise_bound.ensures.ends ∙ none))) (bound_ends made c.args.task.now.from c.args.instance.case c.args.instance.roster output log {X = Unit {0}} c.args.meter.now c.raise_bound.new.meter bound (Err fault.Output) kept raised tt meant))

pub returns-in-Ok-raise_bound-clause-reports : goal.returns-in-Ok-raise_bound-clause-reports
returns-in-Ok-raise_bound-clause-reports g c =
    let output : Output g.row.Out.Denot = record { contents = g.Out.Write.contents; before = c.args.output.now; after = c.write_bound.new.output } in
    let log : Output g.row.Log.Denot = record { contents = g.Log.Write.contents; before = c.args.log.now; after = c.raise_bound.new.log } in
    let held = c.in_ok-held.ensures.held in
    let kept = c.in_ok-held.ensures.kept in
    let bound = c.in-Ok-raise_bound.raised.bound in
    let made = c.in-Ok-raise_bound.raised.effort in
    let is = c.in-Ok-raise_bound.ensures.made in
    let d = c.raise_bound.new.task.deadline in
    let raised = subst (λ (h : HeldRoster). RaisesBound g.Log.Write.contents h.case c.args.task.now.from h.roster made c.args.meter.now c.raise_bound.new.meter c.args.log.now c.raise_bound.new.log bound) held c.in-Ok-raise_bound.ensures.ok in
    let total_is = c.total.ensures.total ∙ ap (λ (h : HeldRoster). penalty h.case h.roster) held in
    let writes = subst (λ n. Writes g.Out.Write.contents c.args.output.now c.write_bound.new.output (bound_text n bound)) total_is c.in_ok-write_bound-in-Ok-raise_bound.ensures.ok in
    made_within output log c.args.task.now.effort made c.args.task.now.deadline.ends c.args.task.now.from c.args.instance.case c.args.instance.roster _ is.rounds is.nodes (λ none. is.all (endless d.ends d.last d.step (c.in-Ok-raise_bound.ensures.ends ∙ none))) (bound_ends made c.args.task.now.from c.args.instance.case c.args.instance.roster output log {X = Unit {0}} c.args.meter.now c.raise_bound.new.meter bound (Ok tt) kept raised writes tt)

pub returns-clause-reports : goal.returns-clause-reports
returns-clause-reports g c =
    let output : Output g.row.Out.Denot = record { contents = g.Out.Write.contents; before = c.args.output.now; after = c.args.output.now } in
    let log : Output g.row.Log.Denot = record { contents = g.Log.Write.contents; before = c.args.log.now; after = c.raise_bound.new.log } in
    let held = c.in_ok-held.ensures.held in
    let kept = c.in_ok-held.ensures.kept in
    let f = c.in-Err-LogFailed.field-0 in
    let stops = subst (λ (h : HeldRoster). BoundLogStops g.Log.Write.contents h.case c.args.task.now.from h.roster c.args.task.now.effort c.args.log.now c.raise_bound.new.log f) held c.in-Err-LogFailed.ensures.err in
    all_within output log c.args.task.now.effort c.args.task.now.deadline.ends c.args.task.now.from c.args.instance.case c.args.instance.roster _ (bound_stops c.args.task.now.effort c.args.task.now.from c.args.instance.case c.args.instance.roster output log f kept stops refl)

-- ---- what was searched

pub returns-in-Ok-raise_bound-clause-searched : goal.returns-in-Ok-raise_bound-clause-searched
returns-in-Ok-raise_bound-clause-searched g c =
    let h = c.in-Ok-raise_bound.ensures.ok in
    let bound = c.in-Ok-raise_bound.raised.bound in
    let made = c.in-Ok-raise_bound.raised.effort in
    let d = c.raise_bound.new.task.deadline in
    let all = subst (λ (h : HeldRoster). AreSearched h.case c.args.task.now.from h.roster made.rounds c.args.meter.now c.raise_bound.new.meter) c.in_ok-held.ensures.held (are_searched _ _ _ _ _ _ bound h.lines h.rounds h.bound_is c.in-Ok-raise_bound.ensures.below) in
    elim (cases_Bool (is_up (time_of d))) [
      | inl up ↦ inr up
      | inr on ↦ inl (subst (λ (e : Effort). AreSearched c.args.instance.case c.args.task.now.from c.args.instance.roster e.rounds c.args.meter.now c.raise_bound.new.meter) (c.in-Ok-raise_bound.ensures.made.all on) all)
    ]
