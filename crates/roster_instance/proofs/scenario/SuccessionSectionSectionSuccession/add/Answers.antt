use Rattle.std.proofs.Common.{◌∙◌, Some, ap, flat_map, is_some, subst, sym}
use Rattle.std.proofs.Math.ListN.{set}
use Rattle.roster_instance.specs.Bundles.{numbers_among}
use Rattle.roster_instance.specs.Checking.{IsFirst}
use Rattle.roster_instance.specs.Refusals.{unknown_fault}
use Rattle.roster_instance.proofs.Sections.{IsFirst-through}
use Rattle.roster_instance.proofs.ScenarioLemmas.{line-filled, line-forbidden, line-none, line-repeated}
use Rattle.roster_instance.proofs.scenario.SuccessionSectionSectionSuccession.add.Goals as goal

pub returns-then-is_some-clause-first : goal.returns-then-is_some-clause-first
returns-then-is_some-clause-first c = λ earlier are.
    let s = c.args.self.now in
    let taken = ap is_some (sym c.get.ensures) ∙ sym c.if-is_some.ensures in
    line-repeated s.source.now s.shifts.now c.args.line.now c.in_ok-shift.shift c.in_ok-shift.ensures.number earlier s.lines are taken

pub returns-in_err-forbidden-clause-first : goal.returns-in_err-forbidden-clause-first
returns-in_err-forbidden-clause-first c = λ earlier are.
    let s = c.args.self.now in
    let f = c.in_err-forbidden.field-0.0 in
    let free = ap is_some (sym c.get.ensures) ∙ sym c.if-is_some.ensures in
    let first = subst (λ ts. IsFirst (flat_map (unknown_fault s.source.now s.shifts.now) ts) f) c.as_slice.ensures c.in_err-forbidden.ensures.first in
    IsFirst-through _ f _ c.from_residual-in_err-forbidden.ensures.1
    (line-forbidden s.source.now s.shifts.now c.args.line.now c.in_ok-shift.shift c.in_ok-shift.ensures.number earlier s.lines are free f first)

pub returns-clause-built : goal.returns-clause-built
returns-clause-built c = λ earlier are.
    let s = c.args.self.now in
    let k = c.in_ok-shift.shift in
    let free = ap is_some (sym c.get.ensures) ∙ sym c.if-is_some.ensures in
    c.set.ensures
    ∙ ap (λ flags. set s.lines k (Some flags)) (c.in_ok-forbidden.ensures.flags ∙ ap (numbers_among s.source.now s.shifts.now) c.as_slice.ensures)
    ∙ line-filled s.source.now s.shifts.now c.args.line.now k c.in_ok-shift.ensures.number earlier s.lines are free

pub returns-clause-none : goal.returns-clause-none
returns-clause-none c = λ earlier are.
    let s = c.args.self.now in
    let free = ap is_some (sym c.get.ensures) ∙ sym c.if-is_some.ensures in
    let none = ap (flat_map (unknown_fault s.source.now s.shifts.now)) (sym c.as_slice.ensures) ∙ c.in_ok-forbidden.ensures.none in
    line-none s.source.now s.shifts.now c.args.line.now c.in_ok-shift.shift c.in_ok-shift.ensures.number earlier s.lines are free none
