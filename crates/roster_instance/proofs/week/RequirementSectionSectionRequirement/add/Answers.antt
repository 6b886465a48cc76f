use Rattle.std.proofs.Common.{◌∙◌, ◌+◌, ◌*◌, Some, ap, is_some, sym}
use Rattle.std.proofs.Math.ListN.{set}
use Rattle.roster_instance.proofs.WeekTableLemmas.{need-filled, need-new, need-repeated}
use Rattle.roster_instance.proofs.week.RequirementSectionSectionRequirement.add.Goals as goal

pub returns-then-is_some-clause-first : goal.returns-then-is_some-clause-first
returns-then-is_some-clause-first c = λ earlier is other.
    let s = c.args.self.now in
    let counts = s.scenario.now.counts in
    need-repeated s.source.now s.scenario.now.shifts s.scenario.now.skills counts.few_shifts counts.few_skills earlier s.lines is
    c.args.line.now c.in_ok-shift.shift c.in_ok-skill.skill c.in_ok-shift.ensures.number c.in_ok-skill.ensures.number
    (ap is_some (sym c.get.ensures) ∙ sym c.is_some.ensures ∙ c.if-is_some.true)

pub returns-clause-built : goal.returns-clause-built
returns-clause-built c = λ earlier is.
    let s = c.args.self.now in
    let counts = s.scenario.now.counts in
    c.set.ensures
    ∙ ap (λ needs. set s.lines (8 * c.in_ok-shift.shift + c.in_ok-skill.skill) (Some needs)) c.needs_of_week.ensures
    ∙ sym (need-filled s.source.now s.scenario.now.shifts s.scenario.now.skills counts.few_shifts counts.few_skills earlier s.lines is
    c.args.line.now c.in_ok-shift.shift c.in_ok-skill.skill c.in_ok-shift.ensures.number c.in_ok-skill.ensures.number
    (ap is_some (sym c.get.ensures) ∙ sym c.is_some.ensures ∙ c.if-is_some.false))

pub returns-clause-none : goal.returns-clause-none
returns-clause-none c = λ earlier is.
    let s = c.args.self.now in
    let counts = s.scenario.now.counts in
    need-new s.source.now s.scenario.now.shifts s.scenario.now.skills counts.few_shifts counts.few_skills earlier s.lines is
    c.args.line.now c.in_ok-shift.shift c.in_ok-skill.skill c.in_ok-shift.ensures.number c.in_ok-skill.ensures.number
    (ap is_some (sym c.get.ensures) ∙ sym c.is_some.ensures ∙ c.if-is_some.false)
