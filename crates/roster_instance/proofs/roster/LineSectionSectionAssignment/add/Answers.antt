use Rattle.std.proofs.Common.{◌∙◌, ap, sym, is_some}
use Rattle.roster_instance.proofs.LineLemmas.{line_free, line_put, line_taken}
use Rattle.roster_instance.proofs.roster.LineSectionSectionAssignment.add.Goals as goal

pub returns-then-is_some-clause-first : goal.returns-then-is_some-clause-first
returns-then-is_some-clause-first c = λ earlier built other.
    let names = c.args.self.now.scenario.now in
    line_taken c.args.self.now.source.now names.nurses names.shifts names.skills c.args.self.now.week c.args.line.now c.in_ok-nurse.nurse c.in_ok-shift.shift c.in_ok-skill.skill c.weekday-weekday.result
    c.in_ok-nurse.ensures.number c.in_ok-shift.ensures.number c.in_ok-skill.ensures.number c.in_ok-nurse.ensures.within c.weekday-weekday.ensures.number earlier c.args.self.now.lines built
    (ap is_some (sym c.get.ensures) ∙ sym (c.if-is_some.ensures))

pub returns-clause-built : goal.returns-clause-built
returns-clause-built c = λ earlier built.
    let names = c.args.self.now.scenario.now in
    c.set.ensures ∙
    line_put c.args.self.now.source.now names.nurses names.shifts names.skills c.args.self.now.week c.args.line.now c.in_ok-nurse.nurse c.in_ok-shift.shift c.in_ok-skill.skill c.weekday-weekday.result
    c.in_ok-nurse.ensures.number c.in_ok-shift.ensures.number c.in_ok-skill.ensures.number c.in_ok-nurse.ensures.within c.weekday-weekday.ensures.number earlier c.args.self.now.lines built
    (ap is_some (sym c.get.ensures) ∙ sym (c.if-is_some.ensures))

pub returns-clause-none : goal.returns-clause-none
returns-clause-none c = λ earlier built.
    let names = c.args.self.now.scenario.now in
    line_free c.args.self.now.source.now names.nurses names.shifts names.skills c.args.self.now.week c.args.line.now c.in_ok-nurse.nurse c.in_ok-shift.shift c.in_ok-skill.skill c.weekday-weekday.result
    c.in_ok-nurse.ensures.number c.in_ok-shift.ensures.number c.in_ok-skill.ensures.number c.in_ok-nurse.ensures.within c.weekday-weekday.ensures.number earlier c.args.self.now.lines built
    (ap is_some (sym c.get.ensures) ∙ sym (c.if-is_some.ensures))
