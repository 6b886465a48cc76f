use Rattle.std.proofs.Common.{◌∙◌, ◌+◌, ◌*◌, Bool, List, ap, length, sym, true}
use Rattle.std.proofs.Math.ListN.{set}
use Rattle.std.proofs.lemmas.List.{length-set, take_at}
use Rattle.roster_instance.proofs.DayLemmas.{line-day}
use Rattle.roster_instance.proofs.week.DaySectionSectionNurseDay.add.Goals as goal

pub returns-clause-built : goal.returns-clause-built
returns-clause-built c = λ earlier is.
    let s = c.args.self.now in
    let index = 7 * c.in_ok-nurse.nurse + c.weekday.result in
    take_at c.mark.new.marks _ s.marks.len
    (ap length c.mark.ensures ∙ length-set c.deref_mut.result.now index true ∙ c.deref_mut.ensures.len)
    ∙ c.mark.ensures
    ∙ ap (λ (flags : List Bool). set flags index true) c.deref_mut.ensures.value
    ∙ sym (line-day s.source.now s.scenario.now.nurses earlier s.marks.items is
    c.args.line.now c.in_ok-nurse.nurse c.in_ok-nurse.ensures.number c.weekday.result c.weekday.ensures.number)
