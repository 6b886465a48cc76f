use Rattle.std.proofs.Common.{◌∙◌, Bool, List, ap, arith, false, get_or}
use Rattle.roster_instance.specs.Meaning.{WeekFacts}
use Rattle.roster_instance.proofs.week.Week.is_absent.Goals as goal

pub returns-in-Some : goal.returns-in-Some
returns-in-Some c =
    c.in-Some.ensures.lookup.4 (omega arith) false
    ∙ ap (λ (all : List Bool). get_or all c.args.index false) c.deref.ensures.value
    ∙ ap (λ (week : WeekFacts). get_or week.absences c.args.index false) c.self.view_is
