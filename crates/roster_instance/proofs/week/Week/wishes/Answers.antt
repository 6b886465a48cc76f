use Rattle.std.proofs.Common.{◌∙◌, List, ap, arith, get_or}
use Rattle.roster_instance.specs.declared.rules.DayRequests.{DayRequests}
use Rattle.roster_instance.specs.Meaning.{WeekFacts, no_requests}
use Rattle.roster_instance.proofs.week.Week.wishes.Goals as goal

pub returns-in-Some : goal.returns-in-Some
returns-in-Some c =
    c.in-Some.ensures.lookup.4 (omega arith) no_requests
    ∙ ap (λ (all : List DayRequests). get_or all c.args.index no_requests) c.deref.ensures.value
    ∙ ap (λ (week : WeekFacts). get_or week.wishes c.args.index no_requests) c.self.view_is
