use Rattle.std.proofs.Common.{◌∙◌, ◌-◌, ap, arith}
use Rattle.roster_instance.specs.Counting.{sum_below}
use Rattle.roster_instance.specs.Meaning.{minimum, skill_count}
use Rattle.roster_rules.specs.Covers.{number_at}
use Rattle.roster_who.proofs.TakerLemmas.{shortfall_by_table}
use Rattle.roster_who.proofs.figures.missed_on.Goals as goal

pub returns-clause-missed : goal.returns-clause-missed
returns-clause-missed c = λ have is.
    let case = c.args.case.now in
    c.loop-shift.invariant.missed_is
    ∙ ap (λ m. sum_below m (λ s. sum_below (skill_count case) (λ k. minimum case c.args.day s k - number_at c.args.covers.now s k))) (omega arith)
    ∙ shortfall_by_table case c.args.day c.args.covers.now have (omega arith) (omega arith) is
