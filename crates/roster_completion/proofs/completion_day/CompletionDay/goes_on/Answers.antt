use Rattle.std.proofs.Common.{◌∙◌, ◌*◌, ◌+◌, ◌≤◌, ap, arith, nat_lt}
use Rattle.std.proofs.lemmas.Nat.{mul-le}
use Rattle.roster_state.proofs.SumLaw.{one_at_most}
use Rattle.roster_completion.proofs.completion_day.CompletionDay.goes_on.Goals as goal
use Rattle.roster_completion.proofs.completion_day.CompletionDay.goes_on.Goals.{After-day_violations}

-- at most one day is an extra one
few_points : (c : After-day_violations) → c.args.weight * c.day_violations.result ≤ 30 * 1
few_points c =
    mul-le c.args.weight c.day_violations.result 30 1 c.requires
    (omega (arith, c.day_violations.ensures.violations, one_at_most (nat_lt c.args.limits.greatest (c.args.run + 1))))

pub overflow_mul-points : goal.overflow_mul-points
overflow_mul-points c = omega (arith, few_points (goal.at.overflow_mul-points c).After-day_violations)

pub parts-requires : goal.parts-requires
parts-requires c = omega (arith, few_points (goal.at.parts-requires c).After-day_violations)

pub returns-clause-cost : goal.returns-clause-cost
returns-clause-cost c = c.parts.ensures.value ∙ ap (λ v. c.args.self.now.scale * (c.args.weight * v)) c.day_violations.ensures.violations

pub returns-clause-within : goal.returns-clause-within
returns-clause-within c = omega (arith, c.parts.ensures.within, few_points (goal.at.returns-clause-within c).After-day_violations)
