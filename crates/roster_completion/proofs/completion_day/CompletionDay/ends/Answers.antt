use Rattle.std.proofs.Common.{◌∙◌, ◌*◌, ◌≤◌, ap, arith}
use Rattle.std.proofs.lemmas.Nat.{mul-le}
use Rattle.roster_completion.proofs.completion_day.CompletionDay.ends.Goals as goal
use Rattle.roster_completion.proofs.completion_day.CompletionDay.ends.Goals.{After-day_violations}

few_points : (c : After-day_violations) → c.args.weight * c.day_violations.result ≤ 30 * 65536
few_points c = mul-le c.args.weight c.day_violations.result 30 65536 c.requires c.day_violations.ensures.within

pub overflow_mul-points : goal.overflow_mul-points
overflow_mul-points c = omega (arith, few_points (goal.at.overflow_mul-points c).After-day_violations)

pub parts-requires : goal.parts-requires
parts-requires c = omega (arith, few_points (goal.at.parts-requires c).After-day_violations)

pub returns-clause-cost : goal.returns-clause-cost
returns-clause-cost c = c.parts.ensures.value ∙ ap (λ v. c.args.self.now.scale * (c.args.weight * v)) c.day_violations.ensures.violations

pub returns-clause-within : goal.returns-clause-within
returns-clause-within c = omega (arith, c.parts.ensures.within, few_points (goal.at.returns-clause-within c).After-day_violations)
