use Rattle.std.proofs.Common.{arith}
use Rattle.std.proofs.lemmas.Nat.{mul-le}
use Rattle.roster_completion.proofs.completion_day.CompletionDay.parts.Goals as goal

pub overflow_mul-result : goal.overflow_mul-result
overflow_mul-result c = omega (arith, mul-le c.args.self.now.scale c.args.points 128 2000000 c.args.self.now.few_parts c.requires)

pub returns-clause-within : goal.returns-clause-within
returns-clause-within c = omega (arith, mul-le c.args.self.now.scale c.args.points 128 c.args.points c.args.self.now.few_parts (omega arith))
