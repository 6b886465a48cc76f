use Rattle.std.proofs.Common.{◌+◌, ◌*◌, arith}
use Rattle.std.proofs.lemmas.Nat.{mul-le}
use Rattle.roster_instance.specs.Limits.{most_days, most_nurses, most_shifts, most_skills, most_states}
use Rattle.roster_instance.specs.Meaning.{nurse_count}
use Rattle.roster_laws.specs.Greatest.{greatest_extension_count}
use Rattle.roster_answers.proofs.bound.effort_has_capacity.Goals as goal

pub returns : goal.returns
returns c =
    let case = c.args.case.now in
    let one = most_states * most_days * (1 + most_shifts * most_skills) in
    let each = mul-le (nurse_count case) (greatest_extension_count case) most_nurses one c.keeps_limits.ensures.nurses c.extensions_are_few.ensures in
    omega (arith, mul-le (c.args.effort.rounds + c.args.effort.nodes * 24) (nurse_count case * greatest_extension_count case) 1638375 (most_nurses * one) (omega arith) each)
