use Rattle.std.proofs.Common.{◌+◌, ◌*◌, arith}
use Rattle.std.proofs.lemmas.Nat.{mul-le}
use Rattle.roster_instance.specs.Limits.{most_days, most_nurses, most_shifts, most_skills, most_states}
use Rattle.roster_laws.specs.Greatest.{greatest_extension_count}
use Rattle.roster_polish.specs.Polished.{first_searches, descent_rounds, most_searches}
use Rattle.roster_polish.proofs.room.searches_fit_meter.Goals as goal

pub returns : goal.returns
returns c =
    let case = c.args.case.now in
    let most = most_searches + descent_rounds * most_nurses in
    let within = mul-le (c.args.searches + first_searches case) (greatest_extension_count case) most (most_states * most_days * (1 + most_shifts * most_skills)) (omega (arith, c.requires, c.keeps_limits.ensures.nurses)) c.extensions_are_few.ensures in
    omega (arith, within)
