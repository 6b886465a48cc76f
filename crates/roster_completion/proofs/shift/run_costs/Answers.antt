use Rattle.std.proofs.Common.{◌≡◌, ◌*◌, ap, arith}
use Rattle.roster_completion.specs.Lines.{way_cost}
use Rattle.roster_state.specs.CompletionLines.{longer}
use Rattle.roster_completion.proofs.Indices.{work_within}
use Rattle.roster_completion.proofs.shift.run_costs.Goals as goal

pub returns-clause-others : goal.returns-clause-others
returns-clause-others c k l =
    let day = c.args.day.now in
    let to : c.min.result ≡ longer c.args.run day.rules.working = omega (arith, c.min.ensures, c.cap-most.ensures) in
    let cost = ap (λ m. way_cost c.args.after.now.ways.others day.next.now (m * day.shift_runs) k) to in
    omega (arith, c.min-3.ensures, c.min-2.ensures, c.least_way-others.ensures.least k l, cost, c.goes_on-more.ensures.cost)

pub least_way-others-requires-clause-index : goal.least_way-others-requires-clause-index
least_way-others-requires-clause-index c k = (c.requires.after.ways.openings k).index c.min.result (omega (arith, c.min.ensures, c.cap-most.ensures, work_within c.args.day.now))
