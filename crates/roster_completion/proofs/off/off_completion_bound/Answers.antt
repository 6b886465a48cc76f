use Rattle.std.proofs.Common.{◌≡◌, ap, arith}
use Rattle.roster_completion.specs.Lines.{next_at}
use Rattle.roster_state.specs.CompletionLines.{longer}
use Rattle.roster_completion.proofs.Indices.{rest_inside, rest_index}
use Rattle.roster_completion.proofs.off.off_completion_bound.Goals as goal

pub bounds-day-to : goal.bounds-day-to
bounds-day-to c = rest_inside c.args.day.now c.min.result c.args.run (omega (arith, c.min.ensures, c.cap.ensures))

pub returns-clause-completion_bound : goal.returns-clause-completion_bound
returns-clause-completion_bound c =
    let to : c.min.result ≡ longer c.args.run c.args.day.now.rules.free = omega (arith, c.min.ensures, c.cap.ensures) in
    record {
      enter = omega (arith, c.min-2.ensures, c.min-enter.ensures, c.ends-ended.ensures.cost);
      off = omega (arith, c.min-2.ensures, ap (next_at c.args.day.now) (rest_index c.args.day.now c.min.result c.args.run to), c.goes_on-more.ensures.cost);
    }
