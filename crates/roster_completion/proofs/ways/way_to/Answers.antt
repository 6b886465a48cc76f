use Rattle.std.proofs.Common.{◌≡◌, ap, arith, min}
use Rattle.roster_instance.specs.Meaning.{run_of_shift}
use Rattle.roster_instance.specs.Sizes.{cap}
use Rattle.roster_completion.proofs.Indices.{begun_within, next_small, work_within}
use Rattle.roster_completion.proofs.ways.way_to.Goals as goal

pub overflow_cast-result : goal.overflow_cast-result
overflow_cast-result c =
    let day = c.args.day.now in
    let u = c.args.shift in
    let first : c.min.result ≡ min 1 (cap (run_of_shift day.case.now u.0)) = omega (arith, c.min.ensures, c.cap.ensures, ap cap c.run_of_shift-run.ensures.limits) in
    omega (arith, first, begun_within day u c.requires.shift 0 (omega (arith, work_within day)), next_small day)

pub returns-clause-open : goal.returns-clause-open
returns-clause-open c =
    let day = c.args.day.now in
    let u = c.args.shift in
    let first : c.min.result ≡ min 1 (cap (run_of_shift day.case.now u.0)) = omega (arith, c.min.ensures, c.cap.ensures, ap cap c.run_of_shift-run.ensures.limits) in
    record {
      price = omega (arith, c.apart.ensures.within, c.goes_on.ensures.within, day.few_parts);
      index = λ run l. omega (arith, first, begun_within day u c.requires.shift run l);
    }
