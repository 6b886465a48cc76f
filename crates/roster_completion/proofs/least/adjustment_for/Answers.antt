use Rattle.std.proofs.Common.{◌≡◌, ◌+◌, ◌*◌, ap, arith}
use Rattle.std.proofs.lemmas.Nat.{mul-le}
use Rattle.roster_completion.specs.Least.{days_to_come, weekends_to_come}
use Rattle.roster_completion.proofs.least.adjustment_for.Goals as goal

pub overflow_add-result : goal.overflow_add-result
overflow_add-result c = omega (arith, mul-le c.args.completion_bounds.now.rates.day c.min-days.result 2560 65536 (omega (arith, c.args.completion_bounds.now.small.day, c.args.completion_bounds.now.search.in_scale.few)) (omega (arith, c.min-days.ensures, c.ranges.day.fits)), mul-le c.args.completion_bounds.now.rates.weekend c.min-weekends.result 3840 65536 (omega (arith, c.args.completion_bounds.now.small.weekend, c.args.completion_bounds.now.search.in_scale.few)) (omega (arith, c.min-weekends.ensures)))

-- what is due for missing assignments, in parts of a point
pub overflow_mul-result : goal.overflow_mul-result
overflow_mul-result c =
    omega (arith, mul-le c.args.completion_bounds.now.search.scale (20 * c.saturating_sub-missing.result) 128 1310700 c.args.completion_bounds.now.search.in_scale.few (omega (arith, c.saturating_sub-missing.ensures)))

pub returns : goal.returns
returns c =
    let completion_bounds = c.args.completion_bounds.now in
    let k = completion_bounds.search.case.now in
    let n = completion_bounds.search.nurse in
    let days : c.min-days.result ≡ days_to_come k n c.args.day c.args.assignments = omega (arith, c.min-days.ensures, c.assignments.ensures, completion_bounds.all_days, ap (λ z. z.assignments) completion_bounds.own_ranges, c.requires.day) in
    let weekends : c.min-weekends.result ≡ weekends_to_come k n c.args.day c.args.weekends = omega (arith, c.min-weekends.ensures, c.weekends.ensures, completion_bounds.all_days, ap (λ z. z.weekends) completion_bounds.own_ranges, c.requires.day) in
    record {
      more = ap (λ m. completion_bounds.search.scale * (20 * m)) (omega (arith, days, c.saturating_sub-missing.ensures, completion_bounds.own_least));
      less = (λ i. completion_bounds.rates.day * days i + completion_bounds.rates.weekend * weekends i);
    }
