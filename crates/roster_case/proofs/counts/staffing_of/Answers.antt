use Rattle.std.proofs.Common.{◌≡◌, ◌∙◌, ◌+◌, ◌*◌, ◌/◌, ℕ, ap, arith}
use Rattle.std.proofs.lemmas.List.{length_push}
use Rattle.roster_instance.specs.Meaning.{day_count}
use Rattle.roster_instance.specs.Rosters.{cover}
use Rattle.roster_instance.specs.Counting.{sum_below}
use Rattle.roster_rules.specs.Penalties.{staffing_cost_of_day}
use Rattle.roster_rules.proofs.CountLemmas.{sum_more}
use Rattle.roster_rules.specs.Weights.{staffing_weight}
use Rattle.roster_laws.proofs.Shortfall.{staffing-shortfall}
use Rattle.roster_case.specs.declared.counts.DayCounts.{DayCounts}
use Rattle.roster_case.specs.Held.{IsDay, no_day}
use Rattle.roster_case.proofs.PushLemmas.{each_more}
use Rattle.roster_case.proofs.counts.staffing_of.Goals as goal

-- the day's staffing costs the weight for each nurse short of an optimum
divided : (cost shortfall : ℕ) → cost ≡ staffing_weight * shortfall → cost / staffing_weight ≡ shortfall
divided cost shortfall is = omega (arith, is)

pub overflow_add-cost : goal.overflow_add-cost
overflow_add-cost c =
    let limits = c.keeps_limits.ensures in
    omega (arith, c.loop-day.invariant.within, c.staffing_cost_of_day-cost_of_day.ensures.within, limits.weeks, c.loop-day-test.true, c.days-day-end.ensures.count)

pub loop-day-preserved : goal.loop-day-preserved
loop-day-preserved c =
    let case = c.args.case.now in
    let roster = c.args.roster.now in
    let days = c.loop-day.days.items in
    let day = c.loop-day.day in
    let table = c.covers-covers.result in
    let cost = c.staffing_cost_of_day-cost_of_day.ensures.cost (cover roster day) c.covers-covers.ensures in
    let counts : DayCounts = record { covers = table; shortfall = c.staffing_cost_of_day-cost_of_day.result / staffing_weight } in
    rw c.in_ok-push.ensures.items (record {
      days = length_push days counts ∙ ap (λ n. n + 1) c.loop-day.invariant.days;
      counted = each_more (IsDay case roster) days counts no_day day c.loop-day.invariant.days c.loop-day.invariant.counted (record { covers = c.covers-covers.ensures; is_short = divided _ _ (cost ∙ staffing-shortfall case day (cover roster day)) });
      cost_is = sum_more (staffing_cost_of_day case roster) day _ _ c.loop-day.invariant.cost_is cost;
      within = omega (arith, c.loop-day.invariant.within, c.staffing_cost_of_day-cost_of_day.ensures.within);
    })

pub returns-clause-counts : goal.returns-clause-counts
returns-clause-counts c = λ d h. c.loop-day.invariant.counted d (omega (arith, h, c.loop-day-test.false, c.days-day-end.ensures.count))

pub returns-clause-cost : goal.returns-clause-cost
returns-clause-cost c =
    let all : c.loop-day.day ≡ day_count c.args.case.now = omega (arith, c.loop-day-test.false, c.loop-day.auto.day-end, c.days-day-end.ensures.count) in
    c.loop-day.invariant.cost_is ∙ ap (λ n. sum_below n (staffing_cost_of_day c.args.case.now c.args.roster.now)) all
