use Rattle.std.proofs.Common.{◌≡◌, ◌∙◌, ◌+◌, ◌*◌, ap, arith, Some, subst, sym}
use Rattle.std.proofs.lemmas.Nat.{mul-le}
use Rattle.roster_offers.specs.Offers.{end_cost_at}
use Rattle.roster_state.specs.Transition.{end_cost_of}
use Rattle.roster_partial.specs.Rates.{FitsNurse}
use Rattle.roster_partial.specs.Rows.{entry_numbered, rows_in}
use Rattle.roster_partial.specs.Searches.{days_in, days_on, offers_of_last}
use Rattle.roster_partial.proofs.DaysLaws.{best_at_last}
use Rattle.roster_partial.proofs.RowLaws.{beyond, pruned_is_none, stays_within}
use Rattle.roster_partial.proofs.all_days.cost_at_end.Goals as goal
use Rattle.roster_partial.proofs.all_days.cost_at_end.Goals.{After-end_cost}

-- what the row costs, as it is computed
cost : (c : After-end_cost) → (entry_numbered (rows_in c.args.rows.now) c.args.index).cost + end_cost_at c.args.limited.now.completion_bounds.search.case.now c.args.limited.now.completion_bounds.search.nurse c.args.limited.now.completion_bounds.search.scale (entry_numbered (rows_in c.args.rows.now) c.args.index).state ≡ c.cost_at-days.result + c.args.limited.now.completion_bounds.search.scale * c.end_cost.result
cost c =
    let search = c.args.limited.now.completion_bounds.search in
    let end = ap (λ k. search.scale * k) (c.end_cost.ensures.cost ∙ ap (end_cost_of search.case.now search.nurse) c.row_state-state.ensures) in
    omega (arith, c.cost_at-days.ensures, end)

pub overflow_mul-cost : goal.overflow_mul-cost
overflow_mul-cost c =
    let search = c.args.limited.now.completion_bounds.search in
    omega (arith, mul-le search.scale c.end_cost.result 128 19980 search.in_scale.few c.end_cost.ensures.within)

pub overflow_add-cost : goal.overflow_add-cost
overflow_add-cost c =
    let search = c.args.limited.now.completion_bounds.search in
    omega (arith, mul-le search.scale c.end_cost.result 128 19980 search.in_scale.few c.end_cost.ensures.within, c.if-days-limited.false, c.args.limited.now.low)

pub end_cost-requires-clause-fits : goal.end_cost-requires-clause-fits
end_cost-requires-clause-fits c = subst (FitsNurse c.args.limited.now.completion_bounds.search) (sym c.row_state-state.ensures) c.requires.fits

pub returns-then-days-limited : goal.returns-then-days-limited
returns-then-days-limited c =
    let limited = c.args.limited.now in
    let rows = rows_in c.args.rows.now in
    record { best = pruned_is_none (days_on limited (days_in limited.completion_bounds.search) rows) (entry_numbered rows c.args.index) (omega (arith, c.if-days-limited.true, c.cost_at-days.ensures)) }

pub returns-then-cost-limited : goal.returns-then-cost-limited
returns-then-cost-limited c =
    let rows = rows_in c.args.rows.now in
    record { best = best_at_last c.args.limited.now rows (entry_numbered rows c.args.index) ∙ beyond c.args.limited.now.limit _ (omega (arith, c.if-cost-limited.true, cost (goal.at.returns-then-cost-limited c).After-end_cost)) }

pub returns : goal.returns
returns c =
    let limited = c.args.limited.now in
    let rows = rows_in c.args.rows.now in
    let is = cost (goal.at.returns c).After-end_cost in
    record {
      best =
          best_at_last limited rows (entry_numbered rows c.args.index)
          ∙ stays_within limited.limit _ (omega (arith, c.if-cost-limited.false, is))
          ∙ ap (λ n. Some (n, offers_of_last limited.completion_bounds.search c.args.rows.now c.args.index)) is;
    }
