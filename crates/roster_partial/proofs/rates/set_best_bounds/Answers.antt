use Rattle.std.proofs.Common.{ℕ, List, arith, subst, sym}
use Rattle.roster_offers.specs.Lists.{offers_on}
use Rattle.roster_completion.specs.declared.rates.Rates.{Rates}
use Rattle.roster_partial.specs.Counts.{CountsSets, most_first}
use Rattle.roster_partial.specs.Rates.{AreSetAt}
use Rattle.roster_partial.proofs.CountLaws.{no_set, one_row, one_set, sets_more, sets_within}
use Rattle.roster_partial.proofs.rates.set_best_bounds.Goals as goal
use Rattle.roster_partial.proofs.rates.set_best_bounds.Goals.{then-not-are_same, else-not-are_same}

pub returns-then-completion_bounds-completion_cells-clause-counted : goal.returns-then-completion_bounds-completion_cells-clause-counted
returns-then-completion_bounds-completion_cells-clause-counted c =
    let search = c.args.bounded.now.search in
    sets_within search.case.now search.nurse (offers_on search.offers.now) (omega arith) (omega arith) (no_set search.case.now search.nurse (offers_on search.offers.now) c.args.meter.now)

pub returns-clause-set : goal.returns-clause-set
returns-clause-set c =
    let search = c.args.bounded.now.search in
    let tried = c.try_rates-last.ensures.tried in
    elim c.if-not-are_same.branch [
      | then-not-are_same w ↦
          let set = w.set_completion_bounds-then-not-are_same.ensures in
          subst (λ (cells : List ℕ). AreSetAt search c.try_rates-last.result.rates cells) (sym w.completion_bounds-is) (record { small = tried.small; completion_bounds = set.completion_bounds (set.capacity.1 tried.set.inside); inside = omega (arith, tried.set.inside, set.length) })
      | else-not-are_same w ↦
          subst (λ (cells : List ℕ). AreSetAt search c.try_rates-last.result.rates cells) (sym w.completion_bounds-is)
          (subst (λ (rates : Rates). AreSetAt search rates c.try_rates-last.new.completion_bounds) (sym (c.are_same.ensures w.if-not-are_same.false)) tried.set)
    ]

pub returns-clause-counted : goal.returns-clause-counted
returns-clause-counted c =
    let search = c.args.bounded.now.search in
    let k = search.case.now in
    let n = search.nurse in
    let offers = offers_on search.offers.now in
    let start = c.args.meter.now in
    let planned = c.plan_by-plan.new.meter in
    let set = c.set_completion_bounds.new.meter in
    let followed = c.trial-first.new.meter in
    let tried = c.try_rates-last.new.meter in
    let inside = c.set_completion_bounds.ensures.capacity.1 (omega (arith, c.if-completion_bounds-completion_cells.false, c.completion_cells.ensures)) in
    let first = sets_more k n offers (one_row k n offers start planned c.plan_by-plan.ensures.counted) (one_set k n offers planned set (c.set_completion_bounds.ensures.counted inside)) in
    let followed_is = sets_more k n offers first (one_row k n offers set followed c.trial-first.ensures.counted) in
    let more = sets_more k n offers followed_is c.try_rates-last.ensures.counted in
    elim c.if-not-are_same.branch [
      | then-not-are_same w ↦
          let again = w.set_completion_bounds-then-not-are_same.new.meter in
          let all = sets_more k n offers more (one_set k n offers tried again (w.set_completion_bounds-then-not-are_same.ensures.counted (w.set_completion_bounds-then-not-are_same.ensures.capacity.1 c.try_rates-last.ensures.tried.set.inside))) in
          subst (λ (m : ℕ). CountsSets k n offers most_first most_first start m) (sym w.meter-is) (sets_within k n offers (omega (arith, c.plan_by-plan.ensures.trials)) (omega (arith, c.plan_by-plan.ensures.trials)) all)
      | else-not-are_same w ↦
          subst (λ (m : ℕ). CountsSets k n offers most_first most_first start m) (sym w.meter-is) (sets_within k n offers (omega (arith, c.plan_by-plan.ensures.trials)) (omega (arith, c.plan_by-plan.ensures.trials)) more)
    ]
