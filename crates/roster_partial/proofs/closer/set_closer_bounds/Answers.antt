use Rattle.std.proofs.Common.{ℕ, arith, subst, sym}
use Rattle.roster_offers.specs.Lists.{offers_on}
use Rattle.roster_partial.specs.Counts.{CountsSets, most_closer}
use Rattle.roster_partial.proofs.CountLaws.{no_set, one_set, sets_more, sets_within}
use Rattle.roster_partial.proofs.closer.set_closer_bounds.Goals as goal
use Rattle.roster_partial.proofs.closer.set_closer_bounds.Goals.{then-not-are_same, else-not-are_same}

pub returns-then-bounded-count-clause-counted : goal.returns-then-bounded-count-clause-counted
returns-then-bounded-count-clause-counted c =
    let search = c.args.bounded.now.search in
    let offers = offers_on search.offers.now in
    sets_within search.case.now search.nurse offers (omega arith) (omega arith) (no_set search.case.now search.nurse offers c.args.meter.now)

pub returns-clause-counted : goal.returns-clause-counted
returns-clause-counted c =
    let search = c.args.bounded.now.search in
    let k = search.case.now in
    let n = search.nurse in
    let offers = offers_on search.offers.now in
    let start = c.args.meter.now in
    let tried = c.try_around-last.new.meter in
    elim c.if-not-are_same.branch [
      | then-not-are_same w ↦
          let set = w.set_completion_bounds.ensures in
          let again = w.set_completion_bounds.new.meter in
          let all = sets_more k n offers c.try_around-last.ensures.counted (one_set k n offers tried again (set.counted (set.capacity.1 c.try_around-last.ensures.tried.set.inside))) in
          subst (λ (m : ℕ). CountsSets k n offers most_closer most_closer start m) (sym w.meter-is) (sets_within k n offers (omega arith) (omega arith) all)
      | else-not-are_same w ↦
          subst (λ (m : ℕ). CountsSets k n offers most_closer most_closer start m) (sym w.meter-is) (sets_within k n offers (omega arith) (omega arith) c.try_around-last.ensures.counted)
    ]
