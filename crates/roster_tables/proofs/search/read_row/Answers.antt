use Rattle.std.proofs.Common.{◌≡◌, ◌∙◌, ◌<◌, IfSome, List, ap, arith, refl, subst, sym}
use Rattle.std.proofs.lemmas.List.{length-set}
use Rattle.roster_instance.specs.Meaning.{day_count}
use Rattle.roster_offers.specs.declared.offer.Offer.{Offer}
use Rattle.roster_offers.specs.Cheapest.{Priced}
use Rattle.roster_offers.specs.Lists.{no_row, offers_on}
use Rattle.roster_offers.proofs.LowRows.{LowRow}
use Rattle.roster_offers.proofs.ScaleLaws.{low_over_at}
use Rattle.roster_tables.specs.Days.{IsReachableIn, best_of_days}
use Rattle.roster_tables.specs.Tables.{BestOnward}
use Rattle.roster_tables.proofs.ReadLaws.{low_of}
use Rattle.roster_tables.proofs.SearchLaws.{IsReadTo, onward-day, read_first, read_last, read_on, reads_low, reads_some}
use Rattle.roster_tables.proofs.search.read_row.Goals as goal
use Rattle.roster_tables.proofs.search.read_row.Goals.{After-keeps_limits, In-loop-day}

-- the best row, and it is low
found : (c : After-keeps_limits) → LowRow (best_of_days c.args.days.now)
found c =
    let search = c.args.days.now.search in
    low_over_at search.case.now c.keeps_limits.ensures.small c.keeps_limits.ensures.weeks search.nurse search.scale search.in_scale (offers_on search.offers.now) (λ day within. (search.for_nurse.each day within).of_case) c.requires.some

is_low : (c : After-keeps_limits) → IfSome (best_of_days c.args.days.now) (λ row. row.0 < no_row)
is_low c =
    let best = found c in
    subst (λ (o : Priced (List Offer)). IfSome o (λ row. row.0 < no_row)) (sym best.is) best.low

pub loop-day-init : goal.loop-day-init
loop-day-init c =
    let days = c.args.days.now in
    record {
      reachable = subst (IsReachableIn days 0) (sym c.start-state.ensures.state) days.are_reachable.start;
      read = λ cost best is. read_first days.search.case.now days.search.nurse days.search.scale (offers_on days.search.offers.now) cost best c.start-state.result.0 c.args.row.now c.start-state.ensures.state is (low_of _ (cost, best) is (is_low (goal.at.loop-day-init c).After-keeps_limits));
      same_length = refl;
    }

day_in : (c : In-loop-day) → c.loop-day.day < day_count c.args.days.now.search.case.now
day_in c = omega (arith, c.loop-day-test.true, c.days-day-end.ensures.count)

pub read_day-choice-requires-clause-day : goal.read_day-choice-requires-clause-day
read_day-choice-requires-clause-day c = day_in (goal.at.read_day-choice-requires-clause-day c).In-loop-day

pub read_day-choice-requires-clause-some : goal.read_day-choice-requires-clause-some
read_day-choice-requires-clause-some c =
    let days = c.args.days.now in
    let low = found (goal.at.read_day-choice-requires-clause-some c).After-keeps_limits in
    reads_some days.search.case.now days.search.nurse days.search.scale (offers_on days.search.offers.now) c.loop-day.day (day_in (goal.at.read_day-choice-requires-clause-some c).In-loop-day) c.loop-day.state c.loop-day.row low.row.1 (c.loop-day.invariant.read low.row.0 low.row.1 low.is)

pub read_day-choice-requires-clause-low : goal.read_day-choice-requires-clause-low
read_day-choice-requires-clause-low c =
    let days = c.args.days.now in
    let low = found (goal.at.read_day-choice-requires-clause-low c).After-keeps_limits in
    reads_low days.search.case.now days.search.nurse days.search.scale (offers_on days.search.offers.now) c.loop-day.day (day_in (goal.at.read_day-choice-requires-clause-low c).In-loop-day) c.loop-day.state c.loop-day.row low.row.1 (c.loop-day.invariant.read low.row.0 low.row.1 low.is)

pub loop-day-preserved : goal.loop-day-preserved
loop-day-preserved c =
    let k = c.args.days.now.search.case.now in
    let offers = offers_on c.args.days.now.search.offers.now in
    let n = c.args.days.now.search.nurse in
    let scale = c.args.days.now.search.scale in
    let day = c.loop-day.day in
    let i = c.loop-day.invariant in
    let within = day_in (goal.at.loop-day-preserved c).In-loop-day in
    record {
      reachable = c.read_day-choice.ensures.reachable;
      read = λ cost best is.
          let so_far = i.read cost best is in
          read_on k n scale offers day c.loop-day.state c.read_day-choice.result.1 c.loop-day.row c.read_day-choice.result.0 best (omega (arith, within, i.same_length, c.requires.row_capacity)) so_far
          (c.read_day-choice.ensures.begins (so_far.cost, so_far.rest) (ap (λ (f : BestOnward). f c.loop-day.state) (sym (onward-day k n scale offers day within)) ∙ so_far.is));
      same_length = length-set c.loop-day.row day c.read_day-choice.result.0 ∙ i.same_length;
    }

pub returns-clause-row : goal.returns-clause-row
returns-clause-row c cost best is =
    let k = c.args.days.now.search.case.now in
    let offers = offers_on c.args.days.now.search.offers.now in
    let n = c.args.days.now.search.nurse in
    let scale = c.args.days.now.search.scale in
    let all : c.loop-day.day ≡ day_count k = omega (arith, c.loop-day-test.false, c.loop-day.auto.day-end, c.days-day-end.ensures.count) in
    read_last k n scale offers c.loop-day.state c.loop-day.row best (subst (λ d. IsReadTo k n scale offers d c.loop-day.state c.loop-day.row best) all (c.loop-day.invariant.read cost best is))
