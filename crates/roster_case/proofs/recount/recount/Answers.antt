use Rattle.std.proofs.Common.{◌≡◌, ◌∙◌, ◌<◌, ap, arith, refl, subst, sym, length, slice_index_or}
use Rattle.std.proofs.lemmas.List.{get_or-set_other, length-set}
use Rattle.roster_instance.specs.Counting.{sum_below}
use Rattle.roster_instance.specs.Meaning.{day_count, optimum}
use Rattle.roster_instance.specs.Rosters.{Row, choice_on, cover, with_row}
use Rattle.roster_instance.proofs.RosterFacts.{has_row}
use Rattle.roster_laws.specs.Staffing.{shortfall}
use Rattle.roster_laws.proofs.Shortfall.{staffing_cost-shortfall}
use Rattle.roster_case.specs.Held.{IsDay, no_day}
use Rattle.roster_case.proofs.RecountLemmas.{days_more, shortfall_within, shortfall_more}
use Rattle.roster_case.proofs.recount.recount.Goals as goal

pub exchange_on_day-one-requires-clause-few : goal.exchange_on_day-one-requires-clause-few
exchange_on_day-one-requires-clause-few c =
    let case = c.args.case.now in
    let r = c.args.roster.now in
    let day = c.loop-day.day in
    let inside : day < day_count case = omega arith in
    let was : IsDay case r day (slice_index_or c.loop-day.days day no_day) = subst (IsDay case r day) (sym (c.loop-day.invariant.after day (omega arith))) (c.requires.counts day inside) in
    omega (arith, was.is_short, shortfall_within case day (cover r day) c.keeps_limits.ensures.small c.keeps_limits.ensures.shifts c.keeps_limits.ensures.skills)

pub loop-day-preserved : goal.loop-day-preserved
loop-day-preserved c =
    let r = c.args.roster.now in
    let n = c.args.nurse in
    let day = c.loop-day.day in
    let within : n < length r = has_row c.args.case.now r n c.requires.fitting c.requires.nurse in
    let same = c.loop-day.invariant.after day (omega arith) in
    let inside : day < day_count c.args.case.now = omega arith in
    let was : IsDay c.args.case.now r day (slice_index_or c.loop-day.days day no_day) = subst (IsDay c.args.case.now r day) (sym same) (c.requires.counts day inside) in
    let old_is = ap (λ (row : Row). choice_on row day) c.row-old.ensures in
    record {
      days = length-set c.loop-day.days day c.exchange_on_day-one.new.counts ∙ c.loop-day.invariant.days;
      before = days_more r n within c.args.row.now day _ _ old_is refl _ was.covers c.args.case.now c.exchange_on_day-one.result.fewer c.exchange_on_day-one.result.more c.exchange_on_day-one.ensures.shortfall
          c.exchange_on_day-one.new.counts c.exchange_on_day-one.ensures.table _ was.is_short c.exchange_on_day-one.ensures.kept c.loop-day.days (omega (arith, c.loop-day.invariant.days)) c.loop-day.invariant.before;
      after = λ d h. get_or-set_other c.loop-day.days day d c.exchange_on_day-one.new.counts no_day (λ e. absurd (omega arith)) ∙ c.loop-day.invariant.after d (omega arith);
      is_short = shortfall_more r n within c.args.row.now day _ _ old_is refl _ was.covers c.args.case.now c.exchange_on_day-one.result.fewer c.exchange_on_day-one.result.more c.exchange_on_day-one.ensures.shortfall c.loop-day.change.fewer c.loop-day.change.more c.loop-day.invariant.is_short;
      more = omega (arith, c.loop-day.invariant.more, c.exchange_on_day-one.ensures.more);
      fewer = omega (arith, c.loop-day.invariant.fewer, c.exchange_on_day-one.ensures.fewer);
    }

pub returns-clause-staffing : goal.returns-clause-staffing
returns-clause-staffing c =
    let r = c.args.roster.now in
    let new = with_row r c.args.nurse c.args.row.now in
    let all : c.loop-day.day ≡ day_count c.args.case.now = omega arith in
    omega (
      arith,
      staffing_cost-shortfall c.args.case.now r,
      staffing_cost-shortfall c.args.case.now new,
      c.loop-day.invariant.is_short,
      ap (λ m. sum_below m (λ d. shortfall c.args.case.now (optimum c.args.case.now d) (cover r d))) all,
      ap (λ m. sum_below m (λ d. shortfall c.args.case.now (optimum c.args.case.now d) (cover new d))) all,
    )
