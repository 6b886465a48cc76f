use Rattle.std.proofs.Common.{◌≡◌, ◌∙◌, ◌+◌, ◌-◌, ◌*◌, ◌≤◌, ap, arith, inl, inr, length, refl, subst, suc, ℕ}
use Rattle.std.proofs.lemmas.Bool.{cases_lt}
use Rattle.std.proofs.lemmas.Nat.{mul-le}
use Rattle.roster_offers.proofs.ListLaws.{offers_read}
use Rattle.roster_partial.specs.Rates.{most_offers}
use Rattle.roster_partial.specs.Rows.{count_in, most_rows, rows_in}
use Rattle.roster_partial.specs.Searches.{AreOfDay, best_of_day, days_in, offered}
use Rattle.roster_partial.proofs.RowCells.{rows_counted}
use Rattle.roster_partial.proofs.all_days.add_days.Goals as goal
use Rattle.roster_partial.proofs.all_days.add_days.Goals.{After-len-offers}

-- the offers of the day, as they are counted
offers : (c : After-len-offers) → c.len-offers.result ≡ length (offered c.args.limited.now.completion_bounds.search c.loop-day.day)
offers c =
    let search = c.args.limited.now.completion_bounds.search in
    c.len-offers.ensures.value ∙ ap length (offers_read search.case.now search.nurse search.offers.now c.args.limited.now.completion_bounds.search.for_nurse c.loop-day.day (omega (arith, c.loop-day-test.true, c.days-day-end.ensures.count)) _ c.index-search-day.result refl)

-- the extensions of the day, as they are computed
extensions : (c : After-len-offers) → (c.row_count-end.result - c.loop-day.first) * c.len-offers.result ≡ (c.row_count-end.result - c.loop-day.first) * length (offered c.args.limited.now.completion_bounds.search c.loop-day.day)
extensions c = ap (λ n. (c.row_count-end.result - c.loop-day.first) * n) (offers c)

-- they are no more than those of as many rows by as many offers as a day may have
brief_extensions : (c : After-len-offers) → (c.row_count-end.result - c.loop-day.first) * length (offered c.args.limited.now.completion_bounds.search c.loop-day.day) ≤ (c.row_count-end.result - c.loop-day.first) * most_offers
brief_extensions c = omega (arith, extensions c, mul-le (c.row_count-end.result - c.loop-day.first) c.len-offers.result (c.row_count-end.result - c.loop-day.first) 9 (omega arith) c.len-offers.ensures.fits)

pub overflow_sub-extensions : goal.overflow_sub-extensions
overflow_sub-extensions c = omega (arith, c.loop-day.invariant.rows.inside, rows_counted c.loop-day.rows c.row_count-end.result c.row_count-end.ensures)

pub overflow_mul-extensions : goal.overflow_mul-extensions
overflow_mul-extensions c =
    let all : c.row_count-end.result ≤ most_rows = omega (arith, c.row_count-end.ensures, c.loop-day.invariant.rows.held.within, c.args.limited.now.few) in
    omega (arith, mul-le (c.row_count-end.result - c.loop-day.first) c.len-offers.result most_rows 9 (omega (arith, all)) c.len-offers.ensures.fits)

pub add_day-requires-clause-end : goal.add_day-requires-clause-end
add_day-requires-clause-end c = rows_counted c.loop-day.rows c.row_count-end.result c.row_count-end.ensures

pub add_day-requires-clause-room : goal.add_day-requires-clause-room
add_day-requires-clause-room c = omega (arith, extensions (goal.at.add_day-requires-clause-room c).After-len-offers, c.if-extensions-last_count.false, c.count.ensures, c.loop-day.invariant.counted.1, c.ranges.last_count.fits)

pub loop-day-preserved : goal.loop-day-preserved
loop-day-preserved c =
    let limited = c.args.limited.now in
    let day = c.loop-day.day in
    let of = (goal.at.loop-day-preserved c).After-len-offers in
    let end = c.row_count-end.result in
    let now = c.add_day.new.rows in
    let i = c.loop-day.invariant in
    let long : end ≡ length (rows_in c.loop-day.rows) = rows_counted c.loop-day.rows end c.row_count-end.ensures in
    let next : suc day ≡ day + 1 = omega arith in
    record {
      rows = subst (λ (d : ℕ). AreOfDay limited d end now) next c.add_day.ensures.rows;
      best = subst (λ (d : ℕ). best_of_day limited d end now ≡ best_of_day limited day c.loop-day.first c.loop-day.rows) next (c.add_day.ensures.best c.if-not-add_day.false) ∙ i.best;
      each_day = λ more. elim (cases_lt c.loop-day.first end) [
        | inl some ↦ omega (arith, more, c.add_day.ensures.each, i.each_day (omega (arith, some, long)))
        | inr none ↦ let empty : end - c.loop-day.first ≡ 0 = omega (arith, none) in omega (arith, more, c.add_day.ensures.each, c.add_day.ensures.counted, ap (λ n. n * length (offered limited.completion_bounds.search day)) empty)
      ];
      brief = omega (arith, brief_extensions of, c.add_day.ensures.counted, i.brief, i.rows.inside, long);
      counted = (omega (arith, c.add_day.ensures.each, c.add_day.ensures.rows.inside, i.counted.0), omega (arith, extensions of, c.add_day.ensures.counted, c.if-extensions-last_count.false, c.count.ensures, i.counted.1));
    }

pub returns-clause-rows : goal.returns-clause-rows
returns-clause-rows c =
    let last : c.loop-day.day ≡ days_in c.args.limited.now.completion_bounds.search = omega (arith, c.loop-day-test.false, c.loop-day.auto.day-end, c.days-day-end.ensures.count) in
    subst (λ (d : ℕ). AreOfDay c.args.limited.now d c.loop-day.first c.loop-day.rows) last c.loop-day.invariant.rows

pub returns-clause-best : goal.returns-clause-best
returns-clause-best c =
    let last : c.loop-day.day ≡ days_in c.args.limited.now.completion_bounds.search = omega (arith, c.loop-day-test.false, c.loop-day.auto.day-end, c.days-day-end.ensures.count) in
    subst (λ (d : ℕ). best_of_day c.args.limited.now d c.loop-day.first c.loop-day.rows ≡ best_of_day c.args.limited.now 0 0 c.args.rows.now) last c.loop-day.invariant.best

-- if fewer extensions are left than the day takes, they are fewer than those of all rows by as many offers as
-- a day may have
pub returns-then-extensions-last_count-clause-full : goal.returns-then-extensions-last_count-clause-full
returns-then-extensions-last_count-clause-full c = λ _.
    let all = mul-le (c.row_count-end.result - c.loop-day.first) c.len-offers.result c.row_count-end.result 9 (omega arith) c.len-offers.ensures.fits in
    inr (omega (arith, all, c.row_count-end.ensures, c.if-extensions-last_count.true, c.count.ensures))

pub returns-then-not-add_day-clause-counted : goal.returns-then-not-add_day-clause-counted
returns-then-not-add_day-clause-counted c =
    (omega (arith, c.add_day.ensures.each, c.add_day.ensures.rows.inside, c.loop-day.invariant.counted.0), omega (arith, extensions (goal.at.returns-then-not-add_day-clause-counted c).After-len-offers, c.add_day.ensures.counted, c.if-extensions-last_count.false, c.count.ensures, c.loop-day.invariant.counted.1))

pub returns-then-not-add_day-clause-brief : goal.returns-then-not-add_day-clause-brief
returns-then-not-add_day-clause-brief c =
    let i = c.loop-day.invariant in
    let long = rows_counted c.loop-day.rows c.row_count-end.result c.row_count-end.ensures in
    omega (arith, brief_extensions (goal.at.returns-then-not-add_day-clause-brief c).After-len-offers, c.add_day.ensures.counted, i.brief, i.rows.inside, long, c.row_count-end.ensures, i.rows.held.within)

pub returns-then-extensions-last_count-clause-brief : goal.returns-then-extensions-last_count-clause-brief
returns-then-extensions-last_count-clause-brief c =
    let i = c.loop-day.invariant in
    omega (arith, i.brief, i.rows.inside, rows_counted c.loop-day.rows c.row_count-end.result c.row_count-end.ensures, c.row_count-end.ensures, i.rows.held.within)

pub returns-clause-brief : goal.returns-clause-brief
returns-clause-brief c =
    let i = c.loop-day.invariant in
    omega (arith, i.brief, i.rows.inside, rows_counted c.loop-day.rows (count_in c.loop-day.rows) refl, i.rows.held.within)

pub returns-then-not-add_day-clause-full : goal.returns-then-not-add_day-clause-full
returns-then-not-add_day-clause-full c = λ _. inl (c.add_day.ensures.full c.if-not-add_day.true)
