use Rattle.std.proofs.Common.{◌≡◌, ◌∙◌, ◌++◌, ◌+◌, ◌≤◌, ℕ, List, [], ◌∷◌, ap, arith, drop, length, subst, suc, sym, take}
use Rattle.std.specs.List.{All}
use Rattle.std.proofs.lemmas.Bool.{false≢true}
use Rattle.std.proofs.lemmas.List.{drop-append-le, length-take-le, take-append-le}
use Rattle.std.proofs.lemmas.List.Elements.{All-push}
use Rattle.roster_offers.specs.Cheapest.{cheapest}
use Rattle.roster_offers.proofs.Cheapest.{cheapest_more}
use Rattle.roster_partial.specs.declared.limited.LimitedSearch.{LimitedSearch}
use Rattle.roster_partial.specs.declared.one_offer.RowsDay.{RowsDay}
use Rattle.roster_partial.specs.Rows.{AreMadeFor, Days, IsEntryOf, best_of, day_in, earlier_in, rows_in}
use Rattle.roster_partial.specs.Searches.{HasCells, ArePut, best_put, days_after, days_on}
use Rattle.roster_partial.proofs.RowCells.{length-rows_in}
use Rattle.roster_partial.proofs.one_offer.put.Goals as goal

-- a list that is the same before the end
module _ (limited : LimitedSearch) (at : RowsDay) (old : List ℕ) (put : ArePut limited at old) where
  abbrev days : Days
  days = days_after limited at old

  made_for : AreMadeFor days old at.end
  made_for = record { low = limited.low; entries = put.entries }

  module _ (now : List ℕ) (front : earlier_in now at.end ≡ earlier_in old at.end) where
    still_put : at.end ≤ length (rows_in now) → All (IsEntryOf days) (day_in now at.end) → HasCells limited now → ArePut limited at now
    still_put inside entries held = record { inside = inside; entries = subst (λ xs. All (IsEntryOf (days_on limited (suc at.day) xs)) (day_in now at.end)) (sym front) entries; held = held }

    best_now : best_put limited at now ≡ cheapest (best_of days) (day_in now at.end)
    best_now = ap (λ xs. cheapest (best_of (days_on limited (suc at.day) xs)) (day_in now at.end)) front

pub returns-then-drop_dominated : goal.returns-then-drop_dominated
returns-then-drop_dominated c =
    let limited = c.args.limited.now in
    let at = c.args.at in
    let old = c.args.rows.now in
    let now = c.drop_dominated.new.cells in
    let put = c.requires.rows in
    let dropped = c.drop_dominated.ensures in
    let days = days_after limited at old in
    let long : length (rows_in now) ≡ length (rows_in old) = length-rows_in now ∙ dropped.count ∙ sym (length-rows_in old) in
    record {
      rows = still_put limited at old put now dropped.front (omega (arith, long, put.inside)) (dropped.entries days (made_for limited at old put)) (record { long = omega (arith, put.held.long); within = omega (arith, put.held.within, dropped.count) });
      front = dropped.front;
      few = omega (arith, long);
      best = λ _. best_now limited at old put now dropped.front ∙ dropped.dominated c.if-drop_dominated.true days (made_for limited at old put) ∙ cheapest_more (best_of days) (day_in old at.end) c.args.more.now;
      full = λ e. absurd (false≢true (sym e));
    }

pub returns-then-end-limited : goal.returns-then-end-limited
returns-then-end-limited c =
    let limited = c.args.limited.now in
    let at = c.args.at in
    let old = c.args.rows.now in
    let now = c.drop_dominated.new.cells in
    let put = c.requires.rows in
    let dropped = c.drop_dominated.ensures in
    let long : length (rows_in now) ≡ length (rows_in old) = length-rows_in now ∙ dropped.count ∙ sym (length-rows_in old) in
    record {
      rows = still_put limited at old put now dropped.front (omega (arith, long, put.inside)) (dropped.entries (days_after limited at old) (made_for limited at old put)) (record { long = omega (arith, put.held.long); within = omega (arith, put.held.within, dropped.count) });
      front = dropped.front;
      few = omega (arith, long);
      best = λ e. absurd (false≢true e);
      full = λ _. omega (arith, put.held.within, dropped.count, c.if-end-limited.true, c.row_count-end.ensures);
    }

pub returns : goal.returns
returns c =
    let limited = c.args.limited.now in
    let at = c.args.at in
    let e = c.args.more.now in
    let end = at.end in
    let old = c.args.rows.now in
    let mid = c.drop_dominated.new.cells in
    let now = c.push_row.new.cells in
    let put = c.requires.rows in
    let dropped = c.drop_dominated.ensures in
    let days = days_after limited at old in
    let made = made_for limited at old put in
    let long : length (rows_in mid) ≡ length (rows_in old) = length-rows_in mid ∙ dropped.count ∙ sym (length-rows_in old) in
    let inside : end ≤ length (rows_in mid) = omega (arith, long, put.inside) in
    let more : length (rows_in now) ≡ length (rows_in mid) + 1 = length-rows_in now ∙ c.push_row.ensures.count ∙ ap (λ n. n + 1) (sym (length-rows_in mid)) in
    let is : rows_in now ≡ rows_in mid ++ e ∷ [] = c.push_row.ensures.rows in
    let pushed : day_in now end ≡ day_in mid end ++ e ∷ [] = ap (drop end) is ∙ drop-append-le end (rows_in mid) (e ∷ []) inside in
    let front : earlier_in now end ≡ earlier_in old end = ap (take end) is ∙ take-append-le end (rows_in mid) (e ∷ []) inside ∙ dropped.front in
    let entries = subst (All (IsEntryOf days)) (sym pushed) (All-push (IsEntryOf days) (day_in mid end) e (dropped.entries days made) c.requires.entry) in
    record {
      rows = still_put limited at old put now front (omega (arith, inside, more)) entries (record { long = omega (arith, put.held.long); within = omega (arith, c.push_row.ensures.count, c.if-end-limited.false, c.row_count-end.ensures) });
      front = front;
      few = omega (arith, long, more);
      best = λ _. best_now limited at old put now front ∙ ap (cheapest (best_of days)) pushed ∙ dropped.stays c.if-drop_dominated.false days made ∙ cheapest_more (best_of days) (day_in old end) e;
      full = λ e. absurd (false≢true (sym e));
    }

pub drop_dominated-requires-clause-kept : goal.drop_dominated-requires-clause-kept
drop_dominated-requires-clause-kept c = omega (arith, c.requires.rows.held.long, c.requires.rows.held.within)

pub drop_dominated-requires-clause-first : goal.drop_dominated-requires-clause-first
drop_dominated-requires-clause-first c = omega (arith, length-rows_in c.args.rows.now, c.requires.rows.inside)

pub overflow_sub-recent : goal.overflow_sub-recent
overflow_sub-recent c = omega (arith, c.row_count-end.ensures, c.drop_dominated.ensures.count, length-rows_in c.args.rows.now, c.requires.rows.inside)

-- the partial row that it extends is one of those before the end
pub push_row-requires-clause-before : goal.push_row-requires-clause-before
push_row-requires-clause-before c =
    let rows = c.requires.rows in
    omega (arith, c.requires.entry.linked.0, length-take-le c.args.at.end (rows_in c.args.rows.now) rows.inside, length-rows_in c.args.rows.now, rows.inside, rows.held.within, c.args.limited.now.few)
