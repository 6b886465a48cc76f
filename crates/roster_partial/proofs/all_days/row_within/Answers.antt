use Rattle.std.proofs.Common.{◌≡◌, ◌∙◌, ◌++◌, ◌<◌, List, [], ◌∷◌, ap, arith, refl, subst, sym, take, ℕ}
use Rattle.std.specs.List.{All}
use Rattle.std.proofs.lemmas.List.Elements.{All-push}
use Rattle.roster_offers.specs.Cheapest.{cheapest}
use Rattle.roster_offers.specs.Lists.{IsFound, no_row}
use Rattle.roster_offers.proofs.Cheapest.{cheaper_none}
use Rattle.roster_partial.specs.declared.all_days.Within.TheVariants.{Found}
use Rattle.roster_partial.specs.declared.rows.Entry.{Entry}
use Rattle.roster_partial.specs.Rows.{IsEntryOf, best_of, count_in, rows_in, within}
use Rattle.roster_partial.specs.Searches.{best_in, best_of_day, days_in, days_on, offers_of_last}
use Rattle.roster_partial.proofs.AddLaws.{entry_of_day}
use Rattle.roster_partial.proofs.RowCells.{rows_counted}
use Rattle.roster_partial.proofs.RowLaws.{is_within}
use Rattle.roster_partial.proofs.all_days.row_within.Goals as goal
use Rattle.roster_partial.proofs.all_days.row_within.Goals.{In-Some}

-- the list with the partial row of no days
first_row : (none one : List ℕ) (e : Entry) → rows_in none ≡ [] → rows_in one ≡ rows_in none ++ e ∷ [] → rows_in one ≡ e ∷ []
first_row none one e empty put = put ∙ ap (λ xs. xs ++ e ∷ []) empty

pub add_days-requires-clause-rows : goal.add_days-requires-clause-rows
add_days-requires-clause-rows c =
    let is_entry = IsEntryOf (days_on c.args.limited.now 0 []) in
    record {
      inside = omega arith;
      entries = subst (All is_entry) (sym (first_row c.clear_rows.new.cells c.push_row.new.cells c.start_entry.result c.clear_rows.ensures.rows c.push_row.ensures.rows)) (All-push is_entry [] c.start_entry.result (λ k d below. absurd (omega (arith, below))) c.start_entry.ensures.entry);
      held = record { long = omega (arith, c.requires.cells); within = omega (arith, c.push_row.ensures.count, c.clear_rows.ensures.count, c.if-limited-eq0.false) };
    }

pub read_row-requires-clause-linked : goal.read_row-requires-clause-linked
read_row-requires-clause-linked c =
    let limited = c.args.limited.now in
    let rows = c.add_days.new.rows in
    let index = c.in-Some-least_at_end.ensures.index in
    (entry_of_day limited (days_in limited.completion_bounds.search) c.in-Some.first (rows_in rows) c.in-Some.ensures.rows.inside c.in-Some-least_at_end.index index.0 (omega (arith, index.1, rows_counted rows (count_in rows) refl)) c.in-Some.ensures.rows.entries).linked

pub read_row-requires-clause-inside : goal.read_row-requires-clause-inside
read_row-requires-clause-inside c = c.in-Some-least_at_end.ensures.index.1

pub returns-in_default : goal.returns-in_default
returns-in_default c = record {
  best = λ cost e. absurd cc;
  below = λ cost e. absurd cc;
  full = λ _. c.in_default.ensures.full refl;
  dearer = λ e. absurd cc;
  each_day = λ cost e. absurd cc;
  counted = c.add_days.ensures.counted;
  brief = c.add_days.ensures.brief;
  length = refl;
}

-- the best of the rows at the end is the best of all within the limit
all_rows : (c : In-Some) → best_of_day c.args.limited.now (days_in c.args.limited.now.completion_bounds.search) c.in-Some.first c.add_days.new.rows ≡ within c.args.limited.now.limit (best_in c.args.limited.now.completion_bounds.search)
all_rows c =
    let days = days_on c.args.limited.now 0 [] in
    c.in-Some.ensures.best ∙ ap (cheapest (best_of days)) (first_row c.clear_rows.new.cells c.push_row.new.cells c.start_entry.result c.clear_rows.ensures.rows c.push_row.ensures.rows) ∙ cheaper_none (best_of days c.start_entry.result) ∙ c.start_entry.ensures.best

pub returns-in_default-least_at_end : goal.returns-in_default-least_at_end
returns-in_default-least_at_end c = record {
  best = λ cost e. absurd cc;
  below = λ cost e. absurd cc;
  full = λ e. absurd cc;
  dearer = λ _. sym (all_rows (goal.at.returns-in_default-least_at_end c).In-Some) ∙ c.in_default-least_at_end.ensures.best;
  each_day = λ cost e. absurd cc;
  counted = c.add_days.ensures.counted;
  brief = c.add_days.ensures.brief;
  length = refl;
}

-- what is found has one cost
same_cost : {x y : ℕ} → Found x ≡ Found y → x ≡ y
same_cost e = cc

pub returns : goal.returns
returns c =
    let limited = c.args.limited.now in
    let search = limited.completion_bounds.search in
    let rows = c.add_days.new.rows in
    let low = c.in-Some-least_at_end.cost in
    let index = c.in-Some-least_at_end.index in
    let offers = offers_of_last search rows index in
    let there = c.in-Some-least_at_end.ensures.index in
    let found = is_within limited.limit (best_in search) (low, offers) (sym (all_rows (goal.at.returns c).In-Some) ∙ c.in-Some-least_at_end.ensures.best) in
    record {
      best = λ cost is. subst (λ x. IsFound (best_in search) x (take (days_in search) c.read_row.new.row)) (same_cost is) (record { offers = offers; is = found.0; row_is = c.read_row.ensures.row });
      below = λ cost is. subst (λ x. x < no_row) (same_cost is) (omega (arith, found.1, limited.low));
      full = λ e. absurd cc;
      dearer = λ e. absurd cc;
      each_day = λ cost is. c.in-Some.ensures.each_day (omega (arith, there.0, there.1, rows_counted rows (count_in rows) refl));
      counted = c.add_days.ensures.counted;
      brief = c.add_days.ensures.brief;
      length = c.read_row.ensures.length;
    }
