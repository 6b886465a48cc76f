use Rattle.std.proofs.Common.{◌≡◌, ◌∙◌, ◌+◌, ◌-◌, ◌<◌, ◌≤◌, ℕ, IfSome, List, Option, Some, ap, arith, drop, length, subst, sym, take}
use Rattle.std.proofs.lemmas.List.{length-drop, take_all}
use Rattle.roster_offers.specs.declared.offer.Offer.{Offer}
use Rattle.roster_offers.specs.Cheapest.{Priced, cheaper, cheapest}
use Rattle.roster_offers.proofs.Cheapest.{cheaper_none}
use Rattle.roster_partial.specs.declared.limited.LimitedSearch.{LimitedSearch}
use Rattle.roster_partial.specs.declared.rows.Entry.{Entry}
use Rattle.roster_partial.specs.Rows.{best_of, count_in, day_in, rows_in}
use Rattle.roster_partial.specs.Searches.{best_of_last, days_in, days_on, offers_of_last}
use Rattle.roster_partial.proofs.AddLaws.{cheapest_of_all, entry_of_day, next_entry}
use Rattle.roster_partial.proofs.DaysLaws.{cheaper_more, dearer_more, first_more, listed}
use Rattle.roster_partial.proofs.RowCells.{rows_counted}
use Rattle.roster_partial.proofs.all_days.least_at_end.Goals as goal
use Rattle.roster_partial.proofs.all_days.least_at_end.Goals.{In-loop-index, in-Some-least, in_default-least, in_default-least-2}

-- the best row of an entry at the end
abbrev best : LimitedSearch → List ℕ → Entry → Priced (List Offer)
best limited cells = best_of (days_on limited (days_in limited.completion_bounds.search) (rows_in cells))

below : (c : In-loop-index) → c.loop-index.index < length (rows_in c.args.rows.now)
below c = omega (arith, c.loop-index-test.true, rows_counted c.args.rows.now c.row_count-end.result c.row_count-end.ensures)

-- with one entry more
one_more : (c : In-loop-index) (least : Option (ℕ × ℕ)) → listed (offers_of_last c.args.limited.now.completion_bounds.search c.args.rows.now) least ≡ cheaper (listed (offers_of_last c.args.limited.now.completion_bounds.search c.args.rows.now) c.loop-index.least) (best_of_last c.args.limited.now c.args.rows.now c.loop-index.index)
    → cheapest (best c.args.limited.now c.args.rows.now) (take (c.loop-index.index + 1 - c.args.first) (day_in c.args.rows.now c.args.first)) ≡ listed (offers_of_last c.args.limited.now.completion_bounds.search c.args.rows.now) least
one_more c least is = sym (next_entry (best c.args.limited.now c.args.rows.now) (rows_in c.args.rows.now) c.args.first c.loop-index.index _ _ (omega (arith, c.loop-index.auto.index)) (below c) (sym c.loop-index.invariant.best) is)

pub cost_at_end-requires-clause-inside : goal.cost_at_end-requires-clause-inside
cost_at_end-requires-clause-inside c = omega (arith, c.loop-index-test.true, c.row_count-end.ensures)

pub cost_at_end-requires-clause-fits : goal.cost_at_end-requires-clause-fits
cost_at_end-requires-clause-fits c =
    let limited = c.args.limited.now in
    (entry_of_day limited (days_in limited.completion_bounds.search) c.args.first (rows_in c.args.rows.now) c.requires.rows.inside c.loop-index.index (omega (arith, c.loop-index.auto.index)) (below c) c.requires.rows.entries).fits

pub loop-index-init : goal.loop-index-init
loop-index-init c =
    let none : c.args.first - c.args.first ≡ 0 = omega arith in
    record { best = ap (λ n. cheapest (best c.args.limited.now c.args.rows.now) (take n (day_in c.args.rows.now c.args.first))) none; inside = tt }

pub loop-index-preserved-in_default : goal.loop-index-preserved-in_default
loop-index-preserved-in_default c =
    let so_far = listed (offers_of_last c.args.limited.now.completion_bounds.search c.args.rows.now) c.loop-index.least in
    record {
      best = one_more (goal.at.loop-index-preserved-in_default c).In-loop-index c.loop-index.least (sym (ap (cheaper so_far) c.in_default.ensures.best ∙ cheaper_none so_far));
      inside = c.loop-index.invariant.inside;
    }

pub loop-index-preserved : goal.loop-index-preserved
loop-index-preserved c =
    let limited = c.args.limited.now in
    let cells = c.args.rows.now in
    let row = offers_of_last limited.completion_bounds.search cells in
    let least = c.loop-index.least in
    let index = c.loop-index.index in
    let cost = c.in-Some.cost in
    let this = c.in-Some.ensures.best in
    let more = one_more (goal.at.loop-index-preserved c).In-loop-index in
    let inside : Option (ℕ × ℕ) → Type 0 = λ o. IfSome o (λ x. (c.args.first ≤ x.1) × (x.1 < count_in cells)) in
    let here : (c.args.first ≤ index) × (index < count_in cells) = (omega (arith, c.loop-index.auto.index), omega (arith, c.loop-index-test.true, c.row_count-end.ensures)) in
    elim c.match-least.branch [
      | in-Some-least w ↦ record {
        best = more least (dearer_more row cost index (best_of_last limited cells index) this least _ w.in-Some-least.is w.if-low-cost.true) ∙ ap (listed row) (sym w.least-is);
        inside = subst inside (sym w.least-is) c.loop-index.invariant.inside;
      }
      | in_default-least-2 w ↦ record {
        best = more (Some (cost, index)) (cheaper_more row cost index (best_of_last limited cells index) this least _ w.in-Some-least.is w.if-low-cost.false) ∙ ap (listed row) (sym w.least-is);
        inside = subst inside (sym w.least-is) here;
      }
      | in_default-least w ↦ record {
        best = more (Some (cost, index)) (first_more row cost index (best_of_last limited cells index) this least w.in_default-least.is) ∙ ap (listed row) (sym w.least-is);
        inside = subst inside (sym w.least-is) here;
      }
    ]

pub returns-clause-best : goal.returns-clause-best
returns-clause-best c =
    let limited = c.args.limited.now in
    let rows = rows_in c.args.rows.now in
    let first = c.args.first in
    let last = drop first rows in
    cheapest_of_all limited (days_in limited.completion_bounds.search) first rows c.requires.rows.inside last c.requires.rows.entries
    ∙ ap (cheapest (best limited c.args.rows.now)) (sym (take_all (c.loop-index.index - first) last (omega (arith, c.loop-index-test.false, rows_counted c.args.rows.now c.row_count-end.result c.row_count-end.ensures, length-drop first rows))))
    ∙ c.loop-index.invariant.best
