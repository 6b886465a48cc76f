use Rattle.std.proofs.Common.{◌≡◌, ◌∙◌, ◌++◌, ◌+◌, ◌<◌, ◌≤◌, ℕ, List, [], ◌∷◌, ap, arith, drop, length, refl, slice_index_or, slice_set, subst, sym}
use Rattle.std.proofs.lemmas.List.{drop-set-add, get_or-drop, get_or_default, length-drop}
use Rattle.std.proofs.lemmas.List.Elements.{All-set}
use Rattle.std.specs.List.{All}
use Rattle.roster_offers.specs.Cheapest.{cheapest}
use Rattle.roster_offers.specs.Lists.{no_row}
use Rattle.roster_partial.specs.declared.rows.Entry.{Entry}
use Rattle.roster_partial.specs.Rows.{AreMadeFor, Days, HaveSameBest, IsEntryOf, best_of, day_in, entry_numbered, rows_in}
use Rattle.roster_partial.proofs.RowCells.{length-rows_in}
use Rattle.roster_partial.proofs.RowLaws.{Dominates, pruned_is_none, marked_entry, new_dominated, old_dominated, same_dominates}
use Rattle.roster_partial.proofs.rows.drop_dominated.Goals as goal

-- the entry with which the new one is compared, among those of the day
module _ (cells : List ℕ) (first index : ℕ) (more : Entry) (inside : first + index < length (rows_in cells)) (days : Days) (made : AreMadeFor days cells first) where
  abbrev this : Entry
  this = entry_numbered (rows_in cells) (first + index)

  abbrev dropped : Entry
  dropped = record this { cost = no_row }

  within : index < length (day_in cells first)
  within = omega (arith, inside, length-drop first (rows_in cells))

  there : (d : Entry) → slice_index_or (day_in cells first) index d ≡ this
  there d = get_or-drop first (rows_in cells) index d ∙ get_or_default (rows_in cells) (first + index) d _ inside

  new_is_dominated : this.state ≡ more.state → this.cost ≤ more.cost → HaveSameBest days (day_in cells first) (day_in cells first ++ more ∷ [])
  new_is_dominated same low =
      new_dominated (best_of days) (day_in cells first) index this more within (subst (λ e. Dominates 0 (best_of days e) (best_of days more)) (sym (there this)) (same_dominates days 0 this more same (omega (arith, low))))

  module _ (now : List ℕ) (marked : rows_in now ≡ slice_set (rows_in cells) (first + index) dropped) where
    day_now : day_in now first ≡ slice_set (day_in cells first) index dropped
    day_now = ap (drop first) marked ∙ drop-set-add first (rows_in cells) index dropped

    old_is_dominated : this.state ≡ more.state → more.cost < this.cost → HaveSameBest days (day_in now first ++ more ∷ []) (day_in cells first ++ more ∷ [])
    old_is_dominated same low =
        ap (λ xs. cheapest (best_of days) (xs ++ more ∷ [])) day_now
        ∙ old_dominated (best_of days) (day_in cells first) index this more dropped within (pruned_is_none days dropped made.low) (subst (λ e. Dominates 1 (best_of days more) (best_of days e)) (sym (there this)) (same_dominates days 1 more this (sym same) (omega (arith, low))))

    still : All (IsEntryOf days) (day_in now first)
    still = subst (All (IsEntryOf days)) (sym day_now) (All-set (IsEntryOf days) (day_in cells first) index dropped (marked_entry days this dropped (subst (IsEntryOf days) (there this) (made.entries index this within)) refl refl refl) made.entries)

pub returns-then-cost_at-more-clause-dominated : goal.returns-then-cost_at-more-clause-dominated
returns-then-cost_at-more-clause-dominated c = λ _ days made.
    let inside : c.args.first + c.args.index < length (rows_in c.args.cells.now) = omega (arith, c.if-index-row_count.false, c.row_count.ensures, length-rows_in c.args.cells.now) in
    new_is_dominated c.args.cells.now c.args.first c.args.index c.args.more.now inside days made (c.leads_to.ensures c.if-not-leads_to.false) (omega (arith, c.if-cost_at-more.true, c.cost_at.ensures))

pub returns-clause-stays : goal.returns-clause-stays
returns-clause-stays c = λ _ days made.
    let inside : c.args.first + c.args.index < length (rows_in c.args.cells.now) = omega (arith, c.if-index-row_count.false, c.row_count.ensures, length-rows_in c.args.cells.now) in
    old_is_dominated c.args.cells.now c.args.first c.args.index c.args.more.now inside days made c.mark_dominated.new.cells c.mark_dominated.ensures.rows (c.leads_to.ensures c.if-not-leads_to.false) (omega (arith, c.if-cost_at-more.false, c.cost_at.ensures))

pub returns-clause-entries : goal.returns-clause-entries
returns-clause-entries c = λ days made.
    let inside : c.args.first + c.args.index < length (rows_in c.args.cells.now) = omega (arith, c.if-index-row_count.false, c.row_count.ensures, length-rows_in c.args.cells.now) in
    still c.args.cells.now c.args.first c.args.index c.args.more.now inside days made c.mark_dominated.new.cells c.mark_dominated.ensures.rows
