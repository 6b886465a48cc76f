use Rattle.std.proofs.Common.{◌≡◌, ◌∙◌, ◌+◌, ◌<◌, ◌≤◌, ◌==◌, ℕ, arith, length, nat_lt, subst, sym, true}
use Rattle.std.specs.Prelude.{All}
use Rattle.std.specs.List.{list_all}
use Rattle.std.proofs.lemmas.Bool.{and_parts, eqb-true, ltb-true}
use Rattle.std.proofs.lemmas.List.Elements.{All-get_or}
use Rattle.std.proofs.lemmas.List.Sums.{AllPass-from_list_all}
use Rattle.roster_instance.specs.declared.choice.Choice.{Choice}
use Rattle.roster_instance.specs.declared.choice.Choice.TheVariants.{Off, Work}
use Rattle.roster_instance.specs.Choices.{shift_of}
use Rattle.roster_instance.specs.Limits.{most_shifts}
use Rattle.roster_instance.specs.Meaning.{Meaning, day_count, shift_count, skill_count}
use Rattle.roster_instance.specs.Rosters.{Row, choice_on, is_choice_of, is_row_of}
use Rattle.roster_offers.specs.Lists.{offers_on}
use Rattle.roster_offers.proofs.ListLaws.{offers_read}
use Rattle.roster_row.specs.Recalled.{price_index}
use Rattle.roster_row.proofs.RecallLaws.{indices_fit}
use Rattle.roster_slots.specs.Tables.{slot_prices}
use Rattle.roster_prices.proofs.RowBounds.{can_search}
use Rattle.roster_polish.proofs.visit.is_left_out.Goals as goal

-- a row's choice is one of the case's, and its shift has a price
choice_of : (c : Meaning) (row : Row) (d : ℕ) → is_row_of c row ≡ true → d < day_count c → is_choice_of c (choice_on row d) ≡ true
choice_of c row d is within =
    let parts = and_parts (length row == day_count c) (list_all (is_choice_of c) row) is in
    All-get_or (λ x. is_choice_of c x ≡ true) row d Off (omega (arith, within, eqb-true (length row) (day_count c) parts.0)) (AllPass-from_list_all (is_choice_of c) row parts.1)

choice_index : (c : Meaning) → shift_count c ≤ most_shifts → (x : Choice) → is_choice_of c x ≡ true → price_index (shift_of x) < 1 + most_shifts
choice_index c few Off is = omega arith
choice_index c few (Work s k) is = omega (arith, few, ltb-true s.0 (shift_count c) (and_parts (nat_lt s.0 (shift_count c)) (nat_lt k.0 (skill_count c)) is).0)

pub most_gain-gain-requires-clause-indices : goal.most_gain-gain-requires-clause-indices
most_gain-gain-requires-clause-indices c =
    let t = c.args.terms.now in
    let day = c.loop-day.day in
    let offers = c.args.offers.now in
    let are = can_search t.case.now t.from t.given.now t.scale (slot_prices t.scale t.dual_prices.now) c.args.nurse t.rows c.requires.nurse offers c.requires.offers c.keeps_limits.ensures.small.keep in
    let inside : day < day_count t.case.now = omega (arith, c.loop-day-test.true, c.days-day-end.ensures.count) in
    let here : c.as_slice-here.result.now ≡ offers_on offers day = c.as_slice-here.ensures.value ∙ offers_read t.case.now c.args.nurse offers are day inside c.index-offers-day.result c.index-offers-day.result c.index-offers-day.is in
    subst (All (λ offer. price_index (shift_of offer.choice) < 1 + most_shifts)) (sym here) (indices_fit t.case.now c.args.nurse (offers_on offers day) c.keeps_limits.ensures.shifts (are.each day inside))
