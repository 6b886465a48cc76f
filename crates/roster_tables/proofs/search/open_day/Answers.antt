use Rattle.std.proofs.Common.{◌≡◌, ◌∙◌, ◌*◌, ◌≤◌, ap, arith, refl, subst, sym}
use Rattle.std.proofs.Math.Path.{transport}
use Rattle.std.proofs.lemmas.Nat.{mul-le}
use Rattle.std.specs.List.{All}
use Rattle.roster_offers.specs.Lists.{IsOfferAt, offers_on}
use Rattle.roster_offers.proofs.ListLaws.{offers_read}
use Rattle.roster_tables.specs.Days.{boxes_next}
use Rattle.roster_tables.specs.Tables.{LeadsOn}
use Rattle.roster_tables.proofs.SearchLaws.{boxes_read}
use Rattle.roster_tables.proofs.search.open_day.Goals as goal
use Rattle.roster_tables.proofs.search.open_day.Goals.{After-as_slice-offers}

-- the day's offers, as they are read from the table
offers_here : (c : After-as_slice-offers) → c.as_slice-offers.result.now ≡ offers_on c.args.days.now.search.offers.now c.args.day
offers_here c =
    let search = c.args.days.now.search in
    c.as_slice-offers.ensures.value ∙ offers_read search.case.now search.nurse search.offers.now search.for_nurse c.args.day c.requires.day c.index-table-day.result c.index-table-day.result c.index-table-day.is

pub overflow_mul-first : goal.overflow_mul-first
overflow_mul-first c =
    let day : c.args.day ≤ 364 = omega (arith, c.requires.day, c.keeps_limits.ensures.weeks) in
    omega (arith, mul-le c.args.day c.product.result 364 1048576 day (omega (arith, c.product.ensures.within)))

pub invariant_of-result : goal.invariant_of-result
invariant_of-result c =
    let days = c.args.days.now in
    let d = c.args.day in
    let back = sym (offers_here (goal.at.invariant_of-result c).After-as_slice-offers) in
    let boxes = sym (boxes_read days.boxes.now d _ (omega (arith, c.requires.day, days.are_reachable.long))) in
    record {
      ready = record {
        day = c.requires.day;
        few = omega (arith, c.as_slice-offers.ensures.fits);
        of_case = subst (All (IsOfferAt days.search.case.now days.search.scale)) back (days.search.for_nurse.each d c.requires.day).of_case;
        leads = transport (λ i. All (LeadsOn days.search.case.now days.search.nurse d (boxes i) (boxes_next days d)) (back i)) (days.are_reachable.lead d c.requires.day);
        later = c.requires.later;
        capacity = c.requires.capacity;
      };
    }

pub returns : goal.returns
returns c = record {
  case_is = refl;
  nurse_is = refl;
  scale_is = refl;
  ranges_are = refl;
  table_is = refl;
  day = refl;
  boxes = boxes_read c.args.days.now.boxes.now c.args.day _ (omega (arith, c.requires.day, c.args.days.now.are_reachable.long));
  offers = offers_here (goal.at.returns c).After-as_slice-offers;
  later = refl;
  first = ap (λ n. c.args.day * n) c.product.ensures.product;
}
