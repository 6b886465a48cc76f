use Rattle.std.proofs.Common.{◌≡◌, ◌∙◌, ◌+◌, ◌-◌, ◌<◌, ap, arith, length, subst, sym}
use Rattle.std.specs.Prelude.{All}
use Rattle.roster_instance.specs.Choices.{shift_of}
use Rattle.roster_instance.specs.Limits.{most_shifts}
use Rattle.roster_offers.specs.Lists.{offers_on}
use Rattle.roster_who.specs.Ways.{goes_on, last_at, last_index}
use Rattle.roster_who.proofs.TakerLemmas.{read_at}
use Rattle.roster_who.proofs.WayLemmas.{ways_more}
use Rattle.roster_who.proofs.ways.leads_through.Goals as goal
use Rattle.roster_who.proofs.ways.leads_through.Goals.{After-as_slice}

-- the day's offers
here : (c : After-as_slice) → c.as_slice.result.now ≡ offers_on c.args.offers.now (length c.args.offers.now - 1 - c.loop-after.after)
here c = c.as_slice.ensures.value ∙ read_at c.args.offers.now (length c.args.offers.now - 1 - c.loop-after.after) c.index-offers-day.result (omega (arith, c.loop-after-test.true)) c.index-offers-day.is

pub ways_before-ways-requires : goal.ways_before-ways-requires
ways_before-ways-requires c =
    subst (All (λ offer. last_index (shift_of offer.choice) < 1 + most_shifts)) (sym (here (goal.at.ways_before-ways-requires c).After-as_slice))
    (c.requires.places (length c.args.offers.now - 1 - c.loop-after.after) (omega (arith, c.loop-after-test.true, c.requires.days)))

pub loop-after-preserved : goal.loop-after-preserved
loop-after-preserved c =
    let k = c.args.case.now in
    let offers = c.args.offers.now in
    let day = length c.args.offers.now - 1 - c.loop-after.after in
    let at = goal.at.loop-after-preserved c in
    record {
      gathered = ways_more k (offers_on offers) (length offers) c.loop-after.after day c.loop-after.ways c.ways_before-ways.result (omega (arith, c.loop-after-test.true)) (omega (arith)) c.loop-after.invariant.gathered
          (c.requires.places day (omega (arith, c.loop-after-test.true, c.requires.days)))
          (λ index inside. c.ways_before-ways.ensures index inside ∙ ap (λ xs. goes_on k xs c.loop-after.ways (last_at index)) (here at.After-as_slice));
    }
