use Rattle.std.proofs.Common.{◌∙◌, arith}
use Rattle.std.proofs.lemmas.List.{length-set}
use Rattle.roster_instance.specs.declared.choice.Choice.TheVariants.{Off}
use Rattle.roster_offers.specs.declared.offer.Offer.{Offer}
use Rattle.roster_row.proofs.RecallLaws.{price_put}
use Rattle.roster_row.proofs.last.prices_by_shift.Goals as goal

-- what is read past the end of the list
abbrev outside : Offer
outside = record { choice = Off; price = 0 }

pub loop-offer-preserved : goal.loop-offer-preserved
loop-offer-preserved c =
    let old = c.loop-offer.invariant in
    record {
      length = length-set c.loop-offer.prices c.price_index.result _ ∙ old.length;
      prices = price_put c.args.offers.now c.loop-offer.prices c.loop-offer.offer-index c.price_index.result outside (omega arith) (omega (arith, old.length, c.price_index.ensures, c.requires.indices c.loop-offer.offer-index outside (omega arith))) c.price_index.ensures old.prices;
    }
