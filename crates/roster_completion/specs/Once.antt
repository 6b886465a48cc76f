-- Facts of which there is at most one proof, as a ghost field requires.
use Rattle.std.specs.Prelude.{◌≡◌, ℕ, All, List, true}
use Rattle.std.specs.Coded.{le_prop}
use denote.Struct.Props as logic
use Rattle.roster_instance.specs.declared.choice.Choice.{Choice}
use Rattle.roster_instance.specs.Meaning.{Meaning}
use Rattle.roster_instance.specs.Rosters.{is_choice_of}
use Rattle.roster_offers.specs.declared.offer.Offer.{Offer}
use Rattle.roster_offers.specs.Lists.{IsOfferAt}
use Rattle.roster_completion.specs.declared.rates.Rates.{Rates}
use Rattle.roster_completion.specs.CompletionBounds.{AreSmallRates}

-- that rates are small
pub AreSmallRates-prop : (scale : ℕ) (rates : Rates) → IsProp (AreSmallRates scale rates)
AreSmallRates-prop scale rates a b =
    λ i. record { day = le_prop a.day b.day i; weekend = le_prop a.weekend b.weekend i }

-- that a choice is a case's
choice-prop : (c : Meaning) (choice : Choice) → IsProp (is_choice_of c choice ≡ true)
choice-prop c choice = Prim.hlevel logic.props

-- that offers are a case's
pub OfCase-prop : (c : Meaning) (scale : ℕ) (xs : List Offer) → IsProp (All (IsOfferAt c scale) xs)
OfCase-prop c scale xs a b =
    λ i k x at. record {
      choice = choice-prop c _ (a k x at).choice (b k x at).choice i;
      price = le_prop (a k x at).price (b k x at).price i;
    }
