-- The least that a nurse costs in a node is what the search finds.
use Rattle.std.proofs.Common.{◌≡◌, ◌+◌, ◌*◌, ◌<◌, ◌≤◌, ℕ, Bool, true, false, arith, List, [], IsSome, Some, if◌then◌else◌}
use Rattle.arrayvec.specs.ArrayVec.{ArrayVec}
use Rattle.roster_instance.specs.declared.choice.Choice.{Choice}
use Rattle.roster_instance.specs.Limits.{most_keep}
use Rattle.roster_instance.specs.Meaning.{Meaning, nurse_count}
use Rattle.roster_instance.specs.Rosters.{Row, Rows}
use Rattle.roster_rules.specs.Prefix.{due}
use Rattle.roster_offers.specs.declared.offer.Offer.{Offer}
use Rattle.roster_offers.specs.Lists.{AreOffersAt, IsFound, best_over_at, most_price_at, offers_on}
use Rattle.roster_slots.specs.Slots.{SlotPrices}
use Rattle.roster_prices.specs.declared.decisions.Decision.{Decision}
use Rattle.roster_prices.specs.Days.{ArePricedOffers}
use Rattle.roster_prices.specs.Nodes.{against_price, is_against, price_in, row_bound_in}
use Rattle.roster_prices.specs.LowerBounds.{HasRow, HaveRows, least_row, price_by}
use Rattle.roster_prices.proofs.PricedRows.{can_search_priced, cost_is, row_is, some_priced}
use Rattle.roster_prices.proofs.RowBounds.{named_row, requests_within}

module _ (c : Meaning) (scale : ℕ) (w : SlotPrices) (node : List Decision) where
  pub low_in : (n : ℕ) → c.keep ≤ most_keep → (d : ℕ) (x : Choice) → price_in c scale w node n d x ≤ most_price_at scale
  low_in n few d x = go (is_against node n d x)
    where
      go : (b : Bool) → (if b then against_price scale + price_by c scale w n d x else price_by c scale w n d x) ≤ most_price_at scale
      go true = omega (arith, requests_within c scale n d x few)
      go false = omega (arith, requests_within c scale n d x few)

  module _ (from : ℕ) (given : Rows) (n : ℕ) (rows : ∥ HaveRows c from given ∥₁) (inside : n < nurse_count c) (table : List (ArrayVec Offer)) (are : ArePricedOffers c from given (price_in c scale w node n) n table) where
    own : HasRow c from given n
    own = named_row c from given rows n inside

    pub can_search_in : c.keep ≤ most_keep → AreOffersAt c n scale table
    can_search_in = can_search_priced c from given scale (price_in c scale w node n) n (low_in n) own table are

    pub some_in : IsSome (best_over_at c n scale (offers_on table))
    some_in = some_priced c from given scale (price_in c scale w node n) n (low_in n) own table are

    module _ (cost : ℕ) (row : Row) (found : IsFound (best_over_at c n scale (offers_on table)) cost row) where
      pub bound_in_is : scale * due c n [] + cost ≡ row_bound_in c from given scale w node n
      bound_in_is = cost_is c from given scale (price_in c scale w node n) n (low_in n) own table are cost row found

      pub row_in_is : least_row c from given scale (price_in c scale w node n) n ≡ Some row
      row_in_is = row_is c from given scale (price_in c scale w node n) n (low_in n) own table are cost row found
