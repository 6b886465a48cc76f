-- The least that a nurse costs by dual prices is what the search finds.
use Rattle.std.proofs.Common.{◌≡◌, ◌+◌, ◌*◌, ◌<◌, ◌≤◌, ℕ, true, arith, refl, subst, sym, List, [], ◌∷◌, Contains, IsSome, Some}
use Rattle.std.proofs.Math.Logic.{∥∥₁_elim}
use Rattle.arrayvec.specs.ArrayVec.{ArrayVec}
use Rattle.roster_instance.specs.declared.choice.Choice.{Choice}
use Rattle.roster_instance.specs.Choices.{all_choices, all_rows, shift_of}
use Rattle.roster_instance.specs.Limits.{most_keep}
use Rattle.roster_instance.specs.Meaning.{Meaning, day_count, nurse_count}
use Rattle.roster_instance.specs.Rosters.{Row, Rows, fits_case, row_of}
use Rattle.roster_instance.proofs.RosterFacts.{row_fits}
use Rattle.roster_rules.specs.HardRules.{keeps_hard}
use Rattle.roster_rules.specs.Penalties.{request_cost_on}
use Rattle.roster_rules.specs.Prefix.{due}
use Rattle.roster_rules.specs.Weights.{most_request}
use Rattle.roster_rules.proofs.Bounds.{request_on-within}
use Rattle.std.proofs.lemmas.Nat.{mul-le}
use Rattle.roster_laws.proofs.Allowed.{kept_is_member, kept_passes, member_is_kept}
use Rattle.roster_laws.proofs.AllRows.{member_is_row, row_is_member}
use Rattle.roster_laws.proofs.Frozen.{stays_self}
use Rattle.roster_offers.specs.declared.offer.Offer.{Offer}
use Rattle.roster_offers.specs.Lists.{AreOffersAt, IsFound, best_over_at, most_price_at, offers_on}
use Rattle.roster_prices.specs.Days.{AreDualPricedOffers}
use Rattle.roster_slots.specs.Slots.{SlotPrices}
use Rattle.roster_prices.specs.LowerBounds.{HasRow, HaveRows, can_work, row_by_dual_prices, own_rows, price_by, row_bound}
use Rattle.roster_prices.proofs.OwnRows.{worked}
use Rattle.roster_prices.proofs.PricedRows.{can_search_priced, cost_is, row_is, some_priced}

-- if each nurse has a row, whichever it is, one can be named: the first of her rows
pub named_row : (c : Meaning) (from : ℕ) (given : Rows) → ∥ HaveRows c from given ∥₁ → (n : ℕ) → n < nurse_count c → HasRow c from given n
named_row c from given rows n inside = go (own_rows c from given n) refl
  where
    past_none : (slot : ℕ) → slot < 0 → ⊥
    past_none slot below = omega (arith, below)

    none_had : own_rows c from given n ≡ [] → HaveRows c from given → ⊥
    none_had none have =
        let own = have n inside in
        let member : Contains [] own.row = subst (λ (those : List Row). Contains those own.row) none (member_is_kept (can_work c from given n) (all_rows (all_choices c) (day_count c)) own.row (row_is_member c own.row own.fits) own.works) in
        past_none member.0 member.1

    go : (those : List Row) → own_rows c from given n ≡ those → HasRow c from given n
    go [] none = absurd (∥∥₁_elim rows (λ a b. absurd a) (none_had none))
    go (row ∷ others) is =
        let first : Contains (row ∷ others) row = (0, omega arith, refl) in
        let member : Contains (own_rows c from given n) row = subst (λ (those : List Row). Contains those row) (sym is) first in
        record {
          row = row;
          fits = member_is_row c row (kept_is_member (can_work c from given n) (all_rows (all_choices c) (day_count c)) row member);
          works = kept_passes (can_work c from given n) (all_rows (all_choices c) (day_count c)) row member;
        }

pub requests_within : (c : Meaning) (scale n d : ℕ) (x : Choice) → c.keep ≤ most_keep → scale * request_cost_on c n d (shift_of x) ≤ scale * most_request
requests_within c scale n d x few = mul-le scale (request_cost_on c n d (shift_of x)) scale most_request (omega arith) (request_on-within c n d (shift_of x) few)

pub price_within : (c : Meaning) (scale : ℕ) (w : SlotPrices) (n : ℕ) → c.keep ≤ most_keep → (d : ℕ) (x : Choice) → price_by c scale w n d x ≤ most_price_at scale
price_within c scale w n few d x = omega (arith, requests_within c scale n d x few)

module _ (c : Meaning) (from : ℕ) (given : Rows) (scale : ℕ) (w : SlotPrices) (n : ℕ) (rows : ∥ HaveRows c from given ∥₁) (inside : n < nurse_count c) (table : List (ArrayVec Offer)) (are : AreDualPricedOffers c from given scale w n table) where
  own : HasRow c from given n
  own = named_row c from given rows n inside

  pub can_search : c.keep ≤ most_keep → AreOffersAt c n scale table
  can_search = can_search_priced c from given scale (price_by c scale w n) n (price_within c scale w n) own table are

  pub some_found : IsSome (best_over_at c n scale (offers_on table))
  some_found = some_priced c from given scale (price_by c scale w n) n (price_within c scale w n) own table are

  module _ (cost : ℕ) (row : Row) (found : IsFound (best_over_at c n scale (offers_on table)) cost row) where
    pub bound_is : scale * due c n [] + cost ≡ row_bound c from given scale w n
    bound_is = cost_is c from given scale (price_by c scale w n) n (price_within c scale w n) own table are cost row found

    pub row_by_dual_prices_is : row_by_dual_prices c from given scale w n ≡ Some row
    row_by_dual_prices_is = row_is c from given scale (price_by c scale w n) n (price_within c scale w n) own table are cost row found

-- each nurse can work her present row in a roster that keeps the hard rules
pub have_rows : (c : Meaning) (from : ℕ) (given : Rows) → fits_case c given ≡ true → keeps_hard c given ≡ true → HaveRows c from given
have_rows c from given fits keeps n inside = record {
  row = row_of given n;
  fits = row_fits c given n fits inside;
  works = worked c from given given fits keeps (stays_self c from given) n inside;
}
