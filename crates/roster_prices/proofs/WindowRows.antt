-- Within a window too the search over a nurse's offers finds a row: the given one is offered.
use Rattle.std.proofs.Common.{◌≡◌, ◌<◌, ◌≤◌, ◌&&◌, ℕ, Bool, true, not, arith, subst, sym, List, length, IsSome}
use Rattle.arrayvec.specs.ArrayVec.{ArrayVec}
use Rattle.roster_instance.specs.declared.choice.Choice.{Choice}
use Rattle.roster_instance.specs.Choices.{all_choices, all_rows, days_of}
use Rattle.roster_instance.specs.Limits.{most_keep}
use Rattle.roster_instance.specs.Meaning.{Meaning, day_count, nurse_count}
use Rattle.roster_instance.specs.Rosters.{Row, Rows, choice_on, fits_case, row_of}
use Rattle.roster_instance.proofs.RosterFacts.{row_fits}
use Rattle.roster_rules.specs.HardRules.{breaks_succession, keeps_hard}
use Rattle.roster_laws.proofs.Allowed.{member_is_kept}
use Rattle.roster_laws.proofs.AllRows.{row_is_member}
use Rattle.roster_laws.proofs.Below.{all_true}
use Rattle.roster_laws.proofs.Frozen.{stays_self}
use Rattle.roster_offers.specs.declared.offer.Offer.{Offer}
use Rattle.roster_offers.specs.Cheapest.{Priced}
use Rattle.roster_offers.specs.Finds.{best_offered_at}
use Rattle.roster_offers.specs.Lists.{AreDayOffersAt, AreOffersAt, best_over_at, offers_on}
use Rattle.roster_offers.specs.Offers.{offered_row_by}
use Rattle.roster_offers.proofs.ByOffers.{offered_some_at}
use Rattle.roster_offers.proofs.ListLaws.{best_over_same_at}
use Rattle.roster_slots.specs.Slots.{SlotPrices}
use Rattle.roster_prices.specs.declared.decisions.Decision.{Decision}
use Rattle.roster_prices.specs.declared.window.Window.{Window}
use Rattle.roster_prices.specs.Days.{can_do, shift_offers}
use Rattle.roster_prices.specs.LowerBounds.{HasRow}
use Rattle.roster_prices.specs.Nodes.{price_in}
use Rattle.roster_prices.specs.Windows.{window_from}
use Rattle.roster_prices.proofs.NodeRows.{low_in}
use Rattle.roster_prices.proofs.OwnRows.{worked}
use Rattle.roster_prices.proofs.PricedRows.{day_offers, goes_on}

module _ (c : Meaning) (scale : ℕ) (w : SlotPrices) (node : List Decision) (window : Window) (from : ℕ) (given : Rows) (n : ℕ) (fits : fits_case c given ≡ true) (keeps : keeps_hard c given ≡ true) (inside : n < nurse_count c) where
  abbrev from_at : ℕ → ℕ
  from_at d = window_from window from d

  abbrev price : ℕ → Choice → ℕ
  price = price_in c scale w node n

  abbrev can : ℕ → Choice → Bool
  can d = can_do c (from_at d) given n d

  abbrev own : Row
  own = row_of given n

  -- whatever is frozen, the nurse can work the given row
  abbrev has : (week : ℕ) → HasRow c week given n
  has week = record { row = own; fits = row_fits c given n fits inside; works = worked c week given given fits keeps (stays_self c week given) n inside }

  day_offers_at : c.keep ≤ most_keep → (d : ℕ) → d < day_count c → AreDayOffersAt c n scale (shift_offers c (from_at d) given price n d)
  day_offers_at few d within = day_offers c (from_at d) given scale price n (low_in c scale w node n) (has (from_at d)) few d within

  own_row_offered : offered_row_by c n can own (day_count c) ≡ true
  own_row_offered =
      all_true (day_count c) (λ d. can d (choice_on own d) && not (breaks_succession c n (days_of own) d))
      (λ d within. goes_on c (from_at d) given scale price n (low_in c scale w node n) (has (from_at d)) d within)

  some : IsSome (best_offered_at c n scale can price)
  some =
      offered_some_at c n scale can price own
      (member_is_kept (λ row. offered_row_by c n can row (day_count c)) (all_rows (all_choices c) (day_count c)) own (row_is_member c own (row_fits c given n fits inside)) own_row_offered)

  -- ---- over these offers of all days

  module _ (table : List (ArrayVec Offer)) (days : length table ≡ day_count c) (each : (day : ℕ) → day < day_count c → offers_on table day ≡ shift_offers c (from_at day) given price n day) where
    pub can_search_window : c.keep ≤ most_keep → AreOffersAt c n scale table
    can_search_window few = record { days = omega (arith, days); each = λ day within. subst (AreDayOffersAt c n scale) (sym (each day within)) (day_offers_at few day within) }

    pub some_window : IsSome (best_over_at c n scale (offers_on table))
    some_window = subst (λ (p : Priced (List Offer)). IsSome p) (sym (best_over_same_at c n (offers_on table) (λ d. shift_offers c (from_at d) given price n d) each scale)) some
