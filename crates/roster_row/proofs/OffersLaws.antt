-- The offers of a search for a best row.
use Rattle.std.proofs.Common.{◌≡◌, ◌∙◌, ◌<◌, ◌≤◌, ℕ, true, IsSome, List, [], arith, subst, sym}
use Rattle.arrayvec.specs.ArrayVec.{ArrayVec}
use Rattle.roster_instance.specs.Limits.{most_shifts, most_skills}
use Rattle.roster_instance.specs.Meaning.{Meaning, day_count, nurse_count, shift_count, skill_count}
use Rattle.roster_instance.specs.Rosters.{Rows, fits_case}
use Rattle.roster_instance.specs.Small.{HasSmallNumbers}
use Rattle.roster_rules.specs.HardRules.{keeps_hard}
use Rattle.roster_rules.specs.Prefix.{summary_of}
use Rattle.roster_offers.specs.declared.offer.Offer.{Offer}
use Rattle.roster_offers.specs.Offers.{best_by_states, offers_of, shift_offers}
use Rattle.roster_offers.specs.Lists.{AreDayOffers, AreOffers, IsOfferOf, best_over, offers_on}
use Rattle.roster_offers.specs.Cheapest.{Priced}
use Rattle.roster_offers.proofs.Best.{best_some}
use Rattle.roster_offers.proofs.ByShift.{best_by_shift, by_shift_all, by_shift_fewer, by_shift_some}
use Rattle.roster_offers.proofs.OfferLaws.{offers_few, offers_of_case, offers_some}
use Rattle.roster_offers.proofs.ListLaws.{best_over_same}
use Rattle.roster_row.specs.Searches.{AreShiftOffers}

-- ---- the table of offers

module _ (c : Meaning) (from : ℕ) (r : Rows) (n : ℕ) (offers : List (ArrayVec Offer)) (are : AreShiftOffers c from r n offers) where
  -- the best row over the table is the nurse's
  pub best_is : best_over c n (offers_on offers) ≡ best_by_states c from r n
  best_is = best_over_same c n (offers_on offers) (shift_offers c from r n) are.each ∙ best_by_shift c n (offers_of c from r n) (day_count c) 0 (summary_of c n [])

  -- each day's offers are fit for a search
  pub can_search : HasSmallNumbers c → shift_count c ≤ most_shifts → skill_count c ≤ most_skills → fits_case c r ≡ true → keeps_hard c r ≡ true → n < nurse_count c → AreOffers c n offers
  can_search small shifts skills fits keeps inside =
      let each : (day : ℕ) → day < day_count c → AreDayOffers c n (shift_offers c from r n day) = λ day within. record {
        of_case = by_shift_all (IsOfferOf c) (offers_of c from r n day) (offers_of_case c from r n day small shifts skills);
        some = by_shift_some (offers_of c from r n day) (offers_some c from r n day fits keeps inside within);
        few = omega (arith, by_shift_fewer (offers_of c from r n day), offers_few c from r n day);
      } in
      record { days = omega (arith, are.days); each = λ day within. subst (AreDayOffers c n) (sym (are.each day within)) (each day within) }

  -- there is a best row over it
  pub some_found : fits_case c r ≡ true → keeps_hard c r ≡ true → n < nurse_count c → IsSome (best_over c n (offers_on offers))
  some_found fits keeps inside = subst (λ (p : Priced (List Offer)). IsSome p) (sym best_is) (best_some c from r fits keeps n inside)
