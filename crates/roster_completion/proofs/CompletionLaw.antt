-- The completion bounds, at their rates, are lower bounds for the rest of a row.
use Rattle.std.proofs.Common.{◌≡◌, ◌∙◌, ◌+◌, ◌*◌, ◌≤◌, ℕ, suc, true, false, ap, arith, mul-add, mul-le-mul_left, refl, subst, sym, List, [], ◌∷◌, Option, is_some}
use Rattle.roster_instance.specs.declared.choice.Shift.{Shift}
use Rattle.roster_instance.specs.Choices.{shift_of}
use Rattle.roster_instance.specs.Counting.{one_if}
use Rattle.roster_instance.specs.Meaning.{Meaning, contract_of, day_count, forbids}
use Rattle.roster_rules.specs.DayLaw.{is_saturday, is_sunday, weekends_more}
use Rattle.roster_rules.specs.Prefix.{Summary}
use Rattle.roster_state.specs.Codes.{fits_sizes, sizes_of}
use Rattle.roster_state.specs.Transition.{end_cost_of, next_of, transition_cost, total_more, weekend_more}
use Rattle.roster_state.proofs.CodeLemmas.{fits-all}
use Rattle.roster_state.proofs.RangeLemmas.{next_fits}
use Rattle.roster_state.proofs.SumLaw.{weekends_at_most}
use Rattle.roster_offers.specs.declared.offer.Offer.{Offer}
use Rattle.roster_offers.specs.Lists.{IsOfferAt}
use Rattle.roster_offers.proofs.OfferLaws.{shift_of_case}
use Rattle.roster_completion.specs.Later.{AreOfCase, LieUnderRest, at_rates, counts_later, days_to_work, weekends_to_work}
use Rattle.roster_completion.specs.declared.rates.Rates.{Rates}
use Rattle.roster_completion.specs.CompletionBounds.{AreCompletionBounds, LiesUnder, cost_without_counts, completion_bound_at, rated}
use Rattle.roster_completion.proofs.BestLaw.{by_days, last_of_next}
use Rattle.roster_completion.proofs.CountLaws.{total_day, weekends_day}

scaled_sum : (scale sum a b c : ℕ) → sum ≡ a + b + c → scale * sum ≡ scale * a + scale * b + scale * c
scaled_sum scale sum a b c is = ap (λ k. scale * k) is ∙ omega arith

module _ (c : Meaning) (n : ℕ) where
  -- ---- a day

  abbrev later : ℕ → Summary → List Offer → ℕ
  later d s row = counts_later c n d s row

  later_day : (d : ℕ) (s : Summary) (x : Offer) (row : List Offer) → fits_sizes (sizes_of c n) s ≡ true
      → later d s (x ∷ row) ≡ total_more c n s (shift_of x.choice) + weekend_more c n d s (shift_of x.choice) + later (suc d) (next_of c n d s (shift_of x.choice)) row
  unfolding next_of
  later_day d s x row fit =
      let fits = fits-all (sizes_of c n) s fit in
      let one = weekends_at_most (is_saturday d) (is_sunday d) (is_some s.last) (is_some (shift_of x.choice)) in
      sum_of _ _ _ _ _ _ (total_day (contract_of c n).total s.assignments (days_to_work row) (is_some (shift_of x.choice)) (omega (arith, fits.assignments)))
      (weekends_day (contract_of c n).weekends s.weekends (weekends_to_work (suc d) (shift_of x.choice) row) (weekends_more d (is_some s.last) (is_some (shift_of x.choice))) one (omega (arith, fits.weekends)))
    where
      sum_of : (p q r s t u : ℕ) → p ≡ q + r → s ≡ t + u → p + s ≡ q + t + (r + u)
      sum_of p q r s t u e f = omega (arith, e, f)

  cost_parts : (d : ℕ) (s : Summary) (shift : Option Shift) → transition_cost c n d s shift ≡ cost_without_counts c n d s shift + total_more c n s shift + weekend_more c n d s shift
  unfolding transition_cost
  cost_parts d s shift = omega arith

  module _ (scale : ℕ) (rates : Rates) (offers : ℕ → List Offer) (completion_bounds : List ℕ) where
    abbrev at : ℕ → Summary → ℕ
    at d s = completion_bound_at (sizes_of c n) completion_bounds d s

    -- the completion bound of a state and what its counts cost later are together no more than the cost of a
    -- row and what its days are charged
    abbrev Under : ℕ → Summary → ℕ → List Offer → Type 0
    Under d s cost row = at d s + scale * later d s row ≤ cost + at_rates rates d s row

    -- what a day's sums come to
    summed : (here there now onward adjustment total weekend price rest o e j k p q : ℕ) → here ≤ price + adjustment + (rates.day * o + rates.weekend * e) + there → there + onward ≤ rest + (rates.day * j + rates.weekend * k) → now ≡ total + weekend + onward
        → p ≡ rates.day * (o + j) → q ≡ rates.weekend * (e + k)
        → here + now ≤ price + (adjustment + total + weekend) + rest + (p + q)
    summed here there now onward adjustment total weekend price rest o e j k p q low after is p_is q_is = omega (arith, low, after, is, p_is, q_is, mul-add rates.day o j, mul-add rates.weekend e k)

    -- the same from an offer on, if it holds after the offer
    under_from : (d : ℕ) (s : Summary) → fits_sizes (sizes_of c n) s ≡ true → (x : Offer) (cost : ℕ) (row : List Offer)
        → at d s ≤ rated c n scale rates d s x + at (suc d) (next_of c n d s (shift_of x.choice))
        → Under (suc d) (next_of c n d s (shift_of x.choice)) cost row
        → Under d s (x.price + scale * transition_cost c n d s (shift_of x.choice) + cost) (x ∷ row)
    under_from d s fit x cost row low after =
        let shift : Option Shift = shift_of x.choice in
        let next : Summary = next_of c n d s shift in
        let onward : at (suc d) next + scale * later (suc d) next row ≤ cost + (rates.day * days_to_work row + rates.weekend * weekends_to_work (suc d) shift row) =
        subst (λ o. at (suc d) next + scale * later (suc d) next row ≤ cost + (rates.day * days_to_work row + rates.weekend * weekends_to_work (suc d) o row)) (last_of_next c n d s shift) after in
        let apart : ℕ = scale * cost_without_counts c n d s shift in
        let total : ℕ = scale * total_more c n s shift in
        let weekend : ℕ = scale * weekend_more c n d s shift in
        let parts : scale * transition_cost c n d s shift ≡ apart + total + weekend = scaled_sum scale (transition_cost c n d s shift) (cost_without_counts c n d s shift) (total_more c n s shift) (weekend_more c n d s shift) (cost_parts d s shift) in
        let counted : scale * later d s (x ∷ row) ≡ total + weekend + scale * later (suc d) next row = scaled_sum scale (later d s (x ∷ row)) (total_more c n s shift) (weekend_more c n d s shift) (later (suc d) next row) (later_day d s x row fit) in
        subst (λ k. at d s + scale * later d s (x ∷ row) ≤ x.price + k + cost + at_rates rates d s (x ∷ row)) (sym parts)
        (summed (at d s) (at (suc d) next) (scale * later d s (x ∷ row)) (scale * later (suc d) next row) apart total weekend x.price cost (one_if (is_some shift)) (weekends_more d (is_some s.last) (is_some shift)) (days_to_work row) (weekends_to_work (suc d) shift row) _ _ low onward counted refl refl)

    -- ---- all days

    -- after the last day the counts cost no more than what is missing at the end
    ended_low : (d : ℕ) (s : Summary) → scale * later d s [] ≤ scale * end_cost_of c n s
    ended_low d s = let low : later d s [] ≤ end_cost_of c n s = omega arith in mul-le-mul_left scale low

    module _ (are : AreCompletionBounds c n scale rates offers completion_bounds) (of_case : AreOfCase c scale offers) where
      -- the offer is the case's, and the completion bounds of its day lie under it
      abbrev IsGood : ℕ → Offer → Type 0
      IsGood d x = IsOfferAt c scale x × ((s : Summary) → fits_sizes (sizes_of c n) s ≡ true → LiesUnder c n scale rates completion_bounds d s x)

      begun : (m d : ℕ) (s : Summary) (x : Offer) (cost : ℕ) (row : List Offer) → suc m + d ≡ day_count c → IsGood d x → forbids c.successions s.last (shift_of x.choice) ≡ false
          → (fits_sizes (sizes_of c n) (next_of c n d s (shift_of x.choice)) ≡ true → Under (suc d) (next_of c n d s (shift_of x.choice)) cost row)
          → fits_sizes (sizes_of c n) s ≡ true → Under d s (x.price + scale * transition_cost c n d s (shift_of x.choice) + cost) (x ∷ row)
      begun m d s x cost row days good allowed after fit =
          under_from d s fit x cost row (good.1 s fit allowed) (after (next_fits c n d s (shift_of x.choice) (shift_of_case c x.choice good.0.choice)))

      pub bounds_under : LieUnderRest c n scale rates offers completion_bounds
      bounds_under m d s days fit cost row is =
          by_days c n scale offers IsGood (λ d below k x inside. (of_case d below k x inside, λ s fit. are.under d below s fit k x inside)) (λ m d s cost row. fits_sizes (sizes_of c n) s ≡ true → Under d s cost row)
          (λ d s last fit. let none : at d s ≡ 0 = subst (λ k. at k s ≡ 0) (sym last) (are.end s fit) in omega (arith, none, ended_low d s)) begun m d s days cost row is fit
