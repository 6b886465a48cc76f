-- A partial row with one offer more.
use Rattle.std.proofs.Common.{◌≡◌, ◌∙◌, ◌+◌, ◌<◌, ℕ, suc, ap, arith, append_assoc, length, List, [], ◌∷◌, ◌++◌, None, Option, Some, refl, slice_index_or, sym}
use Rattle.std.proofs.lemmas.List.{get_or_default}
use Rattle.roster_rules.specs.Prefix.{Summary}
use Rattle.roster_offers.specs.declared.offer.Offer.{Offer}
use Rattle.roster_offers.specs.ByStates.{best_after}
use Rattle.roster_offers.specs.Cheapest.{Priced, raised}
use Rattle.roster_offers.specs.Offers.{best_of_offers_at, dearer, offer_transition_at, scaled}
use Rattle.roster_offers.specs.Lists.{offers_on}
use Rattle.roster_instance.specs.Choices.{shift_of}
use Rattle.roster_instance.specs.Meaning.{Meaning}
use Rattle.roster_instance.specs.declared.choice.Shift.{Shift}
use Rattle.roster_state.specs.Transition.{transition_of}
use Rattle.arrayvec.specs.ArrayVec.{ArrayVec}
use Rattle.roster_partial.specs.declared.rows.Entry.{Entry}
use Rattle.roster_partial.specs.Rows.{Days, best_by, best_of, entry_numbered, offer_numbered, offers_to, within}
use Rattle.roster_partial.proofs.RowLaws.{beyond}

-- one thing more in front of what is raised
raised_by_one : {X : Type 0} (cost more : ℕ) (front : List X) (x : X) (o : Priced (List X)) → raised (cost + more) (λ rest. (front ++ x ∷ []) ++ rest) o ≡ raised cost (λ rest. front ++ rest) (raised more (λ xs. x ∷ xs) o)
raised_by_one cost more front x None = refl
raised_by_one cost more front x (Some p) =
    let sums : cost + more + p.0 ≡ cost + (more + p.0) = omega arith in
    λ i. Some (sums i, append_assoc front (x ∷ []) p.1 i)

module _ (days : Days) (d : ℕ) (e : Entry) (x : Offer) where
  -- if the transition is forbidden
  pub by_forbidden : offer_transition_at days.case days.nurse days.scale d e.state x ≡ None → best_by days d e x ≡ None
  unfolding best_by
  by_forbidden none = ap (λ transition. within days.limit (raised e.cost (λ rest. offers_to days.offers days.earlier d e ++ rest) (best_after x transition (best_of_offers_at days.case days.nurse days.scale days.offers days.left (suc d))))) none

  module _ (t : Summary) (cost : ℕ) (is : offer_transition_at days.case days.nurse days.scale d e.state x ≡ Some (t, cost)) where
    by_transition : best_by days d e x ≡ within days.limit (raised e.cost (λ rest. offers_to days.offers days.earlier d e ++ rest) (raised cost (λ xs. x ∷ xs) (best_of_offers_at days.case days.nurse days.scale days.offers days.left (suc d) t)))
    unfolding best_by
    by_transition = ap (λ transition. within days.limit (raised e.cost (λ rest. offers_to days.offers days.earlier d e ++ rest) (best_after x transition (best_of_offers_at days.case days.nurse days.scale days.offers days.left (suc d))))) is

    -- if each row that begins with it costs more than the limit
    pub by_pruned : ((rest : ℕ) (row : List Offer) → best_of_offers_at days.case days.nurse days.scale days.offers days.left (suc d) t ≡ Some (rest, row) → days.limit < e.cost + cost + rest) → best_by days d e x ≡ None
    by_pruned pruned = by_transition ∙ go (best_of_offers_at days.case days.nurse days.scale days.offers days.left (suc d) t) pruned
      where
        go : (o : Priced (List Offer)) → ((rest : ℕ) (row : List Offer) → o ≡ Some (rest, row) → days.limit < e.cost + cost + rest) → within days.limit (raised e.cost (λ rest. offers_to days.offers days.earlier d e ++ rest) (raised cost (λ xs. x ∷ xs) o)) ≡ None
        go None pruned = refl
        go (Some p) pruned = beyond days.limit (e.cost + (cost + p.0), offers_to days.offers days.earlier d e ++ x ∷ p.1) (omega (arith, pruned p.0 p.1 refl))

    -- the entry of the row with the offer
    pub by_entry : (more : Entry) → days.day ≡ suc d → more.state ≡ t → more.cost ≡ e.cost + cost → entry_numbered days.earlier more.before ≡ e → offer_numbered (days.offers d) more.offer ≡ x → best_of days more ≡ best_by days d e x
    unfolding best_of
    by_entry more day state costs before offer =
        (λ i. within days.limit (raised (costs i) (λ rest. offers_to days.offers days.earlier (day i) more ++ rest) (best_of_offers_at days.case days.nurse days.scale days.offers days.left (day i) (state i))))
        ∙ (λ i. within days.limit (raised (e.cost + cost) (λ rest. (offers_to days.offers days.earlier d (before i) ++ offer i ∷ []) ++ rest) (best_of_offers_at days.case days.nurse days.scale days.offers days.left (suc d) t)))
        ∙ ap (within days.limit) (raised_by_one e.cost cost (offers_to days.offers days.earlier d e) x (best_of_offers_at days.case days.nurse days.scale days.offers days.left (suc d) t))
        ∙ sym by_transition

-- ---- what is read

pub read_day : (offers : List (ArrayVec Offer)) (day : ℕ) (o : ArrayVec Offer) → day < length offers → o ≡ slice_index_or offers day o → offers_on offers day ≡ o.items
read_day offers day o inside is = ap (λ o. o.items) (get_or_default offers day _ o inside ∙ sym is)

-- the transition by an offer, as it is made
pub read_transition : (c : Meaning) (n scale day : ℕ) (s state : Summary) (x wanted : Offer) (shift : Option Shift) (transition : Option (Summary × ℕ)) → x ≡ wanted → state ≡ s → shift ≡ shift_of x.choice → transition ≡ transition_of c n day state shift → offer_transition_at c n scale day s wanted ≡ dearer x.price (scaled scale transition)
read_transition c n scale day s state x wanted shift transition same is shift_is transition_is = ap (offer_transition_at c n scale day s) (sym same) ∙ ap (λ o. dearer x.price (scaled scale o)) ((λ i. transition_of c n day (sym is i) (sym shift_is i)) ∙ sym transition_is)
