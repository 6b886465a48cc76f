-- The offers that may follow a last shift, one after another.
use Rattle.std.proofs.Common.{◌≡◌, ◌∙◌, ◌+◌, ◌<◌, ◌≤◌, ℕ, zero, suc, true, ap, arith, refl, sym, List, [], ◌∷◌, ◌++◌, length, map, take, Option, None, Some, IsSome, IsSomeAnd, if◌then◌else◌}
use Rattle.std.specs.List.{All}
use Rattle.std.proofs.lemmas.List.{length-append, length-map, map-append, take_all}
use Rattle.arrayvec.specs.ArrayVec.{ArrayVec}
use Rattle.std.proofs.lemmas.List.Elements.{All-append}
use Rattle.roster_instance.specs.declared.choice.Shift.{Shift}
use Rattle.roster_instance.specs.Choices.{shift_of}
use Rattle.roster_instance.specs.Meaning.{Meaning, forbids}
use Rattle.roster_offers.specs.Cheapest.{Priced, cheaper, cheapest}
use Rattle.roster_offers.specs.declared.offer.Offer.{Offer}
use Rattle.roster_offers.proofs.Cheapest.{cheaper_none, cheapest_more}
use Rattle.roster_partial.specs.Allowed.{MayFollow}
use Rattle.roster_state.specs.Transition.{next_of, transition_cost}
use Rattle.roster_offers.specs.Offers.{dearer, scaled}
use Rattle.roster_partial.specs.declared.rows.Entry.{Entry}
use Rattle.roster_partial.specs.Rows.{Days, best_by, offer_numbered}
use Rattle.roster_partial.proofs.TransitionLaws.{by_forbidden}
use Rattle.roster_partial.proofs.AddLaws.{cheapest_next}

one_of : (P : ℕ → Type 0) (x : ℕ) → P x → All P (x ∷ [])
one_of P x holds zero d below = holds
one_of P x holds (suc k) d below = absurd (omega (arith, below))

module _ (c : Meaning) (last : Option Shift) (offers : List Offer) where
  -- no row goes on by a forbidden offer
  abbrev pub NoneForbidden : (Offer → Priced (List Offer)) → Type 0
  NoneForbidden by = (x : Offer) → forbids c.successions last (shift_of x.choice) ≡ true → by x ≡ None

  -- of the first offers
  pub record AreAllowed (index : ℕ) (indices : List ℕ) : Type 0 where
    pub inside : All (λ k. k < length offers) indices
    pub few : length indices ≤ index
    pub all : (by : Offer → Priced (List Offer)) → NoneForbidden by → cheapest by (map (offer_numbered offers) indices) ≡ cheapest by (take index offers)

  pub none_yet : AreAllowed 0 []
  none_yet = record { inside = λ k d below. absurd (omega (arith, below)); few = omega arith; all = λ by none. refl }

  module _ (index : ℕ) (below : index < length offers) (indices : List ℕ) (old : AreAllowed index indices) where
    next : suc index ≡ index + 1
    next = omega arith

    with_next : (by : Offer → Priced (List Offer)) → cheapest by (take (index + 1) offers) ≡ cheaper (cheapest by (take index offers)) (by (offer_numbered offers index))
    with_next by = ap (λ n. cheapest by (take n offers)) (sym next) ∙ cheapest_next by offers index _ below

    pub one_passed_over : forbids c.successions last (shift_of (offer_numbered offers index).choice) ≡ true → AreAllowed (index + 1) indices
    one_passed_over forbidden = record {
      inside = old.inside;
      few = omega (arith, old.few);
      all = λ by none. old.all by none ∙ sym (with_next by ∙ ap (cheaper (cheapest by (take index offers))) (none (offer_numbered offers index) forbidden) ∙ cheaper_none (cheapest by (take index offers)));
    }

    pub one_put : (new : List ℕ) → new ≡ indices ++ index ∷ [] → AreAllowed (index + 1) new
    one_put new is = rw (is) record {
      inside = All-append (λ k. k < length offers) indices (index ∷ []) old.inside (one_of (λ k. k < length offers) index below);
      few = omega (arith, old.few, length-append indices (index ∷ []));
      all = λ by none.
          ap (cheapest by) (map-append (offer_numbered offers) indices (index ∷ []))
          ∙ cheapest_more by (map (offer_numbered offers) indices) (offer_numbered offers index)
          ∙ ap (λ p. cheaper p (by (offer_numbered offers index))) (old.all by none)
          ∙ sym (with_next by);
    }

  pub all_allowed : (index : ℕ) (indices : List ℕ) → index ≡ length offers → AreAllowed index indices → MayFollow c last offers indices
  all_allowed index indices is are = record {
    inside = are.inside;
    few = omega (arith, are.few, is);
    all = λ by none. are.all by none ∙ ap (cheapest by) (take_all index offers (omega (arith, is)));
  }

-- ---- of each last shift

-- what is listed exists
pub look_some : (before after size : ℕ) (o : Option (ArrayVec ℕ)) → IsSomeAnd o (λ indices. (before ≤ after) × (after + length indices.items ≤ size)) → IsSome o
look_some before after size None listed = absurd listed
look_some before after size (Some indices) listed = refl

-- ---- a partial row

-- goes on by no forbidden offer
pub none_by_forbidden : (days : Days) (d : ℕ) (e : Entry) (x : Offer) → forbids days.case.successions e.state.last (shift_of x.choice) ≡ true → best_by days d e x ≡ None
none_by_forbidden days d e x forbidden =
    let shift = shift_of x.choice in
    by_forbidden days d e x (λ i. dearer x.price (scaled days.scale (if forbidden i then None else Some (next_of days.case days.nurse d e.state shift, transition_cost days.case days.nurse d e.state shift))))

-- the cheapest by the allowed offers is the cheapest by all
pub by_allowed : (days : Days) (d : ℕ) (e : Entry) (offers : List Offer) (indices : List ℕ) (next : ℕ) → MayFollow days.case e.state.last offers indices → length indices ≤ next → cheapest (best_by days d e) (take next (map (offer_numbered offers) indices)) ≡ cheapest (best_by days d e) offers
by_allowed days d e offers indices next is all =
    ap (cheapest (best_by days d e)) (take_all next (map (offer_numbered offers) indices) (omega (arith, all, length-map indices (offer_numbered offers))))
    ∙ is.all (best_by days d e) (none_by_forbidden days d e)
