-- The label of a state by one offer, and by one more offer.
use Rattle.std.proofs.Common.{◌≡◌, ◌∙◌, ◌+◌, ◌*◌, ◌<◌, ◌≤◌, ◌⊎◌, ℕ, suc, inl, inr, ap, append_assoc, arith, refl, sym, List, [], ◌∷◌, ◌++◌, length, min, subst, slice_index_or, take, Option, Some, None}
use Rattle.std.proofs.Math.Seq.{take-suc}
use Rattle.std.proofs.lemmas.Bool.{cases_lt}
use Rattle.std.proofs.lemmas.List.{length-take-le}
use Rattle.roster_instance.specs.Choices.{shift_of}
use Rattle.roster_instance.specs.Meaning.{Meaning}
use Rattle.roster_rules.specs.Prefix.{Summary}
use Rattle.roster_state.specs.declared.state_box.StateBox.{StateBox}
use Rattle.roster_state.specs.Codes.{Sizes, code_of, sizes_of}
use Rattle.roster_state.specs.Transition.{transition_of}
use Rattle.roster_offers.specs.declared.offer.Offer.{Offer}
use Rattle.roster_offers.specs.ByStates.{best_after}
use Rattle.roster_offers.specs.Cheapest.{Priced, cheaper, cheapest, raised}
use Rattle.roster_offers.specs.Offers.{dearer, scaled}
use Rattle.roster_offers.specs.Lists.{no_row}
use Rattle.roster_offers.proofs.Cheapest.{cheapest_more, keeps_first, takes_second}
use Rattle.roster_tables.specs.Tables.{AreLabels, AreOfLeast, BestOnward, PointsToBest, SearchDay, IsReachable, best_by, label_of}

pub label_within : {X : Type 0} (p : Priced X) → label_of p ≤ no_row
label_within None = omega arith
label_within (Some p) = omega arith

label-raised : {Z X : Type 0} (k : ℕ) (g : Z → X) (p : Priced Z) → label_of (raised k g p) ≡ min (k + label_of p) no_row
label-raised k g None = omega arith
label-raised k g (Some p) = omega arith

-- ---- by one offer

module _ (c : Meaning) (at : SearchDay) (later : BestOnward) (s : Summary) (offer : Offer) where
  by_transition : (transition : Option (Summary × ℕ)) → transition_of c at.nurse at.day s (shift_of offer.choice) ≡ transition → label_of (best_by c at later s offer) ≡ label_of (best_after offer (dearer offer.price (scaled at.scale transition)) later)
  by_transition transition e = ap (λ t. label_of (best_after offer (dearer offer.price (scaled at.scale t)) later)) e

  pub label_by_offer : (next : Summary) (cost label : ℕ) → transition_of c at.nurse at.day s (shift_of offer.choice) ≡ Some (next, cost) → label ≡ label_of (later next) → min (offer.price + at.scale * cost + label) no_row ≡ label_of (best_by c at later s offer)
  label_by_offer next cost label e is =
      ap (λ l. min (offer.price + at.scale * cost + l) no_row) is
      ∙ sym (label-raised (offer.price + at.scale * cost) (λ rest. offer ∷ rest) (later next))
      ∙ sym (by_transition (Some (next, cost)) e)

  pub label_refused : transition_of c at.nurse at.day s (shift_of offer.choice) ≡ None → no_row ≡ label_of (best_by c at later s offer)
  label_refused e = sym (by_transition None e)

-- ---- by one more offer

label_lower : {X : Type 0} (p q : Priced X) → label_of q < label_of p → cheaper p q ≡ q
label_lower None q lower = refl
label_lower (Some p) None lower = absurd (omega (arith, lower))
label_lower (Some p) (Some q) lower = takes_second p q (omega (arith, lower))

label_kept : {X : Type 0} (p q : Priced X) → label_of p ≤ label_of q → label_of (cheaper p q) ≡ label_of p
label_kept None q kept = omega (arith, kept, label_within q)
label_kept (Some p) None kept = refl
label_kept (Some p) (Some q) kept = go (cases_lt q.0 p.0)
  where
    go : (q.0 < p.0) ⊎ (p.0 ≤ q.0) → label_of (cheaper (Some p) (Some q)) ≡ label_of (Some p)
    go (inl h) = ap label_of (takes_second p q h) ∙ omega (arith, kept, h)
    go (inr h) = ap label_of (keeps_first p q h)

-- the row of a label that stays, if it is below no_row
strip_kept : {X : Type 0} (p q : Priced X) → label_of p ≤ label_of q → (row : ℕ × X) → cheaper p q ≡ Some row → row.0 < no_row → p ≡ Some row
strip_kept None q kept row e below = absurd (omega (arith, kept, ap label_of e, below))
strip_kept (Some p) None kept row e below = e
strip_kept {X} (Some p) (Some q) kept row e below = go (cases_lt q.0 p.0)
  where
    go : (q.0 < p.0) ⊎ (p.0 ≤ q.0) → Some p ≡ Some row
    go (inl h) = absurd (omega (arith, kept, h, ap label_of (sym (takes_second p q h) ∙ e), below))
    go (inr h) = sym (keeps_first p q h) ∙ e

module _ {O X : Type 0} (by : O → Priced X) where
  pub least_of_none : AreOfLeast by [] no_row 0
  least_of_none = record { least = refl; points = λ row e below. absurd cc }

  points_further : (xs : List O) (x : O) (row : ℕ × X) (pointer : ℕ) → PointsToBest by xs row pointer → PointsToBest by (xs ++ x ∷ []) row pointer
  points_further xs x row pointer old = record {
    front = old.front;
    offer = old.offer;
    back = old.back ++ x ∷ [];
    split = ap (λ l. l ++ x ∷ []) old.split ∙ append_assoc old.front (old.offer ∷ old.back) (x ∷ []);
    place = old.place;
    best = old.best;
  }

  module _ (xs : List O) (x : O) (label pointer : ℕ) (old : AreOfLeast by xs label pointer) (more : ℕ) (is : more ≡ label_of (by x)) where
    pub least_lower : more < label → AreOfLeast by (xs ++ x ∷ []) more (length xs)
    least_lower lower =
        let best : cheapest by (xs ++ x ∷ []) ≡ by x = cheapest_more by xs x ∙ label_lower (cheapest by xs) (by x) (omega (arith, lower, is, old.least)) in
        record {
          least = is ∙ ap label_of (sym best);
          points = λ row e below. record { front = xs; offer = x; back = []; split = refl; place = refl; best = sym best ∙ e };
        }

    pub least_kept : label ≤ more → AreOfLeast by (xs ++ x ∷ []) label pointer
    least_kept kept =
        let both = cheapest_more by xs x in
        let not_above : label_of (cheapest by xs) ≤ label_of (by x) = omega (arith, kept, is, old.least) in
        record {
          least = old.least ∙ sym (label_kept (cheapest by xs) (by x) not_above) ∙ ap label_of (sym both);
          points = λ row e below. points_further xs x row pointer (old.points row (strip_kept (cheapest by xs) (by x) not_above row (sym both ∙ e) below) below);
        }

  -- the first offers of a list, and one more of them
  module _ (offers : List O) (place : ℕ) (inside : place < length offers) (d : O) (label pointer : ℕ) (old : AreOfLeast by (take place offers) label pointer) (more : ℕ) (is : more ≡ label_of (by (slice_index_or offers place d))) where
    one_more : take (place + 1) offers ≡ take place offers ++ slice_index_or offers place d ∷ []
    one_more = ap (λ k. take k offers) next ∙ take-suc offers place d inside
      where
        next : place + 1 ≡ suc place
        next = omega arith

    pub taken_lower : more < label → AreOfLeast by (take (place + 1) offers) more place
    taken_lower lower =
        let so_long : length (take place offers) ≡ place = length-take-le place offers (omega (arith, inside)) in
        let least : AreOfLeast by (take place offers ++ slice_index_or offers place d ∷ []) more (length (take place offers)) = least_lower (take place offers) (slice_index_or offers place d) label pointer old more is lower in
        subst (λ k. AreOfLeast by (take (place + 1) offers) more k) so_long (subst (λ xs. AreOfLeast by xs more (length (take place offers))) (sym one_more) least)

    pub taken_kept : label ≤ more → AreOfLeast by (take (place + 1) offers) label pointer
    taken_kept kept = subst (λ xs. AreOfLeast by xs label pointer) (sym one_more) (least_kept (take place offers) (slice_index_or offers place d) label pointer old more is kept)

-- ---- the label of the next state

module _ (c : Meaning) (at : SearchDay) (ranges : Sizes) (sizes : ranges ≡ sizes_of c at.nurse) (boxes : List StateBox) (later : BestOnward) (labels : List ℕ) (right : AreLabels c at.nurse boxes later labels) where
  label_of_next : (t : Summary) → IsReachable c at.nurse boxes t → slice_index_or labels (code_of ranges t) 0 ≡ label_of (later t)
  label_of_next t reachable = subst (λ z. slice_index_or labels (code_of z t) 0 ≡ label_of (later t)) (sym sizes) (right t reachable)

  pub transition_low : (t : Summary) → IsReachable c at.nurse boxes t → slice_index_or labels (code_of ranges t) 0 ≤ no_row
  transition_low t reachable = omega (arith, label_of_next t reachable, label_within (later t))

  pub label_at-is : (s : Summary) (offer : Offer) (t : Summary × ℕ) → transition_of c at.nurse at.day s (shift_of offer.choice) ≡ Some t → IsReachable c at.nurse boxes t.0
      → min (offer.price + at.scale * t.1 + slice_index_or labels (code_of ranges t.0) 0) no_row ≡ label_of (best_by c at later s offer)
  label_at-is s offer t e reachable = label_by_offer c at later s offer t.0 t.1 (slice_index_or labels (code_of ranges t.0) 0) e (label_of_next t.0 reachable)
