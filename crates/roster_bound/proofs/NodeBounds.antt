-- A lower bound for the rosters of a node: by the node's prices a row of such a roster costs no more, since
-- it goes against no decision.
use Rattle.std.proofs.Common.{◌≡◌, ◌∙◌, ◌+◌, ◌*◌, ◌<◌, ◌≤◌, ◌==◌, ◌&&◌, ◌||◌, ℕ, Bool, true, false, not, ap, refl, subst, sym, List, [], ◌∷◌, length, if◌then◌else◌}
use Rattle.std.proofs.lemmas.Bool.{and_parts, eqb-true}
use Rattle.roster_instance.specs.Choices.{days_of}
use Rattle.roster_instance.specs.Meaning.{Meaning}
use Rattle.roster_instance.specs.Rosters.{Row, Rows, choice_on, row_of}
use Rattle.roster_rules.specs.Penalties.{own_cost}
use Rattle.roster_rules.proofs.RunSums.{sum_same}
use Rattle.roster_offers.specs.Offers.{row_cost_in}
use Rattle.roster_prices.specs.declared.decisions.Decision.{Decision}
use Rattle.roster_prices.specs.Nodes.{IsLowerBoundIn, against_price, bound_in, is_against, is_as_decided, is_in_node, price_in, row_bound_in}
use Rattle.roster_slots.specs.Slots.{AreDualPrices, SlotPrices}
use Rattle.roster_prices.specs.LowerBounds.{bound_by, own_rows, price_by, row_cost_by}
use Rattle.roster_prices.proofs.OwnRows.{among}
use Rattle.roster_bound.proofs.Duality.{below}
use Rattle.roster_bound.proofs.LeastCosts.{least_below}

-- ---- what a roster of the node does goes against no decision

one_kept : (x : Decision) (r : Rows) (n d : ℕ) → is_as_decided x (choice_on (row_of r x.nurse) x.day) ≡ true → ((x.nurse == n) && (x.day == d) && not (is_as_decided x (choice_on (row_of r n) d))) ≡ false
one_kept x r n d kept = go (x.nurse == n) (x.day == d) refl refl
  where
    go : (a b : Bool) → (x.nurse == n) ≡ a → (x.day == d) ≡ b → (a && b && not (is_as_decided x (choice_on (row_of r n) d))) ≡ false
    go false b e f = refl
    go true false e f = refl
    go true true e f =
        let nurse : x.nurse ≡ n = eqb-true x.nurse n e in
        let day : x.day ≡ d = eqb-true x.day d f in
        let same : is_as_decided x (choice_on (row_of r x.nurse) x.day) ≡ is_as_decided x (choice_on (row_of r n) d) = λ i. is_as_decided x (choice_on (row_of r (nurse i)) (day i)) in
        ap not (sym same ∙ kept)

pub none_against : (node : List Decision) (r : Rows) (n d : ℕ) → is_in_node node r ≡ true → is_against node n d (choice_on (row_of r n) d) ≡ false
none_against [] r n d kept = refl
none_against (x ∷ xs) r n d kept =
    let both = and_parts (is_as_decided x (choice_on (row_of r x.nurse) x.day)) (is_in_node xs r) kept in
    go _ _ (one_kept x r n d both.0) (none_against xs r n d both.1)
  where
    go : (a b : Bool) → a ≡ false → b ≡ false → (a || b) ≡ false
    go false false e f = refl
    go false true e f = f
    go true b e f = e

module _ (c : Meaning) (scale : ℕ) (w : SlotPrices) (node : List Decision) where
  price_kept : (r : Rows) (n d : ℕ) → is_in_node node r ≡ true → price_in c scale w node n d (choice_on (row_of r n) d) ≡ price_by c scale w n d (choice_on (row_of r n) d)
  price_kept r n d kept =
      let p : ℕ = price_by c scale w n d (choice_on (row_of r n) d) in
      ap (λ b. if b then against_price scale + p else p) (none_against node r n d kept)

  pub cost_kept : (r : Rows) (n : ℕ) → is_in_node node r ≡ true → row_cost_in c n scale (price_in c scale w node n) (row_of r n) ≡ row_cost_by c scale w n (row_of r n)
  cost_kept r n kept =
      let row : Row = row_of r n in
      ap (λ m. scale * own_cost c n (days_of row) + m) (sum_same (length row) (λ d. price_in c scale w node n d (choice_on row d)) (λ d. price_by c scale w n d (choice_on row d)) (λ d inside. price_kept r n d kept))

  -- no roster of the node costs less than the bound
  pub none_below_in : (from : ℕ) (given : Rows) → 0 < scale → AreDualPrices scale w → IsLowerBoundIn c from given node (bound_in c from given scale w node)
  unfolding bound_in
  none_below_in from given some are r fits keeps stays kept =
      below c from given scale some w are r fits keeps stays (row_bound_in c from given scale w node)
      (λ n inside. subst (λ m. row_bound_in c from given scale w node n ≤ m) (cost_kept r n kept)
      (least_below (row_cost_in c n scale (price_in c scale w node n)) (own_rows c from given n) (row_of r n) (among c from given r fits keeps stays n inside)))

-- the node without decisions
pub bound_of_root : (c : Meaning) (from : ℕ) (given : Rows) (scale : ℕ) (w : SlotPrices) → bound_in c from given scale w [] ≡ bound_by c from given scale w
unfolding bound_in bound_by
bound_of_root c from given scale w = refl
