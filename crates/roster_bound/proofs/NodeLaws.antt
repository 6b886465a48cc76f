-- The two children of a node contain its rosters, so nodes that contain all rosters do so after a branching.
use Rattle.std.proofs.Common.{◌≡◌, ◌∙◌, ◌+◌, ◌<◌, ◌≤◌, ◌&&◌, ◌||◌, ◌⊎◌, ◌++◌, ℕ, Bool, true, false, not, ap, append-nil, append_assoc, arith, inl, inr, max, refl, subst, sym, List, [], ◌∷◌, length, set, get_or, if◌then◌else◌}
use Rattle.std.specs.List.{All, list_all, list_any}
use Rattle.std.proofs.lemmas.Bool.{cases_eq, cases_lt}
use Rattle.std.proofs.lemmas.List.{get_or-set_other, get_or-set_same, get_or_append_left, get_or_default, get_or_push, length-set, length_push}
use Rattle.std.proofs.lemmas.List.Elements.{All-cons, All-contains, All-from_get_or, All-get_or, All-nil, All-push, All-set}
use Rattle.std.proofs.lemmas.List.Folds.{Any-from_list_any, list_all-append, list_any_at}
use Rattle.arrayvec.specs.ArrayVec.{ArrayVec}
use Rattle.roster_instance.specs.Choices.{same_choice}
use Rattle.roster_instance.specs.Meaning.{Meaning}
use Rattle.roster_instance.specs.Rosters.{Rows, choice_on, row_of}
use Rattle.roster_prices.specs.declared.decisions.Decision.{Decision}
use Rattle.roster_bound.specs.declared.nodes.Node.{Node}
use Rattle.roster_bound.specs.Branching.{AreNodesOf, AreChildrenOf, IsBoundByPrices, IsFirstLeastAt, IsLeastOf, IsPriced, IsRoot}
use Rattle.roster_bound.specs.Branchings.{IsBelowAt, IsLeastBelow}
use Rattle.roster_prices.specs.Nodes.{IsLowerBoundIn, is_as_decided, is_in_node, other_way}
use Rattle.roster_prices.specs.LowerBounds.{IsLowerBound}

-- ---- a decision and the other way round

turned : (does same : Bool) → (if not does then same else not same) ≡ not (if does then same else not same)
turned true same = refl
turned false true = refl
turned false false = refl

one_way : (a b : Bool) → a ≡ true → ((a && (b && true)) ≡ true) ⊎ ((a && (not b && true)) ≡ true)
one_way a true e = inl (ap (λ x. x && (true && true)) e)
one_way a false e = inr (ap (λ x. x && (not false && true)) e)

-- a roster of the node is in one of the two children
pub in_one : (node : List Decision) (x : Decision) (r : Rows) → is_in_node node r ≡ true → (is_in_node (node ++ x ∷ []) r ≡ true) ⊎ (is_in_node (node ++ other_way x ∷ []) r ≡ true)
in_one node x r kept =
    let Kept : Decision → Bool = λ y. is_as_decided y (choice_on (row_of r y.nurse) y.day) in
    let other : Kept (other_way x) ≡ not (Kept x) = turned x.does (same_choice (choice_on (row_of r x.nurse) x.day) x.choice) in
    elim (one_way (is_in_node node r) (Kept x) kept) [
      | inl e ↦ inl (list_all-append Kept node (x ∷ []) ∙ e)
      | inr e ↦ inr (list_all-append Kept node (other_way x ∷ []) ∙ ap (λ b. is_in_node node r && (b && true)) other ∙ e)
    ]

-- the lower bounds of both children give one for the node
pub in_both : (c : Meaning) (from : ℕ) (given : Rows) (node : List Decision) (x : Decision) (bound : ℕ) → IsLowerBoundIn c from given (node ++ x ∷ []) bound → IsLowerBoundIn c from given (node ++ other_way x ∷ []) bound → IsLowerBoundIn c from given node bound
in_both c from given node x bound with without r fits keeps stays kept =
    elim (in_one node x r kept) [ inl e ↦ with r fits keeps stays e | inr e ↦ without r fits keeps stays e ]

-- ---- nodes that contain all rosters

module _ (c : Meaning) (from : ℕ) (given : Rows) where
  abbrev HasBound : Node → Type 0
  HasBound node = IsLowerBoundIn c from given node.decisions.items node.bound

  -- the node of all rosters
  root_priced : (node : Node) → node.decisions.items ≡ [] → (node.bound ≡ 0) ⊎ IsBoundByPrices c from given [] node.bound → IsPriced c from given node
  root_priced node none (inl zero) = inl zero
  root_priced node none (inr by) = inr (record { first = []; rest = []; decisions = none; by_prices = by })

  pub root_is : (bound : ℕ) (nodes : List Node) → IsLowerBound c from given bound → (bound ≡ 0) ⊎ IsBoundByPrices c from given [] bound → IsRoot bound nodes → AreNodesOf c from given nodes
  root_is bound nodes below by w =
      let P : List Node → Type 0 = λ ps. AreNodesOf c from given ps in
      let Of : ℕ → Type 0 = λ b. (b ≡ 0) ⊎ IsBoundByPrices c from given [] b in
      subst P (sym w.only) (record {
        all = λ r. ap (λ (ds : List Decision). is_in_node ds r || false) w.decisions;
        bounds = All-cons HasBound w.node [] (λ r fits keeps stays kept. omega (arith, below r fits keeps stays, w.bound_is)) (All-nil HasBound);
        priced = All-cons (IsPriced c from given) w.node [] (root_priced w.node w.decisions (subst Of (sym w.bound_is) by)) (All-nil (IsPriced c from given));
      })

  -- there is a node
  pub some_node : (nodes : List Node) → AreNodesOf c from given nodes → 0 < length nodes
  some_node nodes are = let any = Any-from_list_any (λ (node : Node). is_in_node node.decisions.items []) nodes (are.all []) in omega (arith, any.2)

  -- a lower bound that is no more than each of theirs
  pub bound_of_all : (nodes : List Node) (bound : ℕ) → AreNodesOf c from given nodes → All (λ node. bound ≤ node.bound) nodes → IsLowerBound c from given bound
  bound_of_all nodes bound are least r fits keeps stays =
      let any = Any-from_list_any (λ (node : Node). is_in_node node.decisions.items r) nodes (are.all r) in
      let here = All-contains HasBound nodes any.1 are.bounds (any.0, any.2, any.3) r fits keeps stays any.4 in
      let low = All-contains (λ (node : Node). bound ≤ node.bound) nodes any.1 least (any.0, any.2, any.3) in
      omega (arith, here, low)

  -- after a branching
  module _
      (nodes : List Node) (at : ℕ) (node one other with without : Node)
      (are : AreNodesOf c from given nodes) (inside : at < length nodes) (reads : node ≡ get_or nodes at node) (two : AreChildrenOf node one other)
      (with_is : with.decisions ≡ one.decisions) (without_is : without.decisions ≡ other.decisions) where
    abbrev more : List Node
    more = nodes ++ without ∷ []

    abbrev next : List Node
    next = set more at with

    longer : length more ≡ length nodes + 1
    longer = length_push nodes without

    as_long : length next ≡ length nodes + 1
    as_long = length-set more at with ∙ longer

    module _ (r : Rows) where
      abbrev Holds : Node → Bool
      Holds p = is_in_node p.decisions.items r

      with_here : Holds with ≡ true → list_any Holds next ≡ true
      with_here e = list_any_at Holds next at with (omega (arith, as_long, inside)) (ap Holds (get_or-set_same more at with with (omega (arith, longer, inside))) ∙ e)

      without_here : Holds without ≡ true → list_any Holds next ≡ true
      without_here e =
          list_any_at Holds next (length nodes) without (omega (arith, as_long))
          (ap Holds (get_or-set_other more at (length nodes) with without (λ same. omega (arith, same, inside)) ∙ get_or_push nodes without without (length nodes) refl) ∙ e)

      other_here : (k : ℕ) (p : Node) → k < length nodes → (k ≡ at → ⊥) → get_or nodes k p ≡ p → Holds p ≡ true → list_any Holds next ≡ true
      other_here k p within other is e =
          list_any_at Holds next k p (omega (arith, as_long, within)) (ap Holds (get_or-set_other more at k with p other ∙ get_or_append_left nodes (without ∷ []) p k within ∙ is) ∙ e)

      same_here : Holds node ≡ true → list_any Holds next ≡ true
      same_here e =
          elim (in_one node.decisions.items two.decision r e) [
            | inl f ↦ with_here (ap (λ (ds : ArrayVec Decision). is_in_node ds.items r) with_is ∙ ap (λ ds. is_in_node ds r) two.with_is ∙ f)
            | inr f ↦ without_here (ap (λ (ds : ArrayVec Decision). is_in_node ds.items r) without_is ∙ ap (λ ds. is_in_node ds r) two.without_is ∙ f)
          ]

      all_next : list_any Holds next ≡ true
      all_next =
          let any = Any-from_list_any Holds nodes (are.all r) in
          elim (cases_eq any.0 at) [
            | inl same ↦ same_here (ap Holds (reads ∙ get_or_default nodes at node any.1 inside ∙ ap (λ k. get_or nodes k any.1) (sym same) ∙ any.3) ∙ any.4)
            | inr other ↦ other_here any.0 any.1 any.2 other any.3 any.4
          ]

    pub branched : HasBound with → HasBound without → IsPriced c from given with → IsPriced c from given without → AreNodesOf c from given (set (nodes ++ without ∷ []) at with)
    branched bound_with bound_without priced_with priced_without = record {
      all = all_next;
      bounds = All-set HasBound (nodes ++ without ∷ []) at with bound_with (All-push HasBound nodes without are.bounds bound_without);
      priced = All-set (IsPriced c from given) (nodes ++ without ∷ []) at with priced_with (All-push (IsPriced c from given) nodes without are.priced priced_without);
    }

  -- after a node got a greater lower bound
  module _ (nodes : List Node) (at : ℕ) (node raised : Node) (are : AreNodesOf c from given nodes) (inside : at < length nodes) (reads : node ≡ get_or nodes at node) (same : raised.decisions ≡ node.decisions) where
    module _ (r : Rows) where
      abbrev In : Node → Bool
      In p = is_in_node p.decisions.items r

      raised_here : In node ≡ true → list_any In (set nodes at raised) ≡ true
      raised_here e =
          list_any_at In (set nodes at raised) at raised (omega (arith, length-set nodes at raised, inside))
          (ap In (get_or-set_same nodes at raised raised inside) ∙ ap (λ (ds : ArrayVec Decision). is_in_node ds.items r) same ∙ e)

      still_here : (k : ℕ) (p : Node) → k < length nodes → (k ≡ at → ⊥) → get_or nodes k p ≡ p → In p ≡ true → list_any In (set nodes at raised) ≡ true
      still_here k p within other is e =
          list_any_at In (set nodes at raised) k p (omega (arith, length-set nodes at raised, within)) (ap In (get_or-set_other nodes at k raised p other ∙ is) ∙ e)

      all_raised : list_any In (set nodes at raised) ≡ true
      all_raised =
          let any = Any-from_list_any In nodes (are.all r) in
          elim (cases_eq any.0 at) [
            | inl here ↦ raised_here (ap In (reads ∙ get_or_default nodes at node any.1 inside ∙ ap (λ k. get_or nodes k any.1) (sym here) ∙ any.3) ∙ any.4)
            | inr other ↦ still_here any.0 any.1 any.2 other any.3 any.4
          ]

    pub raised_nodes : HasBound raised → IsPriced c from given raised → AreNodesOf c from given (set nodes at raised)
    raised_nodes bound priced = record { all = all_raised; bounds = All-set HasBound nodes at raised bound are.bounds; priced = All-set (IsPriced c from given) nodes at raised priced are.priced }

  pub bound_at : (nodes : List Node) (at : ℕ) (node : Node) → AreNodesOf c from given nodes → at < length nodes → node ≡ get_or nodes at node → HasBound node
  bound_at nodes at node are inside reads = subst HasBound (sym reads) (All-get_or HasBound nodes at node inside are.bounds)

  pub priced_at : (nodes : List Node) (at : ℕ) (node : Node) → AreNodesOf c from given nodes → at < length nodes → node ≡ get_or nodes at node → IsPriced c from given node
  priced_at nodes at node are inside reads = subst (IsPriced c from given) (sym reads) (All-get_or (IsPriced c from given) nodes at node inside are.priced)

  -- the greater of a node's bound and one by dual prices
  pub raised_priced : (node raised : Node) (bound : ℕ) → raised.decisions ≡ node.decisions → raised.bound ≡ max node.bound bound → IsPriced c from given node → IsBoundByPrices c from given node.decisions.items bound → IsPriced c from given raised
  raised_priced node raised bound same is priced by = go (cases_lt node.bound bound) priced
    where
      items : raised.decisions.items ≡ node.decisions.items
      items = ap (λ (ds : ArrayVec Decision). ds.items) same

      go : (node.bound < bound) ⊎ (bound ≤ node.bound) → IsPriced c from given node → IsPriced c from given raised
      go (inl more) p =
          let now : bound ≡ raised.bound = omega (arith, is, more) in
          inr (record { first = node.decisions.items; rest = []; decisions = items ∙ sym (append-nil node.decisions.items); by_prices = subst (IsBoundByPrices c from given node.decisions.items) now by })
      go (inr less) (inl none) = inl (omega (arith, is, less, none))
      go (inr less) (inr p) =
          let now : node.bound ≡ raised.bound = omega (arith, is, less) in
          inr (record { first = p.first; rest = p.rest; decisions = items ∙ p.decisions; by_prices = subst (IsBoundByPrices c from given p.first) now p.by_prices })

  -- ---- both children of a node have its lower bound

  left : (a b : Bool) → (a && b) ≡ true → a ≡ true
  left true b e = refl
  left false b e = e

  front : (node : List Decision) (x : Decision) (r : Rows) → is_in_node (node ++ x ∷ []) r ≡ true → is_in_node node r ≡ true
  front node x r kept =
      let Kept : Decision → Bool = λ y. is_as_decided y (choice_on (row_of r y.nurse) y.day) in
      left (is_in_node node r) (list_all Kept (x ∷ [])) (sym (list_all-append Kept node (x ∷ [])) ∙ kept)

  one_bound : (node one : Node) (x : Decision) → one.decisions.items ≡ node.decisions.items ++ x ∷ [] → one.bound ≡ node.bound → HasBound node → HasBound one
  one_bound node one x is bound has r fits keeps stays kept =
      omega (arith, has r fits keeps stays (front node.decisions.items x r (sym (ap (λ ds. is_in_node ds r) is) ∙ kept)), bound)

  pub child_bounds : (nodes : List Node) (at : ℕ) (node one other : Node) → AreNodesOf c from given nodes → at < length nodes → node ≡ get_or nodes at node → AreChildrenOf node one other → HasBound one × HasBound other
  child_bounds nodes at node one other are inside reads two =
      let has : HasBound node = bound_at nodes at node are inside reads in
      (one_bound node one two.decision two.with_is two.with_bound has, one_bound node other (other_way two.decision) two.without_is two.without_bound has)

  one_priced : (node one : Node) (x : Decision) → one.decisions.items ≡ node.decisions.items ++ x ∷ [] → one.bound ≡ node.bound → IsPriced c from given node → IsPriced c from given one
  one_priced node one x is bound (inl none) = inl (bound ∙ none)
  one_priced node one x is bound (inr p) =
      inr (record {
        first = p.first;
        rest = p.rest ++ x ∷ [];
        decisions = is ∙ ap (λ ds. ds ++ x ∷ []) p.decisions ∙ append_assoc p.first p.rest (x ∷ []);
        by_prices = subst (IsBoundByPrices c from given p.first) (sym bound) p.by_prices;
      })

  pub child_prices : (nodes : List Node) (at : ℕ) (node one other : Node) → AreNodesOf c from given nodes → at < length nodes → node ≡ get_or nodes at node → AreChildrenOf node one other → IsPriced c from given one × IsPriced c from given other
  child_prices nodes at node one other are inside reads two =
      let has : IsPriced c from given node = priced_at nodes at node are inside reads in
      (one_priced node one two.decision two.with_is two.with_bound has, one_priced node other (other_way two.decision) two.without_is two.without_bound has)

-- ---- the first node with the least bound

-- the same among the first nodes
pub record IsLeastSoFar (nodes : List Node) (least seen : ℕ) : Type 0 where
  pub node : Node
  pub within : least < length nodes
  pub here : get_or nodes least node ≡ node
  pub before : (k : ℕ) (x : Node) → k < least → get_or nodes k x ≡ x → node.bound < x.bound
  pub so_far : (k : ℕ) (x : Node) → k < seen → get_or nodes k x ≡ x → node.bound ≤ x.bound

pub least-begin : (nodes : List Node) → 0 < length nodes → IsLeastSoFar nodes 0 1
least-begin [] some = absurd (omega (arith, some))
least-begin (x ∷ xs) some = record {
  node = x;
  within = omega (arith, some);
  here = refl;
  before = λ k y early is. absurd (omega (arith, early));
  so_far = λ k y early is. omega (arith, ap (λ (z : Node). z.bound) (subst (λ n. get_or (x ∷ xs) n y ≡ y) (none k early) is));
}
  where
    none : (k : ℕ) → k < 1 → k ≡ 0
    none k early = omega (arith, early)

module _ (nodes : List Node) (least at : ℕ) (now other : Node) (is : IsLeastSoFar nodes least at) (inside : at < length nodes) (reads : now ≡ get_or nodes at now) (there : other ≡ get_or nodes least other) where
  least_is : other ≡ is.node
  least_is = there ∙ get_or_default nodes least other is.node is.within ∙ is.here

  -- the next one is no less
  pub least-same : other.bound ≤ now.bound → IsLeastSoFar nodes least (at + 1)
  least-same less = record {
    node = is.node;
    within = is.within;
    here = is.here;
    before = is.before;
    so_far = λ k x early at_k. go k x at_k (cases_lt k at) early;
  }
    where
      go : (k : ℕ) (x : Node) → get_or nodes k x ≡ x → (k < at) ⊎ (at ≤ k) → k < at + 1 → is.node.bound ≤ x.bound
      go k x at_k (inl early) inside = is.so_far k x early at_k
      go k x at_k (inr late) inside_k =
          let same : k ≡ at = omega (arith, late, inside_k) in
          let one : x ≡ now = sym at_k ∙ ap (λ n. get_or nodes n x) same ∙ get_or_default nodes at x now inside ∙ sym reads in
          omega (arith, less, ap (λ (z : Node). z.bound) one, ap (λ (z : Node). z.bound) least_is)

  -- the next one is less
  pub least-next : now.bound < other.bound → IsLeastSoFar nodes at (at + 1)
  least-next more = record {
    node = now;
    within = inside;
    here = sym reads;
    before = λ k x early at_k. omega (arith, more, is.so_far k x early at_k, ap (λ (z : Node). z.bound) least_is);
    so_far = λ k x early at_k. go k x at_k (cases_lt k at) early;
  }
    where
      go : (k : ℕ) (x : Node) → get_or nodes k x ≡ x → (k < at) ⊎ (at ≤ k) → k < at + 1 → now.bound ≤ x.bound
      go k x at_k (inl early) inside_k = omega (arith, more, is.so_far k x early at_k, ap (λ (z : Node). z.bound) least_is)
      go k x at_k (inr late) inside_k =
          let same : k ≡ at = omega (arith, late, inside_k) in
          let one : x ≡ now = sym at_k ∙ ap (λ n. get_or nodes n x) same ∙ get_or_default nodes at x now inside ∙ sym reads in
          omega (arith, ap (λ (z : Node). z.bound) one)

-- all nodes are seen
pub least-end : (nodes : List Node) (least seen : ℕ) → IsLeastSoFar nodes least seen → length nodes ≤ seen → IsFirstLeastAt nodes least
least-end nodes least seen p all = record {
  node = p.node;
  within = p.within;
  here = p.here;
  before = p.before;
  all = All-from_get_or (λ (x : Node). p.node.bound ≤ x.bound) nodes p.node (λ k inside. p.so_far k (get_or nodes k p.node) (omega (arith, inside, all)) (sym (get_or_default nodes k p.node (get_or nodes k p.node) inside)));
}

-- its bound is the least
pub least_of : (nodes : List Node) (at : ℕ) (read : Node) → IsFirstLeastAt nodes at → read ≡ get_or nodes at read → IsLeastOf read.bound nodes
least_of nodes at read p reads =
    let same : read ≡ p.node = reads ∙ get_or_default nodes at read p.node p.within ∙ p.here in
    record {
      all = subst (λ (one : Node). All (λ (x : Node). one.bound ≤ x.bound) nodes) (sym same) p.all;
      one = p.node;
      here = (at, p.within, p.here);
      bound_is = ap (λ (z : Node). z.bound) same;
    }

-- if the least bound is below a total, so is that of this node
pub below_at : (nodes : List Node) (at total : ℕ) → IsFirstLeastAt nodes at → IsLeastBelow nodes total → IsBelowAt nodes at total
below_at nodes at total p below read here = below read.bound (least_of nodes at read p (sym here))
