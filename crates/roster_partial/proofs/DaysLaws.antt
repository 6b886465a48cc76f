-- The search over all days: the partial row of no days, the rows in the end, and the row that is read
-- backward.
use Rattle.std.proofs.Common.{◌≡◌, ◌∙◌, ◌+◌, ◌-◌, ◌<◌, ◌≤◌, ℕ, zero, suc, ap, append-nil, arith, refl, sym, subst, drop, length, slice_set, take, List, [], ◌∷◌, ◌++◌, Option, Some, None}
use Rattle.std.specs.Prelude.{option_map}
use Rattle.roster_instance.specs.declared.choice.Choice.{Choice}
use Rattle.roster_instance.specs.Meaning.{day_count}
use Rattle.roster_instance.specs.Rosters.{Row}
use Rattle.roster_rules.specs.Prefix.{summary_of}
use Rattle.roster_offers.specs.declared.offer.Offer.{Offer}
use Rattle.roster_offers.specs.Cheapest.{Priced, cheaper, raised}
use Rattle.roster_offers.specs.Offers.{best_of_offers_at, choices_of, end_cost_at}
use Rattle.roster_offers.specs.Lists.{best_over_at, offers_on}
use Rattle.roster_offers.proofs.Cheapest.{keeps_first, takes_second}
use Rattle.roster_partial.specs.declared.limited.LimitedSearch.{LimitedSearch}
use Rattle.roster_partial.specs.declared.rows.Entry.{Entry}
use Rattle.roster_partial.specs.Rows.{IsLinked, best_of, entry_numbered, offer_numbered, offers_to, within}
use Rattle.roster_partial.specs.Searches.{days_on}

-- ---- the partial row of no days

unchanged : {X : Type 0} (p : Priced X) → raised 0 (λ x. x) p ≡ p
unchanged None = refl
unchanged (Some p) = ap (λ cost. Some (cost, p.1)) (omega arith)

-- each row begins with it
pub best_at_start : (limited : LimitedSearch) (e : Entry) → e.state ≡ summary_of limited.completion_bounds.search.case.now limited.completion_bounds.search.nurse [] → e.cost ≡ 0 → best_of (days_on limited 0 []) e ≡ within limited.limit (best_over_at limited.completion_bounds.search.case.now limited.completion_bounds.search.nurse limited.completion_bounds.search.scale (offers_on limited.completion_bounds.search.offers.now))
unfolding best_of
best_at_start limited e state cost =
    let c = limited.completion_bounds.search.case.now in
    let n = limited.completion_bounds.search.nurse in
    let scale = limited.completion_bounds.search.scale in
    let offers = offers_on limited.completion_bounds.search.offers.now in
    let all : day_count c - 0 ≡ day_count c = omega arith in
    (λ i. within limited.limit (raised (cost i) (λ rest. rest) (best_of_offers_at c n scale offers (all i) 0 (state i))))
    ∙ ap (within limited.limit) (unchanged (best_over_at c n scale offers))

-- ---- in the end

-- a partial row of all days is a row, whose cost is its cost and what is owed in the end
pub best_at_last : (limited : LimitedSearch) (earlier : List Entry) (e : Entry) → best_of (days_on limited (day_count limited.completion_bounds.search.case.now) earlier) e ≡ within limited.limit (Some (e.cost + end_cost_at limited.completion_bounds.search.case.now limited.completion_bounds.search.nurse limited.completion_bounds.search.scale e.state, offers_to (offers_on limited.completion_bounds.search.offers.now) earlier (day_count limited.completion_bounds.search.case.now) e))
unfolding best_of
best_at_last limited earlier e =
    let c = limited.completion_bounds.search.case.now in
    let n = limited.completion_bounds.search.nurse in
    let scale = limited.completion_bounds.search.scale in
    let offers = offers_on limited.completion_bounds.search.offers.now in
    let row = offers_to offers earlier (day_count c) e in
    let none : day_count c - day_count c ≡ 0 = omega arith in
    (λ i. within limited.limit (raised e.cost (λ rest. row ++ rest) (best_of_offers_at c n scale offers (none i) (day_count c) e.state)))
    ∙ ap (λ xs. within limited.limit (Some (e.cost + end_cost_at c n scale e.state, xs))) (append-nil row)

-- the first of the cheapest of some entries is given by its cost and its index
module _ {X : Type 0} (row : ℕ → X) where
  abbrev pub listed : Option (ℕ × ℕ) → Priced X
  listed least = option_map (λ x. (x.0, row x.1)) least

  -- with one more
  module _ (cost index : ℕ) (more : Priced X) (is : more ≡ Some (cost, row index)) (least : Option (ℕ × ℕ)) where
    pub dearer_more : (x : ℕ × ℕ) → least ≡ Some x → x.0 ≤ cost → listed least ≡ cheaper (listed least) more
    dearer_more x was low = subst (λ o. listed o ≡ cheaper (listed o) more) (sym was) (sym (ap (cheaper (listed (Some x))) is ∙ keeps_first (x.0, row x.1) (cost, row index) low))

    pub cheaper_more : (x : ℕ × ℕ) → least ≡ Some x → cost < x.0 → listed (Some (cost, index)) ≡ cheaper (listed least) more
    cheaper_more x was low = subst (λ o. listed (Some (cost, index)) ≡ cheaper (listed o) more) (sym was) (sym (ap (cheaper (listed (Some x))) is ∙ takes_second (x.0, row x.1) (cost, row index) low))

    pub first_more : least ≡ None → listed (Some (cost, index)) ≡ cheaper (listed least) more
    first_more was = subst (λ o. listed (Some (cost, index)) ≡ cheaper (listed o) more) (sym was) (sym is)

-- ---- the row, read backward

-- the choices from a day on are read, and the others are those of this entry
pub record IsReadFrom (offers : ℕ → List Offer) (earlier : List Entry) (days : ℕ) (last : Entry) (day : ℕ) (e : Entry) (row : Row) : Type 0 where
  pub linked : IsLinked offers earlier day e
  pub split : choices_of (offers_to offers earlier days last) ≡ choices_of (offers_to offers earlier day e) ++ drop day (take days row)

one_choice_more : (xs : List Offer) (x : Offer) (rest : Row) → choices_of (xs ++ x ∷ []) ++ rest ≡ choices_of xs ++ x.choice ∷ rest
one_choice_more [] x rest = refl
one_choice_more (y ∷ xs) x rest = ap (λ zs. y.choice ∷ zs) (one_choice_more xs x rest)

-- a choice is set, and those after it stay
set_before : (row : Row) (day days : ℕ) (choice : Choice) → day < days → days ≤ length row → drop day (take days (slice_set row day choice)) ≡ choice ∷ drop (suc day) (take days row)
set_before [] day days choice before all = absurd (omega (arith, before, all))
set_before (x ∷ row) day zero choice before all = absurd (omega (arith, before))
set_before (x ∷ row) zero (suc days) choice before all = refl
set_before (x ∷ row) (suc day) (suc days) choice before all = set_before row day days choice (omega (arith, before)) (omega (arith, all))

module _ (offers : ℕ → List Offer) (earlier : List Entry) (days : ℕ) (last : Entry) where
  pub read_before : (day : ℕ) (e : Entry) (row : Row) → day < days → days ≤ length row → IsReadFrom offers earlier days last (suc day) e row
      → IsReadFrom offers earlier days last day (entry_numbered earlier e.before) (slice_set row day (offer_numbered (offers day) e.offer).choice)
  read_before day e row before long read =
      let x = offer_numbered (offers day) e.offer in
      let front = offers_to offers earlier day (entry_numbered earlier e.before) in
      record {
        linked = read.linked.2;
        split =
            read.split
            ∙ one_choice_more front x (drop (suc day) (take days row))
            ∙ ap (λ rest. choices_of front ++ rest) (sym (set_before row day days x.choice before long));
      }
