-- Lists of partial rows of which one is dominated.
use Rattle.std.proofs.Common.{◌≡◌, ◌∙◌, ◌+◌, ◌<◌, ◌≤◌, ◌⊎◌, ℕ, zero, suc, inl, inr, ap, arith, refl, subst, sym, List, [], ◌∷◌, ◌++◌, length, Some, None, slice_index_or, slice_set}
use Rattle.std.proofs.lemmas.Bool.{cases_lt, lt-ltb, le-ltb}
use Rattle.roster_state.specs.Codes.{fits_sizes, sizes_of}
use Rattle.roster_offers.specs.declared.offer.Offer.{Offer}
use Rattle.roster_offers.specs.Cheapest.{Priced, cheaper, cheapest, raised}
use Rattle.roster_offers.specs.Offers.{best_of_offers_at}
use Rattle.roster_offers.proofs.Cheapest.{cheaper_none, cheapest_both, cost_or, keeps_first, takes_second}
use Rattle.roster_partial.specs.declared.rows.Entry.{Entry}
use Rattle.std.proofs.Math.Path.{transport}
use Rattle.roster_partial.specs.Rows.{Days, IsEntryOf, IsLinked, best_of, entry_numbered, row_of, within}

-- ---- of two, one may be dominated

module _ {X : Type 0} where
  -- if the second may be taken, the first costs no more, or is cheaper by at least this much
  abbrev pub Dominates : ℕ → (p q : Priced X) → Type 0
  Dominates more p q = (y : ℕ × X) → q ≡ Some y → (x : ℕ × X) × (p ≡ Some x) × (x.0 + more ≤ y.0)

  beaten_after : (x y : ℕ × X) (b : Priced X) → x.0 ≤ y.0 → cheaper (Some x) (cheaper b (Some y)) ≡ cheaper (Some x) b
  beaten_after x y None low = keeps_first x y low
  beaten_after x y (Some z) low = elim (cases_lt y.0 z.0) [
    | inl h ↦ ap (cheaper (Some x)) (takes_second z y h) ∙ keeps_first x y low ∙ sym (keeps_first x z (omega (arith, h, low)))
    | inr h ↦ ap (cheaper (Some x)) (keeps_first z y h)
  ]

  beaten_before : (y x : ℕ × X) (b : Priced X) → x.0 + 1 ≤ y.0 → cheaper (Some y) (cheaper b (Some x)) ≡ cheaper b (Some x)
  beaten_before y x None low = takes_second y x (omega (arith, low))
  beaten_before y x (Some z) low = elim (cases_lt x.0 z.0) [
    | inl h ↦ ap (cheaper (Some y)) (takes_second z x h) ∙ takes_second y x (omega (arith, low)) ∙ sym (takes_second z x h)
    | inr h ↦ ap (cheaper (Some y)) (keeps_first z x h) ∙ takes_second y z (omega (arith, h, low)) ∙ sym (keeps_first z x h)
  ]

  pub absorbed_after : (p b q : Priced X) → Dominates 0 p q → cheaper p (cheaper b q) ≡ cheaper p b
  absorbed_after p b None dominates = ap (cheaper p) (cheaper_none b)
  absorbed_after p b (Some y) dominates =
      let x = dominates y refl in
      ap (λ o. cheaper o (cheaper b (Some y))) x.1 ∙ beaten_after x.0 y b (omega (arith, x.2)) ∙ ap (λ o. cheaper o b) (sym x.1)

  pub absorbed_before : (q b p : Priced X) → Dominates 1 p q → cheaper q (cheaper b p) ≡ cheaper b p
  absorbed_before None b p dominates = refl
  absorbed_before (Some y) b p dominates =
      let x = dominates y refl in
      ap (λ o. cheaper (Some y) (cheaper b o)) x.1 ∙ beaten_before y x.0 b x.2 ∙ ap (cheaper b) (sym x.1)

module _ {Y X : Type 0} (f : Y → Priced X) where
  without_later : (one other : Y) (between : List Y) → Dominates 0 (f one) (f other) → cheapest f (one ∷ between ++ other ∷ []) ≡ cheapest f (one ∷ between)
  without_later one other between dominates =
      ap (cheaper (f one)) (cheapest_both f between (other ∷ []) ∙ ap (cheaper (cheapest f between)) (cheaper_none (f other)))
      ∙ absorbed_after (f one) (cheapest f between) (f other) dominates

  without_earlier : (one other : Y) (between : List Y) → Dominates 1 (f one) (f other) → cheapest f (other ∷ between ++ one ∷ []) ≡ cheapest f (between ++ one ∷ [])
  without_earlier one other between dominates =
      let last = cheapest_both f between (one ∷ []) ∙ ap (cheaper (cheapest f between)) (cheaper_none (f one)) in
      ap (cheaper (f other)) last ∙ absorbed_before (f other) (cheapest f between) (f one) dominates ∙ sym last

  pub new_dominated : (rows : List Y) (index : ℕ) (d row : Y) → index < length rows → Dominates 0 (f (slice_index_or rows index d)) (f row) → cheapest f rows ≡ cheapest f (rows ++ row ∷ [])
  new_dominated [] index d row inside dominates = absurd (omega (arith, inside))
  new_dominated (y ∷ ys) zero d row inside dominates = sym (without_later y row ys dominates)
  new_dominated (y ∷ ys) (suc index) d row inside dominates = ap (cheaper (f y)) (new_dominated ys index d row (omega (arith, inside)) dominates)

  pub old_dominated : (rows : List Y) (index : ℕ) (d row dropped : Y) → index < length rows → f dropped ≡ None → Dominates 1 (f row) (f (slice_index_or rows index d)) → cheapest f (slice_set rows index dropped ++ row ∷ []) ≡ cheapest f (rows ++ row ∷ [])
  old_dominated [] index d row dropped inside none dominates = absurd (omega (arith, inside))
  old_dominated (y ∷ ys) zero d row dropped inside none dominates = ap (λ o. cheaper o (cheapest f (ys ++ row ∷ []))) none ∙ sym (without_earlier row y ys dominates)
  old_dominated (y ∷ ys) (suc index) d row dropped inside none dominates = ap (cheaper (f y)) (old_dominated ys index d row dropped (omega (arith, inside)) none dominates)

-- ---- within a limit

module _ {X : Type 0} (limit : ℕ) where
  pub beyond : (p : ℕ × X) → limit < p.0 → within limit (Some p) ≡ None
  beyond p h = rw (lt-ltb limit p.0 h)

  pub stays_within : (p : ℕ × X) → p.0 ≤ limit → within limit (Some p) ≡ Some p
  stays_within p h = rw (le-ltb limit p.0 h)

  -- what is within the limit exists, and costs at most that
  pub is_within : (p : Priced X) (y : ℕ × X) → within limit p ≡ Some y → (p ≡ Some y) × (y.0 ≤ limit)
  is_within None y is = absurd cc
  is_within (Some p) y is = elim (cases_lt limit p.0) [
    | inl h ↦ absurd (none_some (sym (beyond p h) ∙ is))
    | inr h ↦ (sym (stays_within p h) ∙ is, omega (arith, h, ap (cost_or 0) (sym (stays_within p h) ∙ is)))
  ]
    where
      none_some : None ≡ Some y → ⊥
      none_some e = absurd cc

  within_both : (p q : Priced X) → within limit (cheaper p q) ≡ cheaper (within limit p) (within limit q)
  within_both None q = refl
  within_both (Some p) None = sym (cheaper_none (within limit (Some p)))
  within_both (Some p) (Some q) = go (cases_lt q.0 p.0) (cases_lt limit p.0) (cases_lt limit q.0)
    where
      go : (q.0 < p.0) ⊎ (p.0 ≤ q.0) → (limit < p.0) ⊎ (p.0 ≤ limit) → (limit < q.0) ⊎ (q.0 ≤ limit) → within limit (cheaper (Some p) (Some q)) ≡ cheaper (within limit (Some p)) (within limit (Some q))
      go (inl h) (inl k) (inl l) = rw (takes_second p q h, beyond p k, beyond q l)
      go (inl h) (inl k) (inr l) = rw (takes_second p q h, beyond p k, stays_within q l)
      go (inl h) (inr k) (inl l) = absurd (omega (arith, h, k, l))
      go (inl h) (inr k) (inr l) = rw (takes_second p q h, stays_within p k, stays_within q l, takes_second p q h)
      go (inr h) (inl k) (inl l) = rw (keeps_first p q h, beyond p k, beyond q l)
      go (inr h) (inl k) (inr l) = absurd (omega (arith, h, k, l))
      go (inr h) (inr k) (inl l) = rw (keeps_first p q h, stays_within p k, beyond q l)
      go (inr h) (inr k) (inr l) = rw (keeps_first p q h, stays_within p k, stays_within q l, keeps_first p q h)

  pub within_cheapest : {Y : Type 0} (f : Y → Priced X) (ys : List Y) → within limit (cheapest f ys) ≡ cheapest (λ y. within limit (f y)) ys
  within_cheapest f [] = refl
  within_cheapest f (y ∷ ys) = within_both (f y) (cheapest f ys) ∙ ap (cheaper (within limit (f y))) (within_cheapest f ys)

-- ---- entries

-- an entry whose own cost is above the limit is pruned
pub pruned_is_none : (days : Days) (e : Entry) → days.limit < e.cost → best_of days e ≡ None
unfolding best_of
pruned_is_none days e pruned = go (best_of_offers_at days.case days.nurse days.scale days.offers days.left days.day e.state)
  where
    go : (o : Priced (List Offer)) → within days.limit (raised e.cost (λ rest. (row_of days e).offers ++ rest) o) ≡ None
    go None = refl
    go (Some p) = beyond days.limit (e.cost + p.0, (row_of days e).offers ++ p.1) (omega (arith, pruned))

-- of two entries with the same state
pub same_dominates : (days : Days) (more : ℕ) (one other : Entry) → one.state ≡ other.state → one.cost + more ≤ other.cost → Dominates more (best_of days one) (best_of days other)
unfolding best_of
same_dominates days more one other same low y is =
    by (best_of_offers_at days.case days.nurse days.scale days.offers days.left days.day other.state) (best_of_offers_at days.case days.nurse days.scale days.offers days.left days.day one.state) (ap (best_of_offers_at days.case days.nurse days.scale days.offers days.left days.day) same) (is_within days.limit (raised other.cost (λ rest. (row_of days other).offers ++ rest) (best_of_offers_at days.case days.nurse days.scale days.offers days.left days.day other.state)) y is)
  where
    Found : Priced (List Offer) → Type 0
    Found mine = (x : ℕ × List Offer) × (within days.limit (raised one.cost (λ rest. (row_of days one).offers ++ rest) mine) ≡ Some x) × (x.0 + more ≤ y.0)

    by : (its mine : Priced (List Offer)) → mine ≡ its → (raised other.cost (λ rest. (row_of days other).offers ++ rest) its ≡ Some y) × (y.0 ≤ days.limit) → Found mine
    by None mine e found = absurd (no_some found.0)
      where
        no_some : None ≡ Some y → ⊥
        no_some e = absurd cc
    by (Some p) mine e found =
        let cost : other.cost + p.0 ≡ y.0 = ap (cost_or 0) found.0 in
        subst Found (sym e) ((one.cost + p.0, (row_of days one).offers ++ p.1), stays_within days.limit (one.cost + p.0, (row_of days one).offers ++ p.1) (omega (arith, cost, low, found.1)), omega (arith, cost, low))

-- an entry with its cost changed
pub linked_by : (days : Days) (d : ℕ) (e dropped : Entry) → dropped.before ≡ e.before → dropped.offer ≡ e.offer → IsLinked days.offers days.earlier d e → IsLinked days.offers days.earlier d dropped
linked_by days zero e dropped before offer is = is
linked_by days (suc d) e dropped before offer is = transport (λ i. (sym before i < length days.earlier) × (sym offer i < length (days.offers d)) × IsLinked days.offers days.earlier d (entry_numbered days.earlier (sym before i))) is

pub marked_entry : (days : Days) (e dropped : Entry) → IsEntryOf days e → dropped.state ≡ e.state → dropped.before ≡ e.before → dropped.offer ≡ e.offer → IsEntryOf days dropped
marked_entry days e dropped is state before offer = record {
  fits = ap (fits_sizes (sizes_of days.case days.nurse)) state ∙ is.fits;
  linked = linked_by days days.day e dropped before offer is.linked;
}
