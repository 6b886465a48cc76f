-- One day more for all partial rows: each is extended by each offer.
use Rattle.std.proofs.Common.{◌≡◌, ◌∙◌, ◌+◌, ◌-◌, ◌*◌, ◌<◌, ◌≤◌, ℕ, zero, suc, ap, arith, refl, sym, subst, List, [], ◌∷◌, ◌++◌, length, take, drop, slice_index_or}
use Rattle.std.specs.List.{All}
use Rattle.std.proofs.lemmas.Nat.{mul-le}
use Rattle.std.proofs.lemmas.List.{get_or-drop, get_or-take, length-drop, length-take-le}
use Rattle.roster_instance.specs.Meaning.{day_count}
use Rattle.roster_offers.specs.declared.offer.Offer.{Offer}
use Rattle.roster_offers.specs.ByStates.{best_after}
use Rattle.roster_offers.specs.Cheapest.{Priced, cheaper, cheapest, raised}
use Rattle.roster_offers.specs.Offers.{best_of_offers_at, offer_transition_at}
use Rattle.roster_offers.proofs.Cheapest.{cheaper_none, cheapest_raised, grouped}
use Rattle.roster_partial.specs.declared.limited.LimitedSearch.{LimitedSearch}
use Rattle.roster_partial.specs.declared.rows.Entry.{Entry}
use Rattle.roster_partial.specs.Rows.{Days, IsEntryOf, IsLinked, best_by, best_of, entry_numbered, offer_numbered, offers_to, within}
use Rattle.roster_partial.specs.Searches.{days_on}
use Rattle.roster_partial.proofs.RowLaws.{within_cheapest}

-- ---- the cheapest of a list, one element after the other

module _ {Y X : Type 0} where
  -- with the next element
  pub cheapest_next : (f : Y → Priced X) (ys : List Y) (k : ℕ) (d : Y) → k < length ys → cheapest f (take (suc k) ys) ≡ cheaper (cheapest f (take k ys)) (f (slice_index_or ys k d))
  cheapest_next f [] k d inside = absurd (omega (arith, inside))
  cheapest_next f (y ∷ ys) zero d inside = cheaper_none (f y)
  cheapest_next f (y ∷ ys) (suc k) d inside = ap (cheaper (f y)) (cheapest_next f ys k d (omega (arith, inside))) ∙ sym (grouped (f y) (cheapest f (take k ys)) (f (slice_index_or ys k d)))

  -- by functions that are the same on the list
  cheapest_same : (f g : Y → Priced X) (ys : List Y) → All (λ y. f y ≡ g y) ys → cheapest f ys ≡ cheapest g ys
  cheapest_same f g [] same = refl
  cheapest_same f g (y ∷ ys) same = λ i. cheaper (same zero y (omega arith) i) (cheapest_same f g ys (λ k d inside. same (suc k) d (omega (arith, inside))) i)

  -- after a start, with the next element
  pub gathered : (f : Y → Priced X) (ys : List Y) (k : ℕ) (d : Y) (start so_far more : Priced X) → k < length ys → so_far ≡ cheaper start (cheapest f (take k ys)) → more ≡ cheaper so_far (f (slice_index_or ys k d)) → more ≡ cheaper start (cheapest f (take (k + 1) ys))
  gathered f ys k d start so_far more inside is next =
      let one : suc k ≡ k + 1 = omega arith in
      next ∙ ap (λ o. cheaper o (f (slice_index_or ys k d))) is ∙ grouped start (cheapest f (take k ys)) (f (slice_index_or ys k d))
      ∙ ap (cheaper start) (sym (cheapest_next f ys k d inside) ∙ ap (λ n. cheapest f (take n ys)) one)

-- ---- a partial row by all offers of its day

-- if as many days are left after day d as `days` says
by_each_offer : (days : Days) (d : ℕ) (e : Entry) → cheapest (best_by days d e) (days.offers d) ≡ best_of (record days { left = suc days.left; day = d }) e
unfolding best_of best_by
by_each_offer days d e =
    let onward : List Offer → List Offer = λ rest. offers_to days.offers days.earlier d e ++ rest in
    let after : Offer → Priced (List Offer) = λ x. best_after x (offer_transition_at days.case days.nurse days.scale d e.state x) (best_of_offers_at days.case days.nurse days.scale days.offers days.left (suc d)) in
    sym (within_cheapest days.limit (λ x. raised e.cost onward (after x)) (days.offers d)) ∙ ap (within days.limit) (cheapest_raised e.cost onward after (days.offers d))

-- the best row that begins with the partial row is that of the day after, by one of the offers
pub by_offers : (limited : LimitedSearch) (day : ℕ) (earlier : List Entry) (e : Entry) → day < day_count limited.completion_bounds.search.case.now → cheapest (best_by (days_on limited (suc day) earlier) day e) ((days_on limited day earlier).offers day) ≡ best_of (days_on limited day earlier) e
by_offers limited day earlier e before =
    let left : suc (day_count limited.completion_bounds.search.case.now - suc day) ≡ day_count limited.completion_bounds.search.case.now - day = omega (arith, before) in
    by_each_offer (days_on limited (suc day) earlier) day e ∙ ap (λ n. best_of (record (days_on limited day earlier) { left = n }) e) left

-- ---- a list with more entries at its end

module _ (offers : ℕ → List Offer) (xs ys : List Entry) (same : (k : ℕ) → k < length xs → entry_numbered xs k ≡ entry_numbered ys k) where
  same_offers_to : (d : ℕ) (e : Entry) → IsLinked offers xs d e → offers_to offers xs d e ≡ offers_to offers ys d e
  same_offers_to zero e is = refl
  same_offers_to (suc d) e is = ap (λ o. o ++ offer_numbered (offers d) e.offer ∷ []) (same_offers_to d (entry_numbered xs e.before) is.2 ∙ ap (offers_to offers ys d) (same e.before is.0))

  linked_further : length xs ≤ length ys → (d : ℕ) (e : Entry) → IsLinked offers xs d e → IsLinked offers ys d e
  linked_further longer zero e is = is
  linked_further longer (suc d) e is = (omega (arith, is.0, longer), is.1, subst (IsLinked offers ys d) (same e.before is.0) (linked_further longer d (entry_numbered xs e.before) is.2))

module _ (days : Days) (ys : List Entry) (same : (k : ℕ) → k < length days.earlier → entry_numbered days.earlier k ≡ entry_numbered ys k) where
  best_further : (e : Entry) → IsEntryOf days e → best_of days e ≡ best_of (record days { earlier = ys }) e
  unfolding best_of
  best_further e is = ap (λ before. within days.limit (raised e.cost (λ rest. before ++ rest) (best_of_offers_at days.case days.nurse days.scale days.offers days.left days.day e.state))) (same_offers_to days.offers days.earlier ys same days.day e is.linked)

  entry_further : length days.earlier ≤ length ys → (e : Entry) → IsEntryOf days e → IsEntryOf (record days { earlier = ys }) e
  entry_further longer e is = record { fits = is.fits; linked = linked_further days.offers days.earlier ys same longer days.day e is.linked }

-- an index among the entries of the day, counted from the first of them
index_after : (first : ℕ) (rows : List Entry) (before : ℕ) (d : Entry) → first ≤ before → slice_index_or (drop first rows) (before - first) d ≡ slice_index_or rows before d
index_after first rows before d from =
    let there : first + (before - first) ≡ before = omega (arith, from) in
    get_or-drop first rows (before - first) d ∙ ap (λ k. slice_index_or rows k d) there

module _ (limited : LimitedSearch) (day first : ℕ) (rows : List Entry) (inside : first ≤ length rows) where
  same_front : (k : ℕ) → k < length (take first rows) → entry_numbered (take first rows) k ≡ entry_numbered rows k
  same_front k below = get_or-take first rows k _ (omega (arith, below, length-take-le first rows inside))

  -- an entry that names entries of the front names the same ones of the whole list
  pub entry_of_all : (e : Entry) → IsEntryOf (days_on limited day (take first rows)) e → IsEntryOf (days_on limited day rows) e
  entry_of_all e is = entry_further (days_on limited day (take first rows)) rows same_front (omega (arith, length-take-le first rows inside, inside)) e is

  -- and the cheapest of such entries is the same
  pub cheapest_of_all : (list : List Entry) → All (IsEntryOf (days_on limited day (take first rows))) list → cheapest (best_of (days_on limited day (take first rows))) list ≡ cheapest (best_of (days_on limited day rows)) list
  cheapest_of_all list are = cheapest_same (best_of (days_on limited day (take first rows))) (best_of (days_on limited day rows)) list (λ k d below. best_further (days_on limited day (take first rows)) rows same_front (slice_index_or list k d) (are k d below))

  -- a partial row of the day
  pub entry_of_day : (before : ℕ) → first ≤ before → before < length rows → All (IsEntryOf (days_on limited day (take first rows))) (drop first rows) → IsEntryOf (days_on limited day rows) (entry_numbered rows before)
  entry_of_day before from below are =
      entry_of_all (entry_numbered rows before) (subst (IsEntryOf (days_on limited day (take first rows))) (index_after first rows before _ from) (are (before - first) _ (omega (arith, from, below, length-drop first rows))))

-- ---- one partial row after the other

-- with the partial rows up to one
pub next_entry : {X : Type 0} (f : Entry → Priced X) (rows : List Entry) (first before : ℕ) (so_far more : Priced X) → first ≤ before → before < length rows → so_far ≡ cheapest f (take (before - first) (drop first rows)) → more ≡ cheaper so_far (f (entry_numbered rows before)) → more ≡ cheapest f (take (before + 1 - first) (drop first rows))
next_entry f rows first before so_far more from below is next =
    let k = before - first in
    let day = drop first rows in
    let inside : k < length day = omega (arith, from, below, length-drop first rows) in
    let one : suc k ≡ before + 1 - first = omega (arith, from) in
    next ∙ ap (λ o. cheaper o (f (entry_numbered rows before))) is
    ∙ ap (λ e. cheaper (cheapest f (take k day)) (f e)) (sym (index_after first rows before _ from))
    ∙ sym (cheapest_next f day k _ inside)
    ∙ ap (λ n. cheapest f (take n day)) one

-- at most one extension more for each offer, with one partial row more
pub count_more : (start now new size n m : ℕ) → m ≡ n + 1 → now ≤ start + n * size → new ≤ now + size → new ≤ start + m * size
count_more start now new size n m one so_far next = omega (arith, ap (λ k. k * size) one, so_far, next)

-- if another partial row is to come, its extensions are still left
pub extensions_left : (start now n m size most : ℕ) → n < m → now ≤ start + n * size → start + m * size ≤ most → now + size ≤ most
extensions_left start now n m size most more so_far all =
    let next : (n + 1) * size ≤ m * size = mul-le (n + 1) size m size (omega (arith, more)) (omega arith) in
    omega (arith, next, so_far, all)
