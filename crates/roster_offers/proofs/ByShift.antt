-- One offer for each shift, the first of the cheapest: the best row is the same, and a day has few offers.
use Rattle.std.proofs.Common.{◌≡◌, ◌∙◌, ◌+◌, ◌<◌, ◌≤◌, ◌⊎◌, ℕ, suc, zero, Bool, true, false, inl, inr, ap, append_assoc, arith, if◌then◌else◌, refl, subst, sym, List, [], ◌∷◌, ◌++◌, drop, filter, length, map, slice_index_or, take, Option, Some, None, IsSome, IfSome, Contains, is_some}
use Rattle.std.specs.List.{All, flat_map, range_with_len}
use Rattle.std.specs.Option.{option_to_list}
use Rattle.std.proofs.lemmas.Bool.{cases_lt, eq-eqb, eqb-true, le-ltb, lt-ltb, true≢false}
use Rattle.std.proofs.lemmas.List.{append-nil, length-append, take-append-drop, take_more}
use Rattle.std.proofs.lemmas.List.Elements.{All-cons, All-contains, All-contains_itself, All-head, All-nil, All-tail}
use Rattle.std.proofs.lemmas.List.FromFn.{length-range_with_len}
use Rattle.roster_instance.specs.declared.choice.Choice.{Choice}
use Rattle.roster_instance.specs.declared.choice.Choice.TheVariants.{Off, Work}
use Rattle.roster_instance.specs.declared.choice.Shift.{Shift}
use Rattle.roster_instance.specs.Choices.{shift_of}
use Rattle.roster_instance.specs.Meaning.{Meaning, shift_at, shift_count, skill_at, skill_count}
use Rattle.roster_rules.specs.Prefix.{Summary}
use Rattle.roster_instance.specs.Rosters.{Rows}
use Rattle.roster_laws.specs.OneRow.{is_offered, price}
use Rattle.roster_state.specs.Transition.{end_cost_of, transition_of}
use Rattle.roster_offers.specs.declared.offer.Offer.{Offer}
use Rattle.roster_offers.specs.Cheapest.{Priced, cheaper, cheapest, raised}
use Rattle.roster_offers.specs.ByStates.{Transitions, best_after, best_from}
use Rattle.roster_offers.specs.Offers.{best_of_offers, best_of_offers_at, cheaper_offer, cheapest_by_shift, dearer, end_cost_at, in_front, offer_at, offers_by, same_shift, scaled, shift_offers}
use Rattle.roster_offers.proofs.Cheapest.{grouped, keeps_first, takes_second}

-- ---- the same shift

same_is : (s t : Option Shift) → same_shift s t ≡ true → s ≡ t
same_is None None e = refl
same_is None (Some t) e = elim (true≢false (sym e)) [ ]
same_is (Some s) None e = elim (true≢false (sym e)) [ ]
same_is (Some s) (Some t) e = ap (λ m. Some (shift_at m)) (eqb-true s.0 t.0 e)

pub same_self : (s : Option Shift) → same_shift s s ≡ true
same_self None = refl
same_self (Some s) = eq-eqb s.0 s.0 refl

abbrev shift : Offer → Option Shift
shift x = shift_of x.choice

abbrev alike : Offer → Offer → Bool
alike x y = same_shift (shift x) (shift y)

-- ---- an offer in front of others

front_other : (x y : Offer) (ys : List Offer) → alike x y ≡ false → in_front x (y ∷ ys) ≡ x ∷ y ∷ ys
front_other x y ys e = rw e

front_first : (x y : Offer) (ys : List Offer) → alike x y ≡ true → x.price ≤ y.price → in_front x (y ∷ ys) ≡ x ∷ ys
front_first x y ys e h = rw (e, le-ltb y.price x.price h)

front_second : (x y : Offer) (ys : List Offer) → alike x y ≡ true → y.price < x.price → in_front x (y ∷ ys) ≡ y ∷ ys
front_second x y ys e h = rw (e, lt-ltb y.price x.price h)

-- ---- the cheapest of all is the cheapest of these

-- if of two offers for one shift the cheaper is the better one, of equally cheap ones the first
module _ {X : Type 0} (f : Offer → Priced X) (first : (x y : Offer) → shift x ≡ shift y → x.price ≤ y.price → cheaper (f x) (f y) ≡ f x) (second : (x y : Offer) → shift x ≡ shift y → y.price < x.price → cheaper (f x) (f y) ≡ f y) where
  cheapest_front : (x : Offer) (ys : List Offer) → cheapest f (in_front x ys) ≡ cheaper (f x) (cheapest f ys)
  cheapest_front x [] = refl
  cheapest_front x (y ∷ ys) = go (alike x y) refl (cases_lt y.price x.price)
    where
      go : (b : Bool) → alike x y ≡ b → (y.price < x.price) ⊎ (x.price ≤ y.price) → cheapest f (in_front x (y ∷ ys)) ≡ cheaper (f x) (cheaper (f y) (cheapest f ys))
      go false e h = ap (cheapest f) (front_other x y ys e)
      go true e (inl h) =
          ap (cheapest f) (front_second x y ys e h)
          ∙ ap (λ p. cheaper p (cheapest f ys)) (sym (second x y (same_is (shift x) (shift y) e) h))
          ∙ grouped (f x) (f y) (cheapest f ys)
      go true e (inr h) =
          ap (cheapest f) (front_first x y ys e h)
          ∙ ap (λ p. cheaper p (cheapest f ys)) (sym (first x y (same_is (shift x) (shift y) e) h))
          ∙ grouped (f x) (f y) (cheapest f ys)

  cheapest_same : (xs : List Offer) → cheapest f (cheapest_by_shift xs) ≡ cheapest f xs
  unfolding cheapest_by_shift
  cheapest_same [] = refl
  cheapest_same (x ∷ xs) = cheapest_front x (cheapest_by_shift xs) ∙ ap (cheaper (f x)) (cheapest_same xs)

-- ---- the best row

module _ (x y : Offer) (rest : Summary → Priced (List Offer)) where
  abbrev by : Offer → Option (Summary × ℕ) → Priced (List Offer)
  by o transition = best_after o (dearer o.price transition) rest

  cheaper_first : x.price ≤ y.price → (transition : Option (Summary × ℕ)) → cheaper (by x transition) (by y transition) ≡ by x transition
  cheaper_first h None = refl
  cheaper_first h (Some t) = go (rest t.0)
    where
      go : (p : Priced (List Offer)) → cheaper (raised (x.price + t.1) (λ xs. x ∷ xs) p) (raised (y.price + t.1) (λ ys. y ∷ ys) p) ≡ raised (x.price + t.1) (λ xs. x ∷ xs) p
      go None = refl
      go (Some q) = keeps_first (x.price + t.1 + q.0, x ∷ q.1) (y.price + t.1 + q.0, y ∷ q.1) (omega (arith, h))

  cheaper_second : y.price < x.price → (transition : Option (Summary × ℕ)) → cheaper (by x transition) (by y transition) ≡ by y transition
  cheaper_second h None = refl
  cheaper_second h (Some t) = go (rest t.0)
    where
      go : (p : Priced (List Offer)) → cheaper (raised (x.price + t.1) (λ xs. x ∷ xs) p) (raised (y.price + t.1) (λ ys. y ∷ ys) p) ≡ raised (y.price + t.1) (λ ys. y ∷ ys) p
      go None = refl
      go (Some q) = takes_second (x.price + t.1 + q.0, x ∷ q.1) (y.price + t.1 + q.0, y ∷ q.1) (omega (arith, h))

module _ (step : ℕ → Summary → Option Shift → Option (Summary × ℕ)) (finish : Summary → ℕ) where
  -- a transition that depends on the offer's shift and price alone
  abbrev by_step : Transitions Summary Offer
  by_step d s x = dearer x.price (step d s (shift x))

  one_day : (d : ℕ) (s : Summary) (rest : Summary → Priced (List Offer)) (xs : List Offer) → cheapest (λ x. best_after x (by_step d s x) rest) (cheapest_by_shift xs) ≡ cheapest (λ x. best_after x (by_step d s x) rest) xs
  one_day d s rest =
      let f : Offer → Priced (List Offer) = λ x. best_after x (by_step d s x) rest in
      cheapest_same f
      (λ x y e h. subst (λ (o : Option Shift). cheaper (f x) (best_after y (dearer y.price (step d s o)) rest) ≡ f x) e (cheaper_first x y rest h (step d s (shift x))))
      (λ x y e h. subst (λ (o : Option Shift). cheaper (f x) (best_after y (dearer y.price (step d s o)) rest) ≡ best_after y (dearer y.price (step d s o)) rest) e (cheaper_second x y rest h (step d s (shift x))))

  by_shift_of : (offers : ℕ → List Offer) (m d : ℕ) (s : Summary) → best_from (λ day. cheapest_by_shift (offers day)) by_step finish m d s ≡ best_from offers by_step finish m d s
  by_shift_of offers zero d s = refl
  by_shift_of offers (suc m) d s =
      one_day d s (best_from (λ day. cheapest_by_shift (offers day)) by_step finish m (suc d)) (offers d)
      ∙ (λ i. cheapest (λ x. best_after x (by_step d s x) (λ t. by_shift_of offers m (suc d) t i)) (offers d))

module _ (c : Meaning) (n : ℕ) where
  pub best_by_shift : (offers : ℕ → List Offer) (m d : ℕ) (s : Summary) → best_of_offers c n (λ day. cheapest_by_shift (offers day)) m d s ≡ best_of_offers c n offers m d s
  best_by_shift offers m d s = by_shift_of (transition_of c n) (end_cost_of c n) offers m d s

  pub best_by_shift_at : (scale : ℕ) (offers : ℕ → List Offer) (m d : ℕ) (s : Summary) → best_of_offers_at c n scale (λ day. cheapest_by_shift (offers day)) m d s ≡ best_of_offers_at c n scale offers m d s
  best_by_shift_at scale offers m d s = by_shift_of (λ e t o. scaled scale (transition_of c n e t o)) (end_cost_at c n scale) offers m d s

-- ---- each of these is one of all, and they are fewer

front_few : (x : Offer) (ys : List Offer) → length (in_front x ys) ≤ suc (length ys)
front_few x [] = omega arith
front_few x (y ∷ ys) = go (alike x y) refl (cases_lt y.price x.price)
  where
    go : (b : Bool) → alike x y ≡ b → (y.price < x.price) ⊎ (x.price ≤ y.price) → length (in_front x (y ∷ ys)) ≤ suc (suc (length ys))
    go false e h = omega (arith, ap length (front_other x y ys e))
    go true e (inl h) = omega (arith, ap length (front_second x y ys e h))
    go true e (inr h) = omega (arith, ap length (front_first x y ys e h))

front_some : (x : Offer) (ys : List Offer) → 0 < length (in_front x ys)
front_some x [] = omega arith
front_some x (y ∷ ys) = go (alike x y) refl (cases_lt y.price x.price)
  where
    go : (b : Bool) → alike x y ≡ b → (y.price < x.price) ⊎ (x.price ≤ y.price) → 0 < length (in_front x (y ∷ ys))
    go false e h = omega (arith, ap length (front_other x y ys e))
    go true e (inl h) = omega (arith, ap length (front_second x y ys e h))
    go true e (inr h) = omega (arith, ap length (front_first x y ys e h))

pub by_shift_fewer : (xs : List Offer) → length (cheapest_by_shift xs) ≤ length xs
unfolding cheapest_by_shift
by_shift_fewer [] = omega arith
by_shift_fewer (x ∷ xs) = omega (arith, front_few x (cheapest_by_shift xs), by_shift_fewer xs)

pub by_shift_some : (xs : List Offer) → 0 < length xs → 0 < length (cheapest_by_shift xs)
unfolding cheapest_by_shift
by_shift_some [] h = absurd (omega (arith, h))
by_shift_some (x ∷ xs) h = front_some x (cheapest_by_shift xs)

module _ (P : Offer → Type 0) where
  front_all : (x : Offer) (ys : List Offer) → P x → All P ys → All P (in_front x ys)
  front_all x [] p all = All-cons P x [] p all
  front_all x (y ∷ ys) p all = go (alike x y) refl (cases_lt y.price x.price)
    where
      go : (b : Bool) → alike x y ≡ b → (y.price < x.price) ⊎ (x.price ≤ y.price) → All P (in_front x (y ∷ ys))
      go false e h = subst (All P) (sym (front_other x y ys e)) (All-cons P x (y ∷ ys) p all)
      go true e (inl h) = subst (All P) (sym (front_second x y ys e h)) all
      go true e (inr h) = subst (All P) (sym (front_first x y ys e h)) (All-cons P x ys p (All-tail P y ys all))

  pub by_shift_all : (xs : List Offer) → All P xs → All P (cheapest_by_shift xs)
  unfolding cheapest_by_shift
  by_shift_all [] all = All-nil P
  by_shift_all (x ∷ xs) all = front_all x (cheapest_by_shift xs) (All-head P x xs all) (by_shift_all xs (All-tail P x xs all))

pub by_shift_among : (xs : List Offer) (x : Offer) → Contains (cheapest_by_shift xs) x → Contains xs x
by_shift_among xs x = All-contains (Contains xs) (cheapest_by_shift xs) x (by_shift_all (Contains xs) xs (All-contains_itself xs))

-- ---- at most one for each shift, and one for the day off

-- a list that has grown by offers for one shift alone is longer by at most one, and then begins with this
-- shift
Begins : Option Shift → List Offer → Type 0
Begins s [] = ⊥
Begins s (z ∷ zs) = shift z ≡ s

Grown : Option Shift → ℕ → List Offer → Type 0
unfolding Begins
Grown s k zs = (length zs ≤ k) ⊎ (Begins s zs × (length zs ≤ suc k))

grown_few : (s : Option Shift) (k : ℕ) (zs : List Offer) → Grown s k zs → length zs ≤ suc k
unfolding Grown
grown_few s k zs (inl few) = omega (arith, few)
grown_few s k zs (inr more) = more.1

grown_more : (s : Option Shift) (k : ℕ) (x : Offer) → shift x ≡ s → (zs : List Offer) → Grown s k zs → Grown s k (in_front x zs)
unfolding Begins Grown
grown_more s k x is [] grown = inr (is, omega arith)
grown_more s k x is (z ∷ zs) grown = go (alike x z) refl (cases_lt z.price x.price) grown
  where
    few : length (z ∷ zs) ≤ suc k
    few = grown_few s k (z ∷ zs) grown

    go : (b : Bool) → alike x z ≡ b → (z.price < x.price) ⊎ (x.price ≤ z.price) → Grown s k (z ∷ zs) → Grown s k (in_front x (z ∷ zs))
    go false e h (inl fewer) = subst (Grown s k) (sym (front_other x z zs e)) (inr (is, omega (arith, fewer)))
    go false e h (inr begins) = elim (true≢false (sym (same_self (shift x)) ∙ ap (same_shift (shift x)) (is ∙ sym begins.0) ∙ e)) [ ]
    go true e (inl h) old = subst (Grown s k) (sym (front_second x z zs e h)) (inr (sym (same_is (shift x) (shift z) e) ∙ is, few))
    go true e (inr h) old = subst (Grown s k) (sym (front_first x z zs e h)) (inr (is, omega (arith, few)))

module _ (c : Meaning) (offered : ℕ → Choice → Bool) (price : ℕ → Choice → ℕ) (d : ℕ) where
  -- what is offered of these choices
  abbrev among : List Choice → List Offer
  among choices = map (offer_at price d) (filter (offered d) choices)

  abbrev with_skills : ℕ → List ℕ → List Choice
  with_skills t skills = map (λ k. Work (shift_at t) (skill_at k)) skills

  shift_grown : (t : ℕ) (skills : List ℕ) (others : List Choice) → Grown (Some (shift_at t)) (length (cheapest_by_shift (among others))) (cheapest_by_shift (among (with_skills t skills ++ others)))
  unfolding Grown cheapest_by_shift
  shift_grown t [] others = inl (omega arith)
  shift_grown t (k ∷ skills) others = go (offered d (Work (shift_at t) (skill_at k))) (shift_grown t skills others)
    where
      go : (b : Bool) → Grown (Some (shift_at t)) (length (cheapest_by_shift (among others))) (cheapest_by_shift (among (with_skills t skills ++ others)))
          → Grown (Some (shift_at t)) (length (cheapest_by_shift (among others))) (cheapest_by_shift (map (offer_at price d) (if b then Work (shift_at t) (skill_at k) ∷ filter (offered d) (with_skills t skills ++ others) else filter (offered d) (with_skills t skills ++ others))))
      go true grown = grown_more (Some (shift_at t)) (length (cheapest_by_shift (among others))) (offer_at price d (Work (shift_at t) (skill_at k))) refl (cheapest_by_shift (among (with_skills t skills ++ others))) grown
      go false grown = grown

  shifts_few : (shifts skills : List ℕ) → length (cheapest_by_shift (among (flat_map (λ t. with_skills t skills) shifts))) ≤ length shifts
  unfolding cheapest_by_shift
  shifts_few [] skills = omega arith
  shifts_few (t ∷ shifts) skills =
      let others : List Choice = flat_map (λ u. with_skills u skills) shifts in
      omega (arith, grown_few (Some (shift_at t)) (length (cheapest_by_shift (among others))) (cheapest_by_shift (among (with_skills t skills ++ others))) (shift_grown t skills others), shifts_few shifts skills)

  -- Off in front of the choices with a shift
  off_few : (work : List Choice) (k : ℕ) → length (cheapest_by_shift (among work)) ≤ k → length (cheapest_by_shift (among (Off ∷ work))) ≤ 1 + k
  unfolding cheapest_by_shift
  off_few work k few = go (offered d Off)
    where
      go : (b : Bool) → length (cheapest_by_shift (map (offer_at price d) (if b then Off ∷ filter (offered d) work else filter (offered d) work))) ≤ 1 + k
      go true = omega (arith, front_few (offer_at price d Off) (cheapest_by_shift (among work)), few)
      go false = omega (arith, few)

  pub by_shift_few_of : length (cheapest_by_shift (offers_by c offered price d)) ≤ 1 + shift_count c
  by_shift_few_of =
      let shifts : List ℕ = range_with_len 0 (shift_count c) in
      let skills : List ℕ = range_with_len 0 (skill_count c) in
      off_few (flat_map (λ t. with_skills t skills) shifts) (shift_count c) (omega (arith, shifts_few shifts skills, length-range_with_len 0 (shift_count c)))

pub by_shift_few : (c : Meaning) (from : ℕ) (r : Rows) (n d : ℕ) → length (shift_offers c from r n d) ≤ 1 + shift_count c
by_shift_few c from r n d = by_shift_few_of c (is_offered c from r n) (price c r n) d

-- ---- one offer more after them

abbrev put_last : List Offer → Offer → List Offer
put_last [] x = x ∷ []
put_last (z ∷ []) x = in_front z (x ∷ [])
put_last (z ∷ y ∷ zs) x = z ∷ put_last (y ∷ zs) x

-- of three offers, the result doesn't depend on which two are compared first
three : (y z x : Offer) → in_front y (in_front z (x ∷ [])) ≡ put_last (in_front y (z ∷ [])) x
three y z x = go (alike y z) (alike z x) refl refl (cases_lt z.price y.price) (cases_lt x.price z.price)
  where
    through : (b : Bool) → alike y z ≡ true → alike z x ≡ b → alike y x ≡ b
    through b e o = ap (λ s. same_shift s (shift x)) (same_is (shift y) (shift z) e) ∙ o

    go : (a b : Bool) → alike y z ≡ a → alike z x ≡ b → (z.price < y.price) ⊎ (y.price ≤ z.price) → (x.price < z.price) ⊎ (z.price ≤ x.price) → in_front y (in_front z (x ∷ [])) ≡ put_last (in_front y (z ∷ [])) x
    go false false e o h k = ap (in_front y) (front_other z x [] o) ∙ front_other y z (x ∷ []) e ∙ ap (λ zs. y ∷ zs) (sym (front_other z x [] o)) ∙ ap (λ zs. put_last zs x) (sym (front_other y z [] e))
    go false true e o h (inl k) =
        ap (in_front y) (front_second z x [] o k)
        ∙ front_other y x [] (ap (same_shift (shift y)) (sym (same_is (shift z) (shift x) o)) ∙ e)
        ∙ ap (λ zs. y ∷ zs) (sym (front_second z x [] o k))
        ∙ ap (λ zs. put_last zs x) (sym (front_other y z [] e))
    go false true e o h (inr k) =
        ap (in_front y) (front_first z x [] o k) ∙ front_other y z [] e ∙ ap (λ zs. y ∷ zs) (sym (front_first z x [] o k)) ∙ ap (λ zs. put_last zs x) (sym (front_other y z [] e))
    go true false e o (inl h) k = ap (in_front y) (front_other z x [] o) ∙ front_second y z (x ∷ []) e h ∙ sym (front_other z x [] o) ∙ ap (λ zs. put_last zs x) (sym (front_second y z [] e h))
    go true false e o (inr h) k = ap (in_front y) (front_other z x [] o) ∙ front_first y z (x ∷ []) e h ∙ sym (front_other y x [] (through false e o)) ∙ ap (λ zs. put_last zs x) (sym (front_first y z [] e h))
    go true true e o (inl h) (inl k) = ap (in_front y) (front_second z x [] o k) ∙ front_second y x [] (through true e o) (omega (arith, h, k)) ∙ sym (front_second z x [] o k) ∙ ap (λ zs. put_last zs x) (sym (front_second y z [] e h))
    go true true e o (inl h) (inr k) = ap (in_front y) (front_first z x [] o k) ∙ front_second y z [] e h ∙ sym (front_first z x [] o k) ∙ ap (λ zs. put_last zs x) (sym (front_second y z [] e h))
    go true true e o (inr h) (inl k) = ap (in_front y) (front_second z x [] o k) ∙ ap (λ zs. put_last zs x) (sym (front_first y z [] e h))
    go true true e o (inr h) (inr k) = ap (in_front y) (front_first z x [] o k) ∙ front_first y z [] e h ∙ sym (front_first y x [] (through true e o) (omega (arith, h, k))) ∙ ap (λ zs. put_last zs x) (sym (front_first y z [] e h))

front_last : (y : Offer) (zs : List Offer) (x : Offer) → in_front y (put_last zs x) ≡ put_last (in_front y zs) x
front_last y [] x = refl
front_last y (z ∷ []) x = three y z x
front_last y (z ∷ w ∷ zs) x = go (alike y z) refl (cases_lt z.price y.price)
  where
    go : (b : Bool) → alike y z ≡ b → (z.price < y.price) ⊎ (y.price ≤ z.price) → in_front y (z ∷ put_last (w ∷ zs) x) ≡ put_last (in_front y (z ∷ w ∷ zs)) x
    go false e h = front_other y z (put_last (w ∷ zs) x) e ∙ ap (λ os. put_last os x) (sym (front_other y z (w ∷ zs) e))
    go true e (inl h) = front_second y z (put_last (w ∷ zs) x) e h ∙ ap (λ os. put_last os x) (sym (front_second y z (w ∷ zs) e h))
    go true e (inr h) = front_first y z (put_last (w ∷ zs) x) e h ∙ ap (λ os. put_last os x) (sym (front_first y z (w ∷ zs) e h))

by_shift_push : (xs : List Offer) (x : Offer) → cheapest_by_shift (xs ++ x ∷ []) ≡ put_last (cheapest_by_shift xs) x
unfolding cheapest_by_shift
by_shift_push [] x = refl
by_shift_push (y ∷ xs) x = ap (in_front y) (by_shift_push xs x) ∙ front_last y (cheapest_by_shift xs) x

-- offers of a shift that no offer before them has
front_apart : (s : Option Shift) (x : Offer) (ys bs : List Offer) → same_shift (shift x) s ≡ false → All (λ y. shift y ≡ s) bs → in_front x (ys ++ bs) ≡ in_front x ys ++ bs
front_apart s x [] [] e all = refl
front_apart s x [] (b ∷ bs) e all = front_other x b bs (ap (same_shift (shift x)) (All-head (λ y. shift y ≡ s) b bs all) ∙ e)
front_apart s x (a ∷ ys) bs e all = go (alike x a) refl (cases_lt a.price x.price)
  where
    go : (b : Bool) → alike x a ≡ b → (a.price < x.price) ⊎ (x.price ≤ a.price) → in_front x (a ∷ ys ++ bs) ≡ in_front x (a ∷ ys) ++ bs
    go false o h = front_other x a (ys ++ bs) o ∙ ap (λ os. os ++ bs) (sym (front_other x a ys o))
    go true o (inl h) = front_second x a (ys ++ bs) o h ∙ ap (λ os. os ++ bs) (sym (front_second x a ys o h))
    go true o (inr h) = front_first x a (ys ++ bs) o h ∙ ap (λ os. os ++ bs) (sym (front_first x a ys o h))

pub by_shift_apart : (s : Option Shift) (xs ys : List Offer) → All (λ x. same_shift (shift x) s ≡ false) xs → All (λ y. shift y ≡ s) ys → cheapest_by_shift (xs ++ ys) ≡ cheapest_by_shift xs ++ cheapest_by_shift ys
unfolding cheapest_by_shift
by_shift_apart s [] ys none all = refl
by_shift_apart s (x ∷ xs) ys none all =
    ap (in_front x) (by_shift_apart s xs ys (All-tail (λ z. same_shift (shift z) s ≡ false) x xs none) all)
    ∙ front_apart s x (cheapest_by_shift xs) (cheapest_by_shift ys) (All-head (λ z. same_shift (shift z) s ≡ false) x xs none) (by_shift_all (λ y. shift y ≡ s) ys all)

-- of offers for one shift the cheapest, and one more
pub by_shift_two : (s : Option Shift) → same_shift s s ≡ true → (xs : List Offer) (old o : Option Offer) → option_to_list old ≡ cheapest_by_shift xs → All (λ x. shift x ≡ s) xs → IfSome o (λ x. shift x ≡ s)
    → option_to_list (cheaper_offer old o) ≡ cheapest_by_shift (xs ++ option_to_list o)
by_shift_two s self xs None None is all one = is ∙ ap cheapest_by_shift (sym (append-nil xs))
by_shift_two s self xs (Some z) None is all one = is ∙ ap cheapest_by_shift (sym (append-nil xs))
by_shift_two s self xs None (Some x) is all one = sym (by_shift_push xs x ∙ ap (λ os. put_last os x) (sym is))
by_shift_two s self xs (Some z) (Some x) is all one = go (cases_lt x.price z.price)
  where
    with_it : cheapest_by_shift (xs ++ x ∷ []) ≡ in_front z (x ∷ [])
    with_it = by_shift_push xs x ∙ ap (λ os. put_last os x) (sym is)

    of_it : shift z ≡ s
    of_it = All-head (λ y. shift y ≡ s) z [] (subst (All (λ y. shift y ≡ s)) (sym is) (by_shift_all (λ y. shift y ≡ s) xs all))

    same : alike z x ≡ true
    same = ap (λ t. same_shift t (shift x)) of_it ∙ ap (same_shift s) one ∙ self

    go : (x.price < z.price) ⊎ (z.price ≤ x.price) → option_to_list (cheaper_offer (Some z) (Some x)) ≡ cheapest_by_shift (xs ++ x ∷ [])
    go (inl h) = ap (λ b. option_to_list (if b then Some x else Some z)) (lt-ltb x.price z.price h) ∙ sym (with_it ∙ front_second z x [] same h)
    go (inr h) = ap (λ b. option_to_list (if b then Some x else Some z)) (le-ltb x.price z.price h) ∙ sym (with_it ∙ front_first z x [] same h)

put_after : (front : List Offer) (last x : Offer) → put_last (front ++ last ∷ []) x ≡ front ++ in_front last (x ∷ [])
put_after [] last x = refl
put_after (a ∷ []) last x = refl
put_after (a ∷ b ∷ front) last x = ap (λ os. a ∷ os) (put_after (b ∷ front) last x)

by_shift_more : (xs front : List Offer) (last x : Offer) → cheapest_by_shift xs ≡ front ++ last ∷ [] → cheapest_by_shift (xs ++ x ∷ []) ≡ front ++ in_front last (x ∷ [])
by_shift_more xs front last x is = by_shift_push xs x ∙ ap (λ os. put_last os x) is ∙ put_after front last x

put_grows : (zs : List Offer) (x : Offer) → length zs ≤ length (put_last zs x)
put_grows [] x = omega arith
put_grows (z ∷ []) x = omega (arith, front_some z (x ∷ []))
put_grows (z ∷ y ∷ zs) x = omega (arith, put_grows (y ∷ zs) x)

by_shift_grows : (xs ys : List Offer) → length (cheapest_by_shift xs) ≤ length (cheapest_by_shift (xs ++ ys))
by_shift_grows xs [] = omega (arith, ap (λ os. length (cheapest_by_shift os)) (append-nil xs))
by_shift_grows xs (y ∷ ys) =
    omega (arith, put_grows (cheapest_by_shift xs) y, ap length (by_shift_push xs y), by_shift_grows (xs ++ y ∷ []) ys, ap (λ os. length (cheapest_by_shift os)) (append_assoc xs (y ∷ []) ys))

-- the first offers give no more than all
first_few : (xs : List Offer) (k : ℕ) → length (cheapest_by_shift (take k xs)) ≤ length (cheapest_by_shift xs)
first_few xs k = omega (arith, by_shift_grows (take k xs) (drop k xs), ap (λ os. length (cheapest_by_shift os)) (take-append-drop k xs))

-- ---- the first offers and the next

-- nothing comes off an empty list
module _ (o : Option Offer) (none : o ≡ None) (old left : List Offer) (some : 0 < length old → IsSome o) (split : old ≡ left ++ option_to_list o) where
  all_off : old ≡ []
  all_off = go old some
    where
      go : (xs : List Offer) → (0 < length xs → IsSome o) → xs ≡ []
      go [] each = refl
      go (x ∷ xs) each = elim (true≢false (sym (each (omega arith)) ∙ ap is_some none)) [ ]

  nothing_left : left ≡ []
  nothing_left = sym (append-nil left) ∙ ap (λ (p : Option Offer). left ++ option_to_list p) (sym none) ∙ sym split ∙ all_off

  pub begun : (offers : List Offer) (index : ℕ) (d : Offer) (new : List Offer) → index < length offers → old ≡ cheapest_by_shift (take index offers) → new ≡ left ++ slice_index_or offers index d ∷ [] → new ≡ cheapest_by_shift (take (index + 1) offers)
  begun offers index d new inside is pushed =
      let x : Offer = slice_index_or offers index d in
      pushed
      ∙ ap (λ os. os ++ x ∷ []) nothing_left
      ∙ ap (λ os. put_last os x) (sym all_off ∙ is)
      ∙ sym (by_shift_push (take index offers) x)
      ∙ ap cheapest_by_shift (sym (take_more offers index d inside))

-- by the last that was kept of the offers before it
module _ (offers : List Offer) (index : ℕ) (inside : index < length offers) (kept front : List Offer) (last : Offer) (is : kept ≡ cheapest_by_shift (take index offers)) (split : kept ≡ front ++ last ∷ []) where
  pub one_fits : length front + 1 ≤ length (cheapest_by_shift offers)
  one_fits = omega (arith, first_few offers index, ap length is, ap length split, length-append front (last ∷ []))

  module _ (d : Offer) where
    abbrev next : Offer
    next = slice_index_or offers index d

    abbrev first_more : List Offer
    first_more = cheapest_by_shift (take (index + 1) offers)

    compared : first_more ≡ front ++ in_front last (next ∷ [])
    compared = ap cheapest_by_shift (take_more offers index d inside) ∙ by_shift_more (take index offers) front last next (sym is ∙ split)

    both : alike last next ≡ false → first_more ≡ (front ++ last ∷ []) ++ next ∷ []
    both e = compared ∙ ap (λ os. front ++ os) (front_other last next [] e) ∙ sym (append_assoc front (last ∷ []) (next ∷ []))

    pub two_fit : alike last next ≡ false → length front + 2 ≤ length (cheapest_by_shift offers)
    two_fit e = omega (arith, first_few offers (index + 1), ap length (both e), length-append (front ++ last ∷ []) (next ∷ []), length-append front (last ∷ []))

    pub kept_both : alike last next ≡ false → (again new : List Offer) → again ≡ front ++ last ∷ [] → new ≡ again ++ next ∷ [] → new ≡ first_more
    kept_both e again new back pushed = pushed ∙ ap (λ os. os ++ next ∷ []) back ∙ sym (both e)

    pub kept_next : alike last next ≡ true → next.price < last.price → (new : List Offer) → new ≡ front ++ next ∷ [] → new ≡ first_more
    kept_next e h new pushed = pushed ∙ sym (compared ∙ ap (λ os. front ++ os) (front_second last next [] e h))

    pub kept_last : alike last next ≡ true → last.price ≤ next.price → (new : List Offer) → new ≡ front ++ last ∷ [] → new ≡ first_more
    kept_last e h new pushed = pushed ∙ sym (compared ∙ ap (λ os. front ++ os) (front_first last next [] e h))
