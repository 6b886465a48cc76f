-- A list of offers, choice by choice, whatever is offered, and the cheapest of each shift, shift by shift.
use Rattle.std.proofs.Common.{◌≡◌, ◌∙◌, ◌+◌, ◌<◌, ◌≤◌, ◌&&◌, ℕ, suc, zero, Bool, true, false, ap, ap₂, append-nil, append_assoc, arith, refl, sym, List, [], ◌∷◌, ◌++◌, filter, if◌then◌else◌, map, None, Option, Some}
use Rattle.std.specs.Prelude.{All, IfSome}
use Rattle.std.specs.Option.{option_to_list}
use Rattle.std.specs.List.{flat_map, range_with_len}
use Rattle.std.proofs.lemmas.Bool.{ne_eqb}
use Rattle.std.proofs.lemmas.List.{map-append}
use Rattle.std.proofs.lemmas.List.Elements.{All-append, All-cons, All-nil, All-head, All-tail, filter-append}
use Rattle.roster_bundle.proofs.Ranges.{flat_map-range_more, range_with_len_more}
use Rattle.roster_instance.specs.declared.choice.Choice.{Choice}
use Rattle.roster_instance.specs.declared.choice.Choice.TheVariants.{Off, Work}
use Rattle.roster_instance.specs.Choices.{shift_of}
use Rattle.roster_instance.specs.Meaning.{Meaning, shift_at, skill_at, skill_count}
use Rattle.roster_offers.specs.declared.offer.Offer.{Offer}
use Rattle.roster_offers.specs.Offers.{cheaper_offer, cheapest_by_shift, offer_at, offers_among, same_shift, with_skills}
use Rattle.roster_offers.proofs.ByShift.{by_shift_apart, by_shift_two, same_self}

-- a day off, and the choices of the first shifts
abbrev pub of_shifts : Meaning → ℕ → List Choice
of_shifts c shifts = Off ∷ flat_map (λ s. with_skills s (skill_count c)) (range_with_len 0 shifts)

-- what is open is offered if the nurse may take it, and nothing if not
pub if_taken : (may is_open : Bool) (x : Offer) (o : Option Offer) → may ≡ true → o ≡ (if is_open then Some x else None) → o ≡ (if may && is_open then Some x else None)
if_taken may is_open x o so is = is ∙ ap (λ b. if b && is_open then Some x else None) (sym so)

pub none_taken : (may is_open : Bool) → may ≡ false → (may && is_open) ≡ false
none_taken may is_open so = ap (λ b. b && is_open) so

module _ (c : Meaning) (keep : Choice → Bool) (offer : Choice → Offer) where
  -- ---- the list grows choice by choice

  abbrev among : List Choice → List Offer
  among = offers_among keep offer

  abbrev pub offered : Choice → Option Offer
  offered choice = if keep choice then Some (offer choice) else None

  offers_both : (xs ys : List Choice) → among (xs ++ ys) ≡ among xs ++ among ys
  offers_both xs ys = ap (map offer) (filter-append keep xs ys) ∙ map-append offer (filter keep xs) (filter keep ys)

  offers_one : (x : Choice) → among (x ∷ []) ≡ option_to_list (offered x)
  offers_one x = go (keep x)
    where
      go : (b : Bool) → map offer (if b then x ∷ [] else []) ≡ option_to_list (if b then Some (offer x) else None)
      go true = refl
      go false = refl

  pub offers_begin : (new : List Offer) (o : Option Offer) → new ≡ [] ++ option_to_list o → o ≡ offered Off → new ≡ among (of_shifts c 0)
  offers_begin new o pushed is = pushed ∙ ap option_to_list is ∙ sym (offers_one Off)

  -- one skill more
  skill_more : (s k : ℕ) → among (with_skills s (k + 1)) ≡ among (with_skills s k) ++ option_to_list (offered (Work (shift_at s) (skill_at k)))
  skill_more s k =
      let x : Choice = Work (shift_at s) (skill_at k) in
      let more : with_skills s (k + 1) ≡ with_skills s k ++ x ∷ [] = ap (map (λ j. Work (shift_at s) (skill_at j))) (range_with_len_more k) ∙ map-append (λ j. Work (shift_at s) (skill_at j)) (range_with_len 0 k) (k ∷ []) in
      ap among more ∙ offers_both (with_skills s k) (x ∷ []) ∙ ap (λ os. among (with_skills s k) ++ os) (offers_one x)

  -- a choice that isn't offered
  skill_not : (s k : ℕ) → keep (Work (shift_at s) (skill_at k)) ≡ false → among (with_skills s (k + 1)) ≡ among (with_skills s k)
  skill_not s k not_so =
      skill_more s k
      ∙ ap (λ b. among (with_skills s k) ++ option_to_list (if b then Some (offer (Work (shift_at s) (skill_at k))) else None)) not_so
      ∙ append-nil (among (with_skills s k))

  pub offers_skill : (start old new : List Offer) (s k : ℕ) (o : Option Offer) → old ≡ start ++ among (with_skills s k) → new ≡ old ++ option_to_list o → o ≡ offered (Work (shift_at s) (skill_at k)) → new ≡ start ++ among (with_skills s (k + 1))
  offers_skill start old new s k o so_far pushed is =
      pushed
      ∙ ap₂ (λ xs p. xs ++ option_to_list p) so_far is
      ∙ append_assoc start (among (with_skills s k)) (option_to_list (offered (Work (shift_at s) (skill_at k))))
      ∙ ap (λ os. start ++ os) (sym (skill_more s k))

  pub offers_skill_not : (start old : List Offer) (s k : ℕ) → keep (Work (shift_at s) (skill_at k)) ≡ false → old ≡ start ++ among (with_skills s k) → old ≡ start ++ among (with_skills s (k + 1))
  offers_skill_not start old s k not_so so_far = so_far ∙ ap (λ os. start ++ os) (sym (skill_not s k not_so))

  -- one shift more
  shift_more : (s : ℕ) → among (of_shifts c (s + 1)) ≡ among (of_shifts c s) ++ among (with_skills s (skill_count c))
  shift_more s =
      ap (λ xs. among (Off ∷ xs)) (flat_map-range_more (λ t. with_skills t (skill_count c)) s)
      ∙ offers_both (of_shifts c s) (with_skills s (skill_count c))

  pub offers_shift : (start new : List Offer) (s k : ℕ) → k ≡ skill_count c → start ≡ among (of_shifts c s) → new ≡ start ++ among (with_skills s k) → new ≡ among (of_shifts c (s + 1))
  offers_shift start new s k all so_far is = is ∙ ap₂ (λ os m. os ++ among (with_skills s m)) so_far all ∙ sym (shift_more s)

-- ---- the cheapest of each shift

module _ (c : Meaning) (keep : Choice → Bool) (price : ℕ → Choice → ℕ) (d : ℕ) where
  abbrev at : Choice → Offer
  at = offer_at price d

  abbrev those : List Choice → List Offer
  those = offers_among keep at

  -- what holds of choices holds of the offers for them
  all_those : (P : Choice → Type 0) (xs : List Choice) → All P xs → All (λ o. P o.choice) (those xs)
  all_those P [] all = All-nil (λ o. P o.choice)
  all_those P (x ∷ xs) all = go (keep x) (all_those P xs (All-tail P x xs all))
    where
      go : (b : Bool) → All (λ o. P o.choice) (those xs) → All (λ o. P o.choice) (map at (if b then x ∷ filter keep xs else filter keep xs))
      go true rest = All-cons (λ o. P o.choice) (at x) (those xs) (All-head P x xs all) rest
      go false rest = rest

  -- the choices of a shift have that shift, and those before it another
  Is : ℕ → Choice → Type 0
  Is s x = shift_of x ≡ Some (shift_at s)

  IsNot : ℕ → Choice → Type 0
  IsNot s x = same_shift (shift_of x) (Some (shift_at s)) ≡ false

  of_that : (s a m : ℕ) → All (Is s) (map (λ k. Work (shift_at s) (skill_at k)) (range_with_len a m))
  unfolding Is
  of_that s a zero = All-nil (Is s)
  of_that s a (suc m) = All-cons (Is s) (Work (shift_at s) (skill_at a)) (map (λ k. Work (shift_at s) (skill_at k)) (range_with_len (a + 1) m)) refl (of_that s (a + 1) m)

  of_another : (s t : ℕ) → t < s → (a m : ℕ) → All (IsNot s) (map (λ k. Work (shift_at t) (skill_at k)) (range_with_len a m))
  unfolding IsNot
  of_another s t before a zero = All-nil (IsNot s)
  of_another s t before a (suc m) =
      All-cons (IsNot s) (Work (shift_at t) (skill_at a)) (map (λ k. Work (shift_at t) (skill_at k)) (range_with_len (a + 1) m)) (ne_eqb t s (λ e. omega (arith, before, e))) (of_another s t before (a + 1) m)

  before_it : (s a m : ℕ) → a + m ≤ s → All (IsNot s) (flat_map (λ t. with_skills t (skill_count c)) (range_with_len a m))
  before_it s a zero within = All-nil (IsNot s)
  before_it s a (suc m) within =
      All-append (IsNot s) (with_skills a (skill_count c)) (flat_map (λ t. with_skills t (skill_count c)) (range_with_len (a + 1) m)) (of_another s a (omega (arith, within)) 0 (skill_count c)) (before_it s (a + 1) m (omega (arith, within)))

  one_alone : (p : Option Offer) → option_to_list p ≡ cheapest_by_shift (option_to_list p)
  unfolding cheapest_by_shift
  one_alone None = refl
  one_alone (Some x) = refl

  pub by_shift_begin : (new : List Offer) (o : Option Offer) → new ≡ [] ++ option_to_list o → o ≡ offered c keep at Off → new ≡ cheapest_by_shift (those (of_shifts c 0))
  by_shift_begin new o pushed is = pushed ∙ ap option_to_list is ∙ one_alone (offered c keep at Off) ∙ ap cheapest_by_shift (sym (offers_one c keep at Off))

  -- the cheapest of one shift more
  pub by_shift_more_shift : (s : ℕ) → cheapest_by_shift (those (of_shifts c (s + 1))) ≡ cheapest_by_shift (those (of_shifts c s)) ++ cheapest_by_shift (those (with_skills s (skill_count c)))
  unfolding Is IsNot
  by_shift_more_shift s =
      ap cheapest_by_shift (shift_more c keep at s)
      ∙ by_shift_apart (Some (shift_at s)) (those (of_shifts c s)) (those (with_skills s (skill_count c)))
      (all_those (IsNot s) (of_shifts c s) (All-cons (IsNot s) Off (flat_map (λ t. with_skills t (skill_count c)) (range_with_len 0 s)) refl (before_it s 0 s (omega arith))))
      (all_those (Is s) (with_skills s (skill_count c)) (of_that s 0 (skill_count c)))

  -- of a shift, one skill more
  pub cheapest_begin : (s : ℕ) → [] ≡ cheapest_by_shift (those (with_skills s 0))
  unfolding cheapest_by_shift
  cheapest_begin s = refl

  pub cheapest_skill : (s k : ℕ) (old new o : Option Offer) → option_to_list old ≡ cheapest_by_shift (those (with_skills s k)) → o ≡ (if keep (Work (shift_at s) (skill_at k)) then Some (at (Work (shift_at s) (skill_at k))) else None) → new ≡ cheaper_offer old o
      → option_to_list new ≡ cheapest_by_shift (those (with_skills s (k + 1)))
  unfolding Is
  cheapest_skill s k old new o so_far is cheaper =
      ap option_to_list cheaper
      ∙ ap (λ p. option_to_list (cheaper_offer old p)) is
      ∙ by_shift_two (Some (shift_at s)) (same_self (Some (shift_at s))) (those (with_skills s k)) old (offered c keep at (Work (shift_at s) (skill_at k))) so_far
      (all_those (Is s) (with_skills s k) (of_that s 0 k)) (one_is (keep (Work (shift_at s) (skill_at k))))
      ∙ ap cheapest_by_shift (sym (skill_more c keep at s k))
    where
      one_is : (b : Bool) → IfSome (if b then Some (at (Work (shift_at s) (skill_at k))) else None) (λ x. shift_of x.choice ≡ Some (shift_at s))
      one_is true = refl
      one_is false = _

  pub cheapest_skill_not : (s k : ℕ) (old : Option Offer) → keep (Work (shift_at s) (skill_at k)) ≡ false → option_to_list old ≡ cheapest_by_shift (those (with_skills s k)) → option_to_list old ≡ cheapest_by_shift (those (with_skills s (k + 1)))
  cheapest_skill_not s k old not_so so_far = so_far ∙ ap cheapest_by_shift (sym (skill_not c keep at s k not_so))
