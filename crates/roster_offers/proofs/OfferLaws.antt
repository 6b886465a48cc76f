-- The offers of a day: each is of the case and at a small price, they are few, and there is one if the roster
-- keeps the hard rules.
use Rattle.std.proofs.Common.{◌≡◌, ◌∙◌, ◌+◌, ◌-◌, ◌*◌, ◌<◌, ◌≤◌, ◌&&◌, ◌||◌, ◌==◌, ℕ, Bool, true, false, not, nat_lt, ap, arith, IfSome, refl, sym, List, [], ◌∷◌, cond, filter, length, map, Contains}
use Rattle.std.proofs.Math.Bool.{and-true}
use Rattle.std.specs.List.{All, count_by, flat_map, list_all, list_any, range_with_len}
use Rattle.std.proofs.Math.Nat.{suc-mul}
use Rattle.std.proofs.lemmas.Bool.{and_from, and_parts, ltb-true}
use Rattle.std.proofs.lemmas.List.{length-map, set-get_or}
use Rattle.std.proofs.lemmas.List.Elements.{All-contains_itself, All-filter, All-get_or, All-head, All-map, All-weaker, filter_passes}
use Rattle.std.proofs.lemmas.List.FromFn.{length-range_with_len}
use Rattle.std.proofs.lemmas.List.Sums.{AllPass-from_list_all, length-filter, sum_by-append}
use Rattle.roster_instance.specs.declared.choice.Choice.{Choice}
use Rattle.roster_instance.specs.declared.choice.Choice.TheVariants.{Off, Work}
use Rattle.roster_instance.specs.declared.choice.Skill.{Skill}
use Rattle.roster_instance.specs.Choices.{all_choices, days_of, same_choice, shift_of}
use Rattle.roster_rules.specs.AllowedRows.{is_frozen, keeps_frozen_day}
use Rattle.roster_instance.specs.Counting.{one_if, sum_below}
use Rattle.roster_rules.specs.HardRules.{breaks_succession, is_able, is_here, keeps_hard, may_take}
use Rattle.roster_instance.specs.Limits.{most_shifts, most_skills, most_small}
use Rattle.roster_instance.specs.Meaning.{Meaning, day_count, nurse_at, nurse_count, optimum, shift_at, shift_count, skill_at, skill_count}
use Rattle.roster_rules.specs.Penalties.{staffing_cost_by}
use Rattle.roster_instance.specs.Rosters.{Rows, choice_on, fits_case, is_choice_of, row_of}
use Rattle.roster_instance.specs.Sizes.{choice_count}
use Rattle.roster_instance.specs.Small.{HasSmallNumbers}
use Rattle.roster_rules.specs.Weights.{staffing_weight}
use Rattle.roster_rules.proofs.Bounds.{request_on-unkept, request_on-within}
use Rattle.roster_instance.proofs.RosterFacts.{has_row, row-length, row_fits}
use Rattle.roster_rules.proofs.RunBounds.{sum_within}
use Rattle.roster_laws.specs.OneRow.{is_offered, is_open, is_open_row, others, price}
use Rattle.roster_laws.specs.Staffing.{meets, with_choice}
use Rattle.roster_laws.proofs.Allowed.{present_stays}
use Rattle.roster_laws.proofs.Below.{all_elim}
use Rattle.roster_laws.proofs.Keeps.{keeps_hard-with_row}
use Rattle.roster_laws.proofs.AllRows.{count-below, count-choices, count-cons, count-map, count-none, member_is_choice}
use Rattle.roster_laws.proofs.Frozen.{frozen_is}
use Rattle.roster_laws.proofs.SameRows.{same_choice_is, same_choice_self}
use Rattle.roster_offers.specs.Offers.{offer_at, offer_of, offers_by, offers_of, open_offers}
use Rattle.roster_offers.specs.Lists.{IsOfferOf, most_price, most_price_unkept}

pub shift_of_case : (c : Meaning) (x : Choice) → is_choice_of c x ≡ true → IfSome (shift_of x) (λ s. s.0 < shift_count c)
shift_of_case c Off e = tt
shift_of_case c (Work s k) e = ltb-true s.0 (shift_count c) (and_parts (nat_lt s.0 (shift_count c)) (nat_lt k.0 (skill_count c)) e).0

-- ---- how many pass a test

one_at_most : (b : Bool) → cond b 1 0 ≤ 1
one_at_most true = omega arith
one_at_most false = omega arith

count-fewer : {X : Type 0} (p q : X → Bool) → ((x : X) → p x ≡ true → q x ≡ true) → (xs : List X) → count_by p xs ≤ count_by q xs
count-fewer p q each [] = omega arith
count-fewer {X} p q each (x ∷ xs) = omega (arith, count-cons p x xs, count-cons q x xs, count-fewer p q each xs, one (p x) refl)
  where
    one : (b : Bool) → p x ≡ b → cond b 1 0 ≤ cond (q x) 1 0
    one true e = omega (arith, ap one_if (each x e))
    one false e = omega arith

count-either : {X : Type 0} (p q : X → Bool) (xs : List X) → count_by (λ x. p x || q x) xs ≤ count_by p xs + count_by q xs
count-either p q [] = omega arith
count-either p q (x ∷ xs) = omega (arith, count-cons (λ y. p y || q y) x xs, count-cons p x xs, count-cons q x xs, count-either p q xs, one (p x) (q x))
  where
    one : (a b : Bool) → cond (a || b) 1 0 ≤ cond a 1 0 + cond b 1 0
    one true b = omega arith
    one false b = omega arith

count-flat_few : {X Y : Type 0} (p : Y → Bool) (f : X → List Y) (m : ℕ) → ((x : X) → count_by p (f x) ≤ m) → (xs : List X) → count_by p (flat_map f xs) ≤ length xs * m
count-flat_few p f m each [] = omega arith
count-flat_few p f m each (x ∷ xs) = omega (arith, sum_by-append (λ y. cond (p y) 1 0) (f x) (flat_map f xs), each x, count-flat_few p f m each xs, suc-mul (length xs) m)

-- the skills with a number below n that are among these
skills_few : (n : ℕ) (skills : List Skill) → count_by (λ k. list_any (λ own. own.0 == k) skills) (range_with_len 0 n) ≤ length skills
skills_few n [] = omega (arith, count-none (range_with_len 0 n))
skills_few n (own ∷ skills) =
    omega (arith, count-either (λ k. own.0 == k) (λ k. list_any (λ s. s.0 == k) skills) (range_with_len 0 n), count-below n own.0, one_at_most (nat_lt own.0 n), skills_few n skills)

-- a list of one thing
only_one : {X : Type 0} (x : X) (xs : List X) → 0 < length xs → length xs ≤ 1 → All (λ y. y ≡ x) xs → xs ≡ x ∷ []
only_one x [] some few all = absurd (omega (arith, some))
only_one x (y ∷ []) some few all = ap (λ z. z ∷ []) (All-head (λ z. z ≡ x) y [] all)
only_one x (y ∷ z ∷ zs) some few all = absurd (omega (arith, few))

-- ---- the choices

module _ (c : Meaning) where
  choices_of_case : All (λ x. is_choice_of c x ≡ true) (all_choices c)
  choices_of_case = All-weaker (Contains (all_choices c)) (λ x. is_choice_of c x ≡ true) (member_is_choice c) (all_choices c) (All-contains_itself (all_choices c))

  -- a choice that passes a test is counted
  choice_counted : (p : Choice → Bool) (x : Choice) → is_choice_of c x ≡ true → p x ≡ true → 0 < count_by p (all_choices c)
  choice_counted p x of_case passed =
      omega (arith, count-fewer (same_choice x) p (λ y same. ap p (sym (same_choice_is x y same)) ∙ passed) (all_choices c), count-choices c x, ap one_if of_case)

-- if only choices are offered that the nurse is able to take
module _ (c : Meaning) (n : ℕ) (offered : ℕ → Choice → Bool) (price : ℕ → Choice → ℕ) (able : (d : ℕ) (x : Choice) → offered d x ≡ true → is_able (nurse_at c n).skills x ≡ true) (d : ℕ) where
  pub offers_few_of : length (offers_by c offered price d) ≤ choice_count c n
  unfolding choice_count
  offers_few_of =
      let own : List Skill = (nurse_at c n).skills in
      let skills : List ℕ = range_with_len 0 (skill_count c) in
      let shifts : List ℕ = range_with_len 0 (shift_count c) in
      let of_shift : ℕ → List Choice = λ s. map (λ k. Work (shift_at s) (skill_at k)) skills in
      let few : (s : ℕ) → count_by (offered d) (of_shift s) ≤ length own = λ s.
      omega (
        arith,
        count-map (offered d) (λ k. offered d (Work (shift_at s) (skill_at k))) (λ k. Work (shift_at s) (skill_at k)) (λ k. refl) skills,
        count-fewer (λ k. offered d (Work (shift_at s) (skill_at k))) (λ k. list_any (λ x. x.0 == k) own) (λ k e. able d (Work (shift_at s) (skill_at k)) e) skills,
        skills_few (skill_count c) own,
      ) in
      omega (
        arith,
        length-map (filter (offered d) (all_choices c)) (offer_at price d),
        length-filter (offered d) (all_choices c),
        count-cons (offered d) Off (flat_map of_shift shifts),
        one_at_most (offered d Off),
        count-flat_few (offered d) of_shift (length own) few shifts,
        ap (λ m. m * length own) (length-range_with_len 0 (shift_count c)),
      )

-- an offered choice is one that the nurse is able to take
offered_able : (c : Meaning) (from : ℕ) (r : Rows) (n d : ℕ) (x : Choice) → is_offered c from r n d x ≡ true → is_able (nurse_at c n).skills x ≡ true
offered_able c from r n d x e =
    let may : Bool = may_take c n d x in
    let met : Bool = meets c d (with_choice (others r n d) x) in
    (and_parts (is_able (nurse_at c n).skills x) (is_here c n d x) (and_parts may met (and_parts (may && met) (keeps_frozen_day c from r n d x) e).0).0).0

module _ (c : Meaning) (from : ℕ) (r : Rows) (n d : ℕ) where
  pub offers_few : length (offers_of c from r n d) ≤ choice_count c n
  offers_few = offers_few_of c n (is_offered c from r n) (price c r n) (offered_able c from r n) d

  module _ (small : HasSmallNumbers c) (shifts : shift_count c ≤ most_shifts) (skills : skill_count c ≤ most_skills) where
    staffing_within : (have : ℕ → ℕ → ℕ) → staffing_cost_by c d have ≤ most_shifts * most_skills * staffing_weight * most_small
    staffing_within have =
        let index : ℕ → ℕ → ℕ = λ s k. staffing_weight * (optimum c d s k - have s k) in
        let of_index : (s k : ℕ) → index s k ≤ staffing_weight * most_small = λ s k. omega (arith, (small.needs d s k).optimum) in
        let of_shift : (s : ℕ) → sum_below (skill_count c) (index s) ≤ most_skills * (staffing_weight * most_small) = λ s. omega (arith, sum_within (skill_count c) (staffing_weight * most_small) (index s) (λ k h. of_index s k)) in
        omega (arith, sum_within (shift_count c) (most_skills * (staffing_weight * most_small)) (λ s. sum_below (skill_count c) (index s)) (λ s h. of_shift s))

    price_within : (x : Choice) → price c r n d x ≤ most_price
    price_within x = omega (arith, staffing_within (with_choice (others r n d) x), request_on-within c n d (shift_of x) small.keep)

    pub offers_of_case : All (IsOfferOf c) (offers_of c from r n d)
    offers_of_case =
        All-map (IsOfferOf c) (offer_of c r n d) (filter (is_offered c from r n d) (all_choices c))
        (All-filter (is_offered c from r n d) (λ x. IsOfferOf c (offer_of c r n d x)) (all_choices c)
        (All-weaker (λ x. is_choice_of c x ≡ true) (λ x. IsOfferOf c (offer_of c r n d x)) (λ x e. record { choice = e; price = price_within x }) (all_choices c) (choices_of_case c)))

    -- if no roster is kept, a change costs nothing
    price_unkept : c.keep ≡ 0 → (x : Choice) → price c r n d x ≤ most_price_unkept
    price_unkept none x = omega (arith, staffing_within (with_choice (others r n d) x), request_on-unkept c n d (shift_of x) none)

    pub offers_unkept : c.keep ≡ 0 → All (λ x. x.price ≤ most_price_unkept) (offers_of c from r n d)
    offers_unkept none =
        All-map (λ y. y.price ≤ most_price_unkept) (offer_of c r n d) (filter (is_offered c from r n d) (all_choices c))
        (All-filter (is_offered c from r n d) (λ x. price c r n d x ≤ most_price_unkept) (all_choices c)
        (All-weaker (λ x. is_choice_of c x ≡ true) (λ x. price c r n d x ≤ most_price_unkept) (λ x e. price_unkept none x) (all_choices c) (choices_of_case c)))

  module _ (fits : fits_case c r ≡ true) (keeps : keeps_hard c r ≡ true) (inside : n < nurse_count c) (day : d < day_count c) where
    abbrev present : Choice
    present = choice_on (row_of r n) d

    -- the present choice is open, and offered
    pub present_open : is_open c r n d present ≡ true
    present_open =
        let row = row_of r n in
        let kept : is_open_row c r n row (day_count c) ≡ true = sym (keeps_hard-with_row c r keeps n (has_row c r n fits inside) inside row) ∙ ap (keeps_hard c) (set-get_or r n []) ∙ keeps in
        (and_parts (is_open c r n d present) (not (breaks_succession c n (days_of row) d)) (all_elim (day_count c) (λ k. is_open c r n k (choice_on row k) && not (breaks_succession c n (days_of row) k)) kept d day)).0

    present_offered : is_offered c from r n d present ≡ true
    present_offered =
        and_from (is_open c r n d present) (keeps_frozen_day c from r n d present) present_open
        (all_elim (day_count c) (λ k. keeps_frozen_day c from r n k (choice_on (row_of r n) k)) (present_stays c from r n) d day)

    pub present_of_case : is_choice_of c present ≡ true
    present_of_case =
        All-get_or (λ x. is_choice_of c x ≡ true) (row_of r n) d Off (omega (arith, day, row-length c r n fits inside))
        (AllPass-from_list_all (is_choice_of c) (row_of r n) (and_parts (length (row_of r n) == day_count c) (list_all (is_choice_of c) (row_of r n)) (row_fits c r n fits inside)).1)

    abbrev offered_choices : List Choice
    offered_choices = filter (is_offered c from r n d) (all_choices c)

    some_offered : 0 < length offered_choices
    some_offered = omega (arith, length-filter (is_offered c from r n d) (all_choices c), choice_counted c (is_offered c from r n d) present present_of_case present_offered)

    pub offers_some : 0 < length (offers_of c from r n d)
    offers_some = omega (arith, length-map offered_choices (offer_of c r n d), some_offered)

    -- on a frozen day it is the only one
    pub offers_frozen : is_frozen c from n d ≡ true → offers_of c from r n d ≡ offer_of c r n d present ∷ []
    offers_frozen frozen =
        let is_present : (x : Choice) → is_offered c from r n d x ≡ true → x ≡ present = λ x e. frozen_is c from r n d x (and_parts (is_open c r n d x) (keeps_frozen_day c from r n d x) e).1 frozen in
        let few : length offered_choices ≤ 1 =
        omega (
          arith,
          length-filter (is_offered c from r n d) (all_choices c),
          count-fewer (is_offered c from r n d) (same_choice present) (λ x e. ap (same_choice present) (is_present x e) ∙ same_choice_self present) (all_choices c),
          count-choices c present,
          one_at_most (is_choice_of c present),
        ) in
        ap (map (offer_of c r n d)) (only_one present offered_choices some_offered few (All-weaker (λ x. is_offered c from r n d x ≡ true) (λ x. x ≡ present) is_present offered_choices (filter_passes (is_offered c from r n d) (all_choices c))))

  -- on another day everything that is open is offered
  pub offers_free : is_frozen c from n d ≡ false → offers_of c from r n d ≡ open_offers c r n d
  offers_free free = λ i. map (offer_of c r n d) (filter (λ x. (ap (λ b. is_open c r n d x && (not b || same_choice x (choice_on (row_of r n) d))) free ∙ and-true (is_open c r n d x)) i) (all_choices c))
