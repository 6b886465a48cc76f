-- The most reachable states: on a day no more than the nurse has, nor than have their numbers in the boxes,
-- and one if only one state is in the boxes.
use Rattle.std.proofs.Common.{◌≡◌, ◌+◌, ◌*◌, ◌<◌, ◌≤◌, ◌≢◌, ◌⊎◌, ℕ, zero, suc, inl, inr, ap, arith, mul-pos, subst, sym, List, length}
use Rattle.std.proofs.lemmas.Bool.{cases_lt}
use Rattle.std.proofs.lemmas.Nat.{mul-le}
use Rattle.roster_instance.specs.Counting.{sum_below}
use Rattle.roster_instance.specs.Meaning.{Meaning, day_count}
use Rattle.roster_instance.specs.Sizes.{choice_count}
use Rattle.roster_laws.specs.Greatest.{extension_count}
use Rattle.roster_rules.specs.Prefix.{Summary}
use Rattle.roster_rules.proofs.RunBounds.{sum_compared, sum_within, where_within}
use Rattle.roster_rules.proofs.RunSums.{sum_zero}
use Rattle.roster_state.specs.declared.state_box.StateBox.{StateBox}
use Rattle.roster_state.specs.declared.state_box.Interval.{Interval}
use Rattle.roster_state.specs.Boxes.{box_at, empty_box, one_state}
use Rattle.roster_state.specs.Codes.{Sizes, product, shift_digit, sizes_of}
use Rattle.roster_state.specs.Reachable.{can_be}
use Rattle.roster_offers.specs.declared.offer.Offer.{Offer}
use Rattle.roster_tables.specs.Counts.{group_of, numbers_in, states_in, states_in_boxes, states_of_last, states_of_run, states_on, states_with, sum_over}
use Rattle.roster_tables.specs.Search.{SomeReachable, boxes_on, reachable_extensions, extensions_on}
use Rattle.roster_tables.proofs.CountLaws.{one_reachable_on}
use Rattle.roster_tables.proofs.DayLaws.{group_digit}
use Rattle.roster_tables.proofs.SearchLaws.{extension_is}

-- ---- sums

over_few : (interval : Interval) (size many most : ℕ) (f : ℕ → ℕ) → numbers_in interval size ≤ many → ((x : ℕ) → f x ≤ most) → sum_over interval size f ≤ many * most
over_few interval size many most f few each =
    omega (arith, sum_within (numbers_in interval size) most (λ i. f (interval.least + i)) (λ i below. each (interval.least + i)), mul-le (numbers_in interval size) most many most few (omega arith))

-- all of a sum's numbers but one are 0
sum_alone : (m place most : ℕ) (f : ℕ → ℕ) → f place ≤ most → ((i : ℕ) → i ≢ place → f i ≡ 0) → sum_below m f ≤ most
sum_alone zero place most f here others = omega arith
sum_alone (suc m) place most f here others = go (sum_alone m place most f here others) (cases_lt m place) (cases_lt place m)
  where
    other : sum_below m f ≤ most → m ≢ place → sum_below m f + f m ≤ most
    other before ne = omega (arith, before, others m ne)

    go : sum_below m f ≤ most → (m < place) ⊎ (place ≤ m) → (place < m) ⊎ (m ≤ place) → sum_below m f + f m ≤ most
    go before (inl below) q = let ne : m ≢ place = omega arith in other before ne
    go before (inr from) (inl above) = let ne : m ≢ place = omega arith in other before ne
    go before (inr from) (inr up_to) =
        let is : m ≡ place = omega (arith, from, up_to) in
        let none : sum_below m f ≡ 0 = sum_zero m f (λ i below. (let ne : i ≢ place = omega arith in others i ne)) in
        omega (arith, none, here, ap f is)

-- ---- the states of a day

-- a box has no more than that many numbers of each kind
record HasFew (z most : Sizes) (state_box : StateBox) : Type 0 where
  run : numbers_in state_box.run z.run ≤ most.run
  shift_run : numbers_in state_box.shift_run z.shift_run ≤ most.shift_run
  weekends : numbers_in state_box.weekends z.weekends ≤ most.weekends
  assignments : numbers_in state_box.assignments z.assignments ≤ most.assignments

-- the states with one last shift
abbrev each_last : Sizes → ℕ
each_last most = most.run * (most.shift_run * (most.weekends * most.assignments))

abbrev all_sizes : ℕ → Sizes
all_sizes size = record { last = size; run = size; shift_run = size; assignments = size; weekends = size }

module _ (c : Meaning) (n : ℕ) (boxes : List StateBox) where
  module _ (last : ℕ) (most : Sizes) (few : HasFew (sizes_of c n) most (box_at boxes last)) where
    few_with : (run shift_run : ℕ) → states_with c n boxes (group_of last run shift_run) ≤ most.weekends * most.assignments
    few_with run shift_run =
        let z = sizes_of c n in
        let group = group_of last run shift_run in
        let here : HasFew z most (box_at boxes (shift_digit group.last)) = subst (λ d. HasFew z most (box_at boxes d)) (sym (group_digit last run shift_run)) few in
        let state_box = box_at boxes (shift_digit group.last) in
        where_within (can_be c n group) (numbers_in state_box.weekends z.weekends * numbers_in state_box.assignments z.assignments) (most.weekends * most.assignments)
        (mul-le (numbers_in state_box.weekends z.weekends) (numbers_in state_box.assignments z.assignments) most.weekends most.assignments here.weekends here.assignments)

    few_of_run : (run : ℕ) → states_of_run c n boxes last run ≤ most.shift_run * (most.weekends * most.assignments)
    few_of_run run = over_few (box_at boxes last).shift_run (sizes_of c n).shift_run most.shift_run (most.weekends * most.assignments) (λ shift_run. states_with c n boxes (group_of last run shift_run)) few.shift_run (few_with run)

    few_of_last : states_of_last c n boxes last ≤ each_last most
    few_of_last = over_few (box_at boxes last).run (sizes_of c n).run most.run (most.shift_run * (most.weekends * most.assignments)) (states_of_run c n boxes last) few.run few_of_run

  pub states_few : states_on c n boxes ≤ product (sizes_of c n)
  states_few =
      let z = sizes_of c n in
      let all : states_on c n boxes ≤ z.last * each_last z = sum_within z.last (each_last z) (states_of_last c n boxes) (λ last below. few_of_last last z (record { run = omega arith; shift_run = omega arith; weekends = omega arith; assignments = omega arith })) in
      omega (arith, all)

  module _ (place : ℕ) (state : Summary) (alone : box_at boxes place ≡ one_state state) (others : (digit : ℕ) → digit ≢ place → box_at boxes digit ≡ empty_box) where
    few_there : HasFew (sizes_of c n) (all_sizes 1) (box_at boxes place)
    few_there = subst (HasFew (sizes_of c n) (all_sizes 1)) (sym alone) (record { run = omega arith; shift_run = omega arith; weekends = omega arith; assignments = omega arith })

    few_elsewhere : (digit : ℕ) → digit ≢ place → HasFew (sizes_of c n) (all_sizes 0) (box_at boxes digit)
    few_elsewhere digit ne = subst (HasFew (sizes_of c n) (all_sizes 0)) (sym (others digit ne)) (record { run = omega arith; shift_run = omega arith; weekends = omega arith; assignments = omega arith })

    pub one_reachable : states_on c n boxes ≤ 1
    one_reachable = sum_alone (sizes_of c n).last place 1 (states_of_last c n boxes) (few_of_last place (all_sizes 1) few_there) (λ digit ne. omega (arith, few_of_last digit (all_sizes 0) (few_elsewhere digit ne)))

-- ---- by the boxes alone

module _ (z : Sizes) (boxes : List StateBox) where
  box_few : (last : ℕ) → states_in z (box_at boxes last) ≤ each_last z
  box_few last =
      let state_box = box_at boxes last in
      mul-le (numbers_in state_box.run z.run) (numbers_in state_box.shift_run z.shift_run * (numbers_in state_box.weekends z.weekends * numbers_in state_box.assignments z.assignments)) z.run (z.shift_run * (z.weekends * z.assignments)) (omega arith)
      (mul-le (numbers_in state_box.shift_run z.shift_run) (numbers_in state_box.weekends z.weekends * numbers_in state_box.assignments z.assignments) z.shift_run (z.weekends * z.assignments) (omega arith)
      (mul-le (numbers_in state_box.weekends z.weekends) (numbers_in state_box.assignments z.assignments) z.weekends z.assignments (omega arith) (omega arith)))

  -- of that many last shifts
  pub boxes_few : (count : ℕ) → count ≤ z.last → sum_below count (λ last. states_in z (box_at boxes last)) ≤ product z
  boxes_few count up_to =
      omega (arith, sum_within count (each_last z) (λ last. states_in z (box_at boxes last)) (λ last below. box_few last), mul-le count (each_last z) z.last (each_last z) up_to (omega arith))

pub states_in_few : (c : Meaning) (n : ℕ) (boxes : List StateBox) → states_on c n boxes ≤ states_in_boxes (sizes_of c n) boxes
states_in_few c n boxes =
    let z = sizes_of c n in
    sum_compared z.last (states_of_last c n boxes) (λ last. states_in z (box_at boxes last)) (λ last.
    let state_box = box_at boxes last in
    few_of_last c n boxes last (record { last = 0; run = numbers_in state_box.run z.run; shift_run = numbers_in state_box.shift_run z.shift_run; weekends = numbers_in state_box.weekends z.weekends; assignments = numbers_in state_box.assignments z.assignments })
    (record { run = omega arith; shift_run = omega arith; weekends = omega arith; assignments = omega arith }))

-- ---- the days of a search

pub reachable_within : (c : Meaning) (n : ℕ) (offers : ℕ → List Offer) (boxes : List (List StateBox)) → ((day : ℕ) → day < day_count c → length (offers day) ≤ choice_count c n) → reachable_extensions c n offers boxes ≤ extension_count c n
reachable_within c n offers boxes few =
    let all = sum_within (day_count c) (product (sizes_of c n) * choice_count c n) (extensions_on c n offers boxes) (λ day within. mul-le (states_on c n (boxes_on boxes day)) (length (offers day)) (product (sizes_of c n)) (choice_count c n) (states_few c n (boxes_on boxes day)) (few day within)) in
    omega (arith, all, extension_is c n)

-- at least one for each day

sum_some : (m : ℕ) (f : ℕ → ℕ) → ((i : ℕ) → i < m → 0 < f i) → m ≤ sum_below m f
sum_some zero f each = omega arith
sum_some (suc m) f each = let before = sum_some m f (λ i below. each i (omega (arith, below))) in omega (arith, before, each m (omega arith))

pub reachable_some : (c : Meaning) (n : ℕ) (offers : ℕ → List Offer) (boxes : List (List StateBox)) → ((day : ℕ) → day < day_count c → SomeReachable c n (boxes_on boxes day) × (0 < length (offers day))) → day_count c ≤ reachable_extensions c n offers boxes
reachable_some c n offers boxes each =
    sum_some (day_count c) (extensions_on c n offers boxes) (λ day within. let here = each day within in mul-pos (one_reachable_on c n (boxes_on boxes day) here.0.state here.0.reachable) here.1)
