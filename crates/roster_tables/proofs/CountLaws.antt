-- How many states are reachable: of a group, and of the groups so far.
use Rattle.std.proofs.Common.{mul-pos, refl, subst, ◌≡◌, ◌∙◌, ◌+◌, ◌-◌, ◌*◌, ◌<◌, ◌≤◌, ◌⊎◌, ℕ, zero, suc, inl, inr, Bool, true, false, ap, arith, sym, List, min, if◌then◌else◌}
use Rattle.std.proofs.lemmas.Bool.{cases_lt}
use Rattle.std.proofs.lemmas.Nat.{mul-le}
use Rattle.roster_instance.specs.Counting.{sum_below}
use Rattle.roster_instance.specs.Meaning.{Meaning, past_of}
use Rattle.roster_rules.specs.Prefix.{Summary}
use Rattle.roster_state.specs.declared.state_box.StateBox.{StateBox}
use Rattle.roster_state.specs.declared.state_box.Interval.{Interval}
use Rattle.roster_state.specs.Boxes.{InBox, InInterval, box_at}
use Rattle.roster_state.specs.Codes.{shift_digit, shift_numbered, sizes_of}
use Rattle.roster_state.specs.Reachable.{can_be, can_be_with, excess}
use Rattle.roster_state.proofs.BoxLaw.{last_of_digit}
use Rattle.roster_state.proofs.CodeLemmas.{Fits, fits-all, shift_digit-shift_numbered}
use Rattle.roster_tables.specs.Counts.{group_of, numbers_in, states_of_last, states_of_run, states_on, states_with, sum_over}
use Rattle.roster_tables.specs.Tables.{IsReachable}

-- ---- a group

module _ (c : Meaning) (n : ℕ) (boxes : List StateBox) (group : Summary) where
  abbrev pub of_box : ℕ
  of_box = numbers_in (box_at boxes (shift_digit group.last)).weekends (sizes_of c n).weekends * numbers_in (box_at boxes (shift_digit group.last)).assignments (sizes_of c n).assignments

  pub none_with : can_be c n group ≡ false → states_with c n boxes group ≡ 0
  none_with is = ap (λ (b : Bool). if b then of_box else 0) is

  pub some_with : can_be c n group ≡ true → states_with c n boxes group ≡ of_box
  some_with is = ap (λ (b : Bool). if b then of_box else 0) is

-- one of a sum's numbers, with those before it
pub sum_part : (i m : ℕ) (f : ℕ → ℕ) → i < m → sum_below i f + f i ≤ sum_below m f
sum_part i zero f below = absurd (omega (arith, below))
sum_part i (suc m) f below = go (sum_part i m f) (cases_lt i m)
  where
    go : (i < m → sum_below i f + f i ≤ sum_below m f) → (i < m) ⊎ (m ≤ i) → sum_below i f + f i ≤ sum_below m f + f m
    go before (inl low) = omega (arith, before low)
    go before (inr high) = let is : i ≡ m = omega (arith, high, below) in omega (arith, ap (λ k. sum_below k f + f k) is)

-- ---- the numbers of an interval below a size, one after another

-- a loop takes them from a first one up to an end
pub record Goes (interval : Interval) (size begin end : ℕ) : Type 0 where
  pub end_is : end ≡ min (interval.greatest + 1) size
  pub begin_is : begin ≡ min interval.least end

-- a sum over those below a number
abbrev pub sum_to : Interval → ℕ → (ℕ → ℕ) → ℕ
sum_to interval x f = sum_below (x - interval.least) (λ i. f (interval.least + i))

module _ {interval : Interval} {size begin end : ℕ} (goes : Goes interval size begin end) where
  pub goes_over : {x : ℕ} → InInterval interval x → x < size → (begin ≤ x) × (x < end)
  goes_over inside fits = (omega (arith, goes.begin_is, inside.low), omega (arith, goes.end_is, inside.high, fits))

  pub goes_only : {x : ℕ} → begin ≤ x → x < end → InInterval interval x
  goes_only low high = record { low = omega (arith, goes.begin_is, low, high); high = omega (arith, goes.end_is, high) }

  pub goes_within : (begin ≤ end) × (end ≤ size)
  goes_within = (omega (arith, goes.begin_is), omega (arith, goes.end_is))

  pub numbers_are : end - begin ≡ numbers_in interval size
  numbers_are = omega (arith, goes.end_is, goes.begin_is)

  pub sum_begun : (f : ℕ → ℕ) → sum_to interval begin f ≡ 0
  sum_begun f = let none : begin - interval.least ≡ 0 = omega (arith, goes.begin_is) in ap (λ k. sum_below k (λ i. f (interval.least + i))) none

  pub sum_ended : (x : ℕ) (f : ℕ → ℕ) → x ≡ end → sum_to interval x f ≡ sum_over interval size f
  sum_ended x f is = ap (λ k. sum_below (k - interval.least) (λ i. f (interval.least + i))) (is ∙ goes.end_is)

  module _ (x : ℕ) (f : ℕ → ℕ) (low : begin ≤ x) (below : x < end) where
    pub sum_more : sum_to interval (x + 1) f ≡ sum_to interval x f + f x
    sum_more =
        let next : x + 1 - interval.least ≡ suc (x - interval.least) = omega (arith, low, below, goes.begin_is) in
        let here : interval.least + (x - interval.least) ≡ x = omega (arith, low, below, goes.begin_is) in
        ap (λ k. sum_below k (λ i. f (interval.least + i))) next ∙ ap (λ y. sum_to interval x f + f y) here

    pub over_part : sum_to interval x f + f x ≤ sum_over interval size f
    over_part =
        let here : interval.least + (x - interval.least) ≡ x = omega (arith, low, below, goes.begin_is) in
        omega (arith, sum_part (x - interval.least) (numbers_in interval size) (λ i. f (interval.least + i)) (omega (arith, goes.end_is, goes.begin_is, low, below)), ap f here)

-- multiplied by the number of offers
pub room_for_part : (states more all offers initial counted most : ℕ) → counted ≡ initial + states * offers → states + more ≤ all → initial + all * offers ≤ most → counted + more * offers ≤ most
room_for_part states more all offers initial counted most is part room =
    omega (arith, is, room, mul-le (states + more) offers all offers part (omega arith))

pub exactly_on : {states next : ℕ} (offers initial counted : ℕ) → counted ≡ initial + states * offers → states ≡ next → counted ≡ initial + next * offers
exactly_on offers initial counted is same = is ∙ ap (λ k. initial + k * offers) same

pub exactly_more : (states more next offers initial counted new : ℕ) → counted ≡ initial + states * offers → new ≡ counted + more * offers → next ≡ states + more → new ≡ initial + next * offers
exactly_more states more next offers initial counted new is grown sum = let both : new ≡ initial + (states + more) * offers = omega (arith, is, grown) in both ∙ ap (λ k. initial + k * offers) (sym sum)

-- ---- if a state is reachable, one is counted

module _ (c : Meaning) (n : ℕ) (boxes : List StateBox) (s : Summary) (reachable : IsReachable c n boxes s) where
  abbrev own : Summary
  own = group_of (shift_digit s.last) s.run s.shift_run

  abbrev fit : Fits (sizes_of c n) s
  fit = fits-all (sizes_of c n) s reachable.fits

  one_of : (interval : Interval) (size x : ℕ) (f : ℕ → ℕ) → InInterval interval x → x < size → 0 < f x → 0 < sum_over interval size f
  one_of interval size x f inside fits some =
      let here : interval.least + (x - interval.least) ≡ x = omega (arith, inside.low) in
      omega (arith, sum_part (x - interval.least) (numbers_in interval size) (λ i. f (interval.least + i)) (omega (arith, inside.low, inside.high, fits)), ap f here, some)

  own_counted : 0 < states_with c n boxes own
  own_counted =
      let digit = shift_digit-shift_numbered (shift_digit s.last) in
      let last : shift_numbered (shift_digit s.last) ≡ s.last = sym (last_of_digit s.last (shift_digit s.last) refl) in
      let may_be : can_be c n own ≡ true = (λ i. can_be_with c n (excess (past_of c n).border) s.run s.shift_run (last i)) ∙ reachable.can_be in
      let inside = subst (λ d. InBox (box_at boxes d) s) (sym digit) reachable.inside in
      let state_box = box_at boxes (shift_digit own.last) in
      let some : 0 < numbers_in state_box.weekends (sizes_of c n).weekends * numbers_in state_box.assignments (sizes_of c n).assignments = mul-pos {m = numbers_in state_box.weekends (sizes_of c n).weekends} {n = numbers_in state_box.assignments (sizes_of c n).assignments} (omega (arith, inside.weekends.low, inside.weekends.high, fit.weekends)) (omega (arith, inside.assignments.low, inside.assignments.high, fit.assignments)) in
      omega (arith, some_with c n boxes own may_be, some)

  pub one_reachable_on : 0 < states_on c n boxes
  one_reachable_on =
      let last = shift_digit s.last in
      let of_run = one_of (box_at boxes last).shift_run (sizes_of c n).shift_run s.shift_run (λ q. states_with c n boxes (group_of last s.run q)) reachable.inside.shift_run fit.shift_run own_counted in
      let of_last = one_of (box_at boxes last).run (sizes_of c n).run s.run (states_of_run c n boxes last) reachable.inside.run fit.run of_run in
      omega (arith, sum_part last (sizes_of c n).last (states_of_last c n boxes) fit.last, of_last)
