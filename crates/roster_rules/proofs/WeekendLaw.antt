-- How one more day changes the numbers of worked days, worked weekends and split weekends.
use Rattle.std.proofs.Common.{◌≡◌, ◌≢◌, refl, ap, ◌∙◌, arith, ℕ, suc, ◌+◌, ◌-◌, ◌*◌, ◌/◌, ◌%◌, ◌<◌, ◌≤◌, Bool, true, false, not, ◌&&◌, ◌||◌, [], ◌∷◌, ◌++◌, length, if◌then◌else◌, Option, is_some}
use Rattle.std.proofs.lemmas.Bool.{eqb-true, eqb-false}
use Rattle.roster_instance.specs.declared.choice.Shift.{Shift}
use Rattle.roster_instance.specs.Counting.{sum_below, one_if, count_below}
use Rattle.roster_instance.specs.Days.{Days, works, days_worked, saturday, worked_weekends, split_weekends, one_alone}
use Rattle.roster_rules.specs.DayLaw.{is_saturday, is_sunday, weekends_more, splits_more}
use Rattle.roster_rules.proofs.DayMore.{length_more, shift_before_it, shift_of_it, off_past, off_after_it}
use Rattle.roster_rules.proofs.RunSums.{sum_same}

-- v is w with day d added, and x says whether it is worked
record More (w v : ℕ → Bool) (d : ℕ) (x : Bool) : Type 0 where
  same : (k : ℕ) → k < d → v k ≡ w k
  at : v d ≡ x
  was : w d ≡ false
  after : v (suc d) ≡ false

more_of : (days : Days) (c : Option Shift) → More (works days) (works (days ++ c ∷ [])) (length days) (is_some c)
more_of days c = record {
  same = λ k h. ap (λ (o : Option Shift). is_some o) (shift_before_it days c k h);
  at = ap (λ (o : Option Shift). is_some o) (shift_of_it days c);
  was = ap (λ (o : Option Shift). is_some o) (off_past days (length days) (omega arith));
  after = ap (λ (o : Option Shift). is_some o) (off_after_it days c);
}

pub worked_grow : (days : Days) (c : Option Shift) → days_worked (days ++ c ∷ []) ≡ days_worked days + one_if (is_some c)
worked_grow days c =
    let m = more_of days c in
    let w : ℕ → Bool = works days in
    let v : ℕ → Bool = works (days ++ c ∷ []) in
    let before : count_below (length days) v ≡ count_below (length days) w = sum_same (length days) (λ k. one_if (v k)) (λ k. one_if (w k)) (λ k h. ap (λ b. one_if b) (m.same k h)) in
    let last : one_if (v (length days)) ≡ one_if (is_some c) = ap (λ b. one_if b) m.at in
    ap (λ n. count_below n v) (length_more days c) ∙ omega (arith, before, last)

-- ---- weekends, of which those that pass f are counted

abbrev asked : (Bool → Bool → Bool) → (ℕ → Bool) → ℕ → ℕ
asked f w v = one_if (f (w (saturday v)) (w (saturday v + 1)))

weekends_before : (f : Bool → Bool → Bool) (w v : ℕ → Bool) (d : ℕ) (x : Bool) (n : ℕ) → 7 * n ≤ d → More w v d x → sum_below n (asked f v) ≡ sum_below n (asked f w)
weekends_before f w v d x n e m =
    sum_same n (asked f v) (asked f w) (λ k h. rw (m.same (saturday k) (omega arith), m.same (saturday k + 1) (omega arith)))

on_saturday : (f : Bool → Bool → Bool) (w v : ℕ → Bool) (d : ℕ) (x : Bool) (n : ℕ) → d ≡ 7 * n + 5 → More w v d x → asked f v n ≡ one_if (f x false)
on_saturday f w v d x n e m =
    let a : v (saturday n) ≡ x = ap v (omega arith) ∙ m.at in
    let b : v (saturday n + 1) ≡ false = ap v (omega arith) ∙ m.after in
    rw (a, b)

on_sunday : (f : Bool → Bool → Bool) (w v : ℕ → Bool) (d : ℕ) (x : Bool) (n : ℕ) → d ≡ 7 * n + 6 → More w v d x → asked f v n ≡ one_if (f (w (d - 1)) x)
on_sunday f w v d x n e m =
    let a : v (saturday n) ≡ w (d - 1) = m.same (saturday n) (omega arith) ∙ ap w (omega arith) in
    let b : v (saturday n + 1) ≡ x = ap v (omega arith) ∙ m.at in
    rw (a, b)

before_sunday : (f : Bool → Bool → Bool) (w v : ℕ → Bool) (d : ℕ) (x : Bool) (n : ℕ) → d ≡ 7 * n + 6 → More w v d x → asked f w n ≡ one_if (f (w (d - 1)) false)
before_sunday f w v d x n e m =
    let a : w (saturday n) ≡ w (d - 1) = ap w (omega arith) in
    let b : w (saturday n + 1) ≡ false = ap w (omega arith) ∙ m.was in
    rw (a, b)

saturday_alone : (x : Bool) → one_if (x || false) ≡ one_if x
saturday_alone true = refl
saturday_alone false = refl

one_of_two : (y x : Bool) → one_if (y || x) ≡ one_if (y || false) + one_if (not y && x)
one_of_two true x = omega arith
one_of_two false true = omega arith
one_of_two false false = refl

-- the number of weekends that have begun within d days
begun : (d n : ℕ) → 7 * n ≤ d + 1 → d < 7 * n + 6 → (d + 1) / 7 ≡ n
begun d n h k = omega arith

ended : (d n : ℕ) → 7 * n ≤ d → d < 7 * n + 7 → d / 7 ≡ n
ended d n h k = omega arith

abbrev worked_in : (ℕ → Bool) → ℕ → ℕ
worked_in w d = sum_below ((d + 1) / 7) (asked (λ a b. a || b) w)

worked_by : (w v : ℕ → Bool) (d : ℕ) (x s t : Bool) → More w v d x → is_saturday d ≡ s → is_sunday d ≡ t → worked_in v (suc d) ≡ worked_in w d + (if s then one_if x else if t then one_if (not (w (d - 1)) && x) else 0)
worked_by w v d x true t m e f =
    let n : ℕ = d / 7 in
    let at : d ≡ 7 * n + 5 = omega (arith, eqb-true (d % 7) 5 e) in
    let old : (d + 1) / 7 ≡ n = begun d n (omega arith) (omega arith) in
    let new : (suc d + 1) / 7 ≡ suc n = begun (suc d) (suc n) (omega arith) (omega arith) in
    let rest = weekends_before (λ a b. a || b) w v d x n (omega arith) m in
    let one = on_saturday (λ a b. a || b) w v d x n at m ∙ saturday_alone x in
    rw (old, new) (omega (arith, rest, one))
worked_by w v d x false true m e f =
    let n : ℕ = d / 7 in
    let at : d ≡ 7 * n + 6 = omega (arith, eqb-true (d % 7) 6 f) in
    let old : (d + 1) / 7 ≡ suc n = begun d (suc n) (omega arith) (omega arith) in
    let new : (suc d + 1) / 7 ≡ suc n = begun (suc d) (suc n) (omega arith) (omega arith) in
    let rest = weekends_before (λ a b. a || b) w v d x n (omega arith) m in
    let is = on_sunday (λ a b. a || b) w v d x n at m in
    let was = before_sunday (λ a b. a || b) w v d x n at m in
    rw (old, new) (omega (arith, rest, is, was, one_of_two (w (d - 1)) x))
worked_by w v d x false false m e f =
    let n : ℕ = d / 7 in
    let no_saturday : d % 7 ≢ 5 = eqb-false (d % 7) 5 e in
    let no_sunday : d % 7 ≢ 6 = eqb-false (d % 7) 6 f in
    let old : (d + 1) / 7 ≡ n = begun d n (omega arith) (omega arith) in
    let new : (suc d + 1) / 7 ≡ n = begun (suc d) n (omega arith) (omega arith) in
    let rest = weekends_before (λ a b. a || b) w v d x n (omega arith) m in
    rw (old, new) (omega (arith, rest))

pub weekends_grow : (days : Days) (c : Option Shift) → worked_weekends (days ++ c ∷ []) ≡ worked_weekends days + weekends_more (length days) (works days (length days - 1)) (is_some c)
weekends_grow days c =
    ap (λ n. worked_in (works (days ++ c ∷ [])) n) (length_more days c)
    ∙ worked_by (works days) (works (days ++ c ∷ [])) (length days) (is_some c) (is_saturday (length days)) (is_sunday (length days)) (more_of days c) refl refl

abbrev split_in : (ℕ → Bool) → ℕ → ℕ
split_in w d = sum_below (d / 7) (asked one_alone w)

split_by : (w v : ℕ → Bool) (d : ℕ) (x t : Bool) → More w v d x → is_sunday d ≡ t → split_in v (suc d) ≡ split_in w d + (if t then one_if (one_alone (w (d - 1)) x) else 0)
split_by w v d x true m f =
    let n : ℕ = d / 7 in
    let at : d ≡ 7 * n + 6 = omega (arith, eqb-true (d % 7) 6 f) in
    let new : suc d / 7 ≡ suc n = ended (suc d) (suc n) (omega arith) (omega arith) in
    let rest = weekends_before one_alone w v d x n (omega arith) m in
    let one = on_sunday one_alone w v d x n at m in
    rw new (omega (arith, rest, one))
split_by w v d x false m f =
    let n : ℕ = d / 7 in
    let no_sunday : d % 7 ≢ 6 = eqb-false (d % 7) 6 f in
    let new : suc d / 7 ≡ n = ended (suc d) n (omega arith) (omega arith) in
    let rest = weekends_before one_alone w v d x n (omega arith) m in
    rw new (omega (arith, rest))

pub splits_grow : (days : Days) (c : Option Shift) → split_weekends (days ++ c ∷ []) ≡ split_weekends days + splits_more (length days) (works days (length days - 1)) (is_some c)
splits_grow days c =
    ap (λ n. split_in (works (days ++ c ∷ [])) n) (length_more days c)
    ∙ split_by (works days) (works (days ++ c ∷ [])) (length days) (is_some c) (is_sunday (length days)) (more_of days c) refl
