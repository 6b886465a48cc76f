-- What assignments and worked weekends cost from a day on: by the first of the days to come, and at least,
-- whatever comes.
use Rattle.std.proofs.Common.{◌≡◌, ◌+◌, ◌-◌, ◌*◌, ◌<◌, ◌≤◌, ◌⊎◌, ℕ, Bool, true, false, inl, inr, ap, arith, max, min, mul-add, mul-le-mul_left, mul-le-mul_right, nat_le, refl, if◌then◌else◌}
use Rattle.std.proofs.lemmas.Bool.{cases_lt, le-leb, lt-leb}
use Rattle.roster_instance.specs.declared.rules.Limits.{Limits}
use Rattle.roster_instance.specs.Counting.{one_if}
use Rattle.roster_instance.specs.Sizes.{cap}
use Rattle.roster_rules.specs.Weights.{assignment_weight, weekend_weight}
use Rattle.roster_completion.specs.Later.{total_later, weekends_later}

-- ---- the first of the days to come

pub total_day : (l : Limits) (a more : ℕ) (works : Bool) → a ≤ cap l → total_later l a (one_if works + more) ≡ (if nat_le l.greatest a then assignment_weight * one_if works else 0) + total_later l (min (a + one_if works) (cap l)) more
total_day l a more works few = go (cases_lt a l.greatest) works
  where
    go : (a < l.greatest) ⊎ (l.greatest ≤ a) → (works : Bool) → total_later l a (one_if works + more) ≡ (if nat_le l.greatest a then assignment_weight * one_if works else 0) + total_later l (min (a + one_if works) (cap l)) more
    go (inl below) true = rw (lt-leb l.greatest a below) (omega (arith, few, below))
    go (inl below) false = rw (lt-leb l.greatest a below) (omega (arith, few, below))
    go (inr above) true = rw (le-leb l.greatest a above) (omega (arith, few, above))
    go (inr above) false = rw (le-leb l.greatest a above) (omega (arith, few, above))

pub weekends_day : (g w more x : ℕ) → x ≤ 1 → w ≤ g → weekends_later g w (x + more) ≡ (if nat_le g w then weekend_weight * x else 0) + weekends_later g (min (w + x) g) more
weekends_day g w more x one few = go (cases_lt w g)
  where
    go : (w < g) ⊎ (g ≤ w) → weekends_later g w (x + more) ≡ (if nat_le g w then weekend_weight * x else 0) + weekends_later g (min (w + x) g) more
    go (inl below) = rw (lt-leb g w below) (omega (arith, one, few, below))
    go (inr above) = rw (le-leb g w above) (omega (arith, one, few, above))

-- ---- at least, whatever comes

-- if some of the items are free, a rate for the free ones costs no more than the rate for all of them and the
-- weight for each other one
at_rate : (rate weight free k : ℕ) → rate ≤ weight → rate * k ≤ rate * free + weight * (k - free)
at_rate rate weight free k small = go (cases_lt k free)
  where
    go : (k < free) ⊎ (free ≤ k) → rate * k ≤ rate * free + weight * (k - free)
    go (inl fewer) =
        let each : rate * k ≤ rate * free = mul-le-mul_left rate (omega (arith, fewer)) in
        omega (arith, each)
    go (inr more) =
        let all : k ≡ free + (k - free) = omega (arith, more) in
        let each : rate * (k - free) ≤ weight * (k - free) = mul-le-mul_right (k - free) small in
        omega (arith, each, ap (λ i. rate * i) all, mul-add rate free (k - free))

-- this number of further assignments are free: as many as can come up to the cap
abbrev pub free_days : Limits → (count left : ℕ) → ℕ
free_days l a left = min (cap l - a) left

-- what is missing in any case, and what comes beyond the free assignments, is due in the end
missing_and_over : (l : Limits) (a k left : ℕ) → k ≤ left → l.least - (a + free_days l a left) + (k - free_days l a left) ≤ (a + k - max a l.greatest) + (l.least - (a + k))
missing_and_over l a k left few = go (free_days l a left) refl
  where
    go : (free : ℕ) → free ≡ min (cap l - a) left → l.least - (a + free) + (k - free) ≤ (a + k - max a l.greatest) + (l.least - (a + k))
    go free is = omega (arith, few, is)

-- the same at a rate, if each costs this weight
at_weight : (rate weight free k missing due : ℕ) → rate * k ≤ rate * free + weight * (k - free) → missing + (k - free) ≤ due → weight * missing + rate * k ≤ weight * due + rate * free
at_weight rate weight free k missing due paid all =
    let most : weight * (missing + (k - free)) ≤ weight * due = mul-le-mul_left weight all in
    omega (arith, paid, most, mul-add weight missing (k - free))

pub total_at_least : (scale : ℕ) (l : Limits) (rate a k left : ℕ) → rate ≤ scale * assignment_weight → k ≤ left → scale * (assignment_weight * (l.least - (a + free_days l a left))) + rate * k ≤ scale * total_later l a k + rate * free_days l a left
total_at_least scale l rate a k left small few =
    go (free_days l a left) (l.least - (a + free_days l a left)) ((a + k - max a l.greatest) + (l.least - (a + k)))
    (at_weight rate (scale * assignment_weight) (free_days l a left) k (l.least - (a + free_days l a left)) ((a + k - max a l.greatest) + (l.least - (a + k))) (at_rate rate (scale * assignment_weight) (free_days l a left) k small) (missing_and_over l a k left few))
  where
    go : (free missing due : ℕ) → scale * assignment_weight * missing + rate * k ≤ scale * assignment_weight * due + rate * free → scale * (assignment_weight * missing) + rate * k ≤ scale * (assignment_weight * due) + rate * free
    go free missing due low = omega (arith, low)

pub weekends_at_least : (scale g rate w k left : ℕ) → rate ≤ scale * weekend_weight → k ≤ left → rate * k ≤ scale * weekends_later g w k + rate * min (g - w) left
weekends_at_least scale g rate w k left small few =
    go (min (g - w) left) (w + k - max w g)
    (at_weight rate (scale * weekend_weight) (min (g - w) left) k 0 (w + k - max w g) (at_rate rate (scale * weekend_weight) (min (g - w) left) k small) (over (min (g - w) left) refl))
  where
    over : (free : ℕ) → free ≡ min (g - w) left → 0 + (k - free) ≤ w + k - max w g
    over free is = omega (arith, few, is)

    go : (free due : ℕ) → scale * weekend_weight * 0 + rate * k ≤ scale * weekend_weight * due + rate * free → rate * k ≤ scale * (weekend_weight * due) + rate * free
    go free due low = omega (arith, low)
