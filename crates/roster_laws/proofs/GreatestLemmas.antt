-- The greatest of a number over all nurses.
use Rattle.std.proofs.Common.{◌≡◌, ◌+◌, ◌<◌, ◌≤◌, ◌⊎◌, ℕ, zero, suc, inl, inr, max, arith, ap, map}
use Rattle.std.specs.List.{range_with_len}
use Rattle.std.proofs.lemmas.Bool.{cases_lt}
use Rattle.roster_instance.specs.Meaning.{Meaning, nurse_count}
use Rattle.roster_instance.specs.Sizes.{greatest_of, state_count}
use Rattle.roster_laws.specs.Greatest.{IsGreatest, extension_count, greatest_extension_count, greatest_state_count}

abbrev greatest_from : (ℕ → ℕ) → ℕ → ℕ → ℕ
greatest_from size a n = greatest_of (map size (range_with_len a n))

above : (size : ℕ → ℕ) (a n k : ℕ) → a ≤ k → k < a + n → size k ≤ greatest_from size a n
above size a zero k from to = absurd (omega arith)
above size a (suc n) k from to = go (cases_lt a k) (above size (a + 1) n k)
  where
    go : (a < k) ⊎ (k ≤ a) → (a + 1 ≤ k → k < (a + 1) + n → size k ≤ greatest_from size (a + 1) n) → size k ≤ max (size a) (greatest_from size (a + 1) n)
    go (inl later) rest = omega (arith, rest (omega arith) (omega arith))
    go (inr here) rest =
        let same : k ≡ a = omega arith in
        omega (arith, ap size same)

record IsReached (size : ℕ → ℕ) (a n greatest : ℕ) : Type 0 where
  at : ℕ
  from : a ≤ at
  to : at < a + n
  is : size at ≡ greatest

reached : (size : ℕ → ℕ) (a n : ℕ) → IsReached size a (suc n) (greatest_from size a (suc n))
reached size a zero = record { at = a; from = omega arith; to = omega arith; is = omega arith }
reached size a (suc n) = go (cases_lt (size a) (greatest_from size (a + 1) (suc n))) (reached size (a + 1) n)
  where
    rest : ℕ
    rest = greatest_from size (a + 1) (suc n)

    go : (size a < rest) ⊎ (rest ≤ size a) → IsReached size (a + 1) (suc n) rest → IsReached size a (suc (suc n)) (max (size a) rest)
    go (inl less) r = record { at = r.at; from = omega (arith, r.from); to = omega (arith, r.to); is = omega (arith, r.is, less) }
    go (inr more) r = record { at = a; from = omega arith; to = omega arith; is = omega (arith, more) }

is_greatest : (size : ℕ → ℕ) (n : ℕ) → 0 < n → IsGreatest n size (greatest_from size 0 n)
is_greatest size zero some = absurd (omega arith)
is_greatest size (suc n) some =
    let r = reached size 0 n in
    record { above = λ k within. above size 0 (suc n) k (omega arith) (omega arith); nurse = r.at; inside = omega (arith, r.to); reached = r.is }

pub greatest_states : (c : Meaning) → 0 < nurse_count c → IsGreatest (nurse_count c) (state_count c) (greatest_state_count c)
unfolding greatest_state_count
greatest_states c some = is_greatest (state_count c) (nurse_count c) some

pub greatest_extensions : (c : Meaning) → 0 < nurse_count c → IsGreatest (nurse_count c) (extension_count c) (greatest_extension_count c)
unfolding greatest_extension_count
greatest_extensions c some = is_greatest (extension_count c) (nurse_count c) some
