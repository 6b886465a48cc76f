-- The sizes of the search.
use Rattle.std.proofs.Common.{◌≡◌, ◌∙◌, ◌+◌, ◌*◌, ◌≤◌, ◌<◌, ◌⊎◌, ℕ, suc, Bool, Some, max, ap, arith, false, inl, inr, le-ltb, lt-ltb, get_or, nat_lt, subst, sym, true, List, [], ◌∷◌, ◌++◌, length, map}
use Rattle.std.proofs.lemmas.Bool.{cases_eq}
use Rattle.std.proofs.lemmas.Nat.{mul-le}
use Rattle.roster_bundle.specs.declared.bundle.Nurse.{Nurse}
use Rattle.roster_instance.specs.declared.fault.CaseFault.TheVariants.{TooManyStates}
use Rattle.roster_instance.specs.declared.rules.Limits.{Limits}
use Rattle.roster_instance.specs.Building.{HaveFewSkills}
use Rattle.roster_instance.specs.Faults.{fault_if, first_fault}
use Rattle.roster_instance.specs.Meaning.{Meaning, contract_of, no_limits, nurse_at, shift_count}
use Rattle.roster_instance.specs.Refusals.{state_fault}
use Rattle.roster_instance.specs.Limits.{most_shifts, most_skills, most_small, most_states}
use Rattle.roster_instance.specs.Sizes.{cap, choice_count, greatest_of, state_count}
use Rattle.roster_instance.specs.Small.{AreSmall}

pub greatest_of-push : (ns : List ℕ) (n : ℕ) → greatest_of (ns ++ n ∷ []) ≡ max (greatest_of ns) n
greatest_of-push [] n = omega arith
greatest_of-push (m ∷ ms) n = ap (max m) (greatest_of-push ms n) ∙ omega arith

-- the greatest cap of small numbers is small
pub greatest_cap-small : (runs : List Limits) → ((s : ℕ) → AreSmall (get_or runs s no_limits)) → greatest_of (map cap runs) ≤ most_small
greatest_cap-small [] small = omega arith
greatest_cap-small (run ∷ runs) small =
    let own = small 0 in
    let others = greatest_cap-small runs (λ s. small (suc s)) in
    omega (arith, own, others)

-- a product of ranges of 16 bits, the first of which is small, doesn't overflow
pub product-within : (a b c d e : ℕ) → a ≤ 9 → b ≤ 65536 → c ≤ 65536 → d ≤ 65536 → e ≤ 65536 → a * b * c * d * e ≤ 9 * 65536 * 65536 * 65536 * 65536
product-within a b c d e a_in b_in c_in d_in e_in =
    mul-le (a * b * c * d) e (9 * 65536 * 65536 * 65536) 65536 (mul-le (a * b * c) d (9 * 65536 * 65536) 65536 (mul-le (a * b) c (9 * 65536) 65536 (mul-le a b 9 65536 a_in b_in) c_in) d_in) e_in

-- the number of states, given the five ranges
pub states-are : (c : Meaning) (n s r g a w : ℕ) → s ≡ shift_count c → r ≡ max (cap (contract_of c n).working) (cap (contract_of c n).free) → g ≡ greatest_of (map cap c.runs)
    → a ≡ cap (contract_of c n).total → w ≡ (contract_of c n).weekends → (s + 1) * (r + 1) * (g + 1) * (a + 1) * (w + 1) ≡ state_count c n
unfolding state_count
states-are c n s r g a w shifts run shift_run total weekends = λ i. (shifts i + 1) * (run i + 1) * (shift_run i + 1) * (total i + 1) * (weekends i + 1)

-- few shifts and few skills leave few choices
pub few_choices : (c : Meaning) → shift_count c ≤ most_shifts → HaveFewSkills c.nurses → (n : ℕ) → choice_count c n ≤ 1 + most_shifts * most_skills
unfolding choice_count
few_choices c shifts skills n = omega (arith, mul-le (shift_count c) (length (nurse_at c n).skills) most_shifts most_skills shifts (skills n))

-- one more number within the bound
pub within-more : (f : ℕ → ℕ) (i most : ℕ) → ((n : ℕ) → n < i → f n ≤ most) → f i ≤ most → (n : ℕ) → n < i + 1 → f n ≤ most
within-more f i most so_far own n below = go (cases_eq n i)
  where
    go : (n ≡ i) ⊎ (n ≡ i → ⊥) → f n ≤ most
    go (inl same) = subst (λ k. f k ≤ most) (sym same) own
    go (inr other) = so_far n (omega (arith, below, other))

module _ (c : Meaning) (number : ℕ) (nurse : Nurse) (states : ℕ) (is : states ≡ state_count c number) where
  fault_by : (b : Bool) → nat_lt most_states states ≡ b → state_fault c (number, nurse) ≡ fault_if b (TooManyStates number nurse.name)
  fault_by b h = ap (λ b. fault_if b (TooManyStates number nurse.name)) (ap (nat_lt most_states) (sym is) ∙ h)

  pub too_many : most_states < states → first_fault (state_fault c (number, nurse)) ≡ Some (TooManyStates number nurse.name)
  too_many h = ap first_fault (fault_by true (lt-ltb most_states states h))

  pub few_enough : states ≤ most_states → state_fault c (number, nurse) ≡ []
  few_enough h = fault_by false (le-ltb most_states states h)
