-- Flags by number: a flag is set if one of the items has its number.
use Rattle.std.proofs.Common.{◌≡◌, ◌∙◌, ◌+◌, ◌<◌, ◌||◌, ◌⊎◌, ◌==◌, ℕ, Bool, cond, true, false, sym, ap, arith, List, [], ◌∷◌, ◌++◌, get_or, length, map, Some, inl, inr}
use Rattle.std.proofs.Math.Bool.{or-false, or-true}
use Rattle.std.proofs.Math.ListN.{set}
use Rattle.std.specs.List.{count_by, list_any, range_with_len}
use Rattle.std.proofs.lemmas.Bool.{cases_eq, eq-eqb, ne_eqb}
use Rattle.std.proofs.lemmas.List.{ext_get_or, get_or-set_other, get_or-set_same, length-set}
use Rattle.std.proofs.lemmas.List.Folds.{list_any-append}
use Rattle.std.proofs.lemmas.List.FromFn.{get_or-map-range_with_len, length-map-range_with_len}
use Rattle.std.proofs.lemmas.List.Sums.{count_by-le-length, sum_by-set}
use Rattle.roster_bundle.specs.declared.token.Token.{Token}
use Rattle.roster_instance.specs.Bundles.{Names, numbers_among}
use Rattle.roster_instance.specs.Faults.{fault_if}
use Rattle.roster_instance.specs.Names.{found, has_number, same_name}
use Rattle.roster_instance.specs.Refusals.{repeated_fault}
use Rattle.roster_instance.specs.declared.fault.CaseFault.TheVariants.{Repeated}
use Rattle.roster_instance.proofs.NameLemmas.{any_same_name, found-has_number}

-- ---- the number of flags that are set

module _ (flags : List Bool) (k : ℕ) (d : Bool) (within : k < length flags) (off : get_or flags k d ≡ false) where
  -- one more, after a flag is set
  pub count-on : count_by (λ flag. flag) (set flags k true) ≡ count_by (λ flag. flag) flags + 1
  count-on = omega (arith, sum_by-set one flags k true d within, ap one off)
    where
      one : Bool → ℕ
      one flag = cond flag 1 0

  -- a flag that isn't set isn't counted
  pub count-room : count_by (λ flag. flag) flags < length flags
  count-room = omega (arith, count-on, count_by-le-length (λ flag. flag) (set flags k true), length-set flags k true)

-- ---- one more item

module _ {A : Type 0} (has : ℕ → A → Bool) (m : ℕ) where
  abbrev flags : List A → List Bool
  flags xs = map (λ n. list_any (has n) xs) (range_with_len 0 m)

  flags-length : (xs : List A) → length (flags xs) ≡ m
  flags-length xs = length-map-range_with_len (λ n. list_any (has n) xs) 0 m

  flags-at : (xs : List A) (n : ℕ) (d : Bool) → n < m → get_or (flags xs) n d ≡ list_any (has n) xs
  flags-at xs n d within = get_or-map-range_with_len (λ n. list_any (has n) xs) 0 m n n d within (omega arith)

  -- the item with this number sets the flag with this number, if there is one
  flags-push : (xs : List A) (x : A) (k : ℕ) → ((n : ℕ) → has n x ≡ (k == n)) → flags (xs ++ x ∷ []) ≡ set (flags xs) k true
  flags-push xs x k number = ext_get_or true (flags (xs ++ x ∷ [])) (set (flags xs) k true)
      (flags-length (xs ++ x ∷ []) ∙ sym (length-set (flags xs) k true ∙ flags-length xs))
      (λ n inside. flag n (omega (arith, inside, flags-length (xs ++ x ∷ []))) (cases_eq n k))
    where
      either : (n : ℕ) → list_any (has n) (xs ++ x ∷ []) ≡ (list_any (has n) xs || (k == n))
      either n = list_any-append (has n) xs (x ∷ []) ∙ ap (λ b. list_any (has n) xs || b) (or-false (has n x) ∙ number n)

      flag : (n : ℕ) → n < m → (n ≡ k) ⊎ (n ≡ k → ⊥) → get_or (flags (xs ++ x ∷ [])) n true ≡ get_or (set (flags xs) k true) n true
      flag n inside (inl same) =
          flags-at (xs ++ x ∷ []) n true inside
          ∙ either n
          ∙ ap (λ b. list_any (has n) xs || b) (eq-eqb k n (sym same))
          ∙ or-true (list_any (has n) xs)
          ∙ sym (ap (λ j. get_or (set (flags xs) k true) j true) same ∙ get_or-set_same (flags xs) k true true (omega (arith, flags-length xs)))
      flag n inside (inr other) =
          flags-at (xs ++ x ∷ []) n true inside
          ∙ either n
          ∙ ap (λ b. list_any (has n) xs || b) (ne_eqb k n (λ same. other (sym same)))
          ∙ or-false (list_any (has n) xs)
          ∙ sym (get_or-set_other (flags xs) k n true true other ∙ flags-at xs n true inside)

-- ---- the numbers of names

module _ (source : List ℕ) (names : Names) (t : Token) (k : ℕ) (is : found source names t ≡ Some k) where
  pub numbers_among-push : (ts : List Token) → numbers_among source names (ts ++ t ∷ []) ≡ set (numbers_among source names ts) k true
  numbers_among-push ts = flags-push (has_number source names) 8 ts t k (found-has_number source names t k is)

  -- the flag is set if the name came before
  pub numbers_among-at : (ts : List Token) (d : Bool) → k < 8 → get_or (numbers_among source names ts) k d ≡ list_any (same_name source t) ts
  numbers_among-at ts d within = flags-at (has_number source names) 8 ts k d within ∙ sym (any_same_name source names t k is ts)

  -- so this token's name is repeated if its flag is set
  pub repeated_by_flag : (flags : List Bool) (ts : List Token) (d : Bool) → k < 8 → flags ≡ numbers_among source names ts → repeated_fault source ts t ≡ fault_if (get_or flags k d) (Repeated t.line)
  repeated_by_flag flags ts d within are = ap (λ b. fault_if b (Repeated t.line)) (sym (ap (λ fs. get_or fs k d) are ∙ numbers_among-at ts d within))
