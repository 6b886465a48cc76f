-- The faults of the items of a section, one after the other.
use Rattle.std.proofs.Common.{◌≡◌, ◌∙◌, ◌+◌, ◌<◌, ℕ, refl, sym, ap, ap₂, arith, subst, List, [], ◌∷◌, ◌++◌, append_assoc, get_or, length, map, take, drop, Some}
use Rattle.std.specs.List.{enumerate_from, flat_map}
use Rattle.std.specs.Prelude.{IfErr, Result}
use Rattle.std.specs.Result.{IsErrAnd}
use Rattle.std.proofs.lemmas.Result.{err_from_is_err_and}
use Rattle.std.proofs.lemmas.List.{append-nil, drop_more, length-take-le, length_push, map_push, take-append-drop, take_more}
use Rattle.roster_bundle.specs.Token.{text_of}
use Rattle.roster_bundle.specs.declared.token.Token.{Token}
use Rattle.roster_instance.specs.Checking.{IsFirst}
use Rattle.roster_instance.specs.Faults.{each, each_after, first_fault}
use Rattle.roster_instance.specs.Names.{names_of}
use Rattle.roster_instance.specs.declared.fault.CaseFault.{CaseFault}

-- ---- what is built after one more item

pub built_more : {A B : Type 0} (f : A → B) (earlier : List A) (x : A) (old new : List B) (y : B) → old ≡ map f earlier → new ≡ old ++ y ∷ [] → y ≡ f x → new ≡ map f (earlier ++ x ∷ [])
built_more f earlier x old new y so_far pushed meant = pushed ∙ ap₂ (λ ys z. ys ++ z ∷ []) so_far meant ∙ sym (map_push f earlier x)

pub names_more : {A : Type 0} (source : List ℕ) (name : A → Token) (earlier : List A) (x : A) (old new : List (List ℕ)) → old ≡ names_of source (map name earlier) → new ≡ old ++ text_of source (name x) ∷ [] → new ≡ names_of source (map name (earlier ++ x ∷ []))
names_more source name earlier x old new so_far added =
    built_more (text_of source) (map name earlier) (name x) old new _ so_far added refl ∙ sym (ap (map (text_of source)) (map_push name earlier x))

-- ---- the first of two lists of faults

pub first-front : {F : Type 0} (xs ys : List F) (f : F) → first_fault xs ≡ Some f → first_fault (xs ++ ys) ≡ Some f
first-front [] ys f e = absurd (cc)
first-front (x ∷ xs) ys f e = e

pub first-after : {F : Type 0} (xs ys : List F) (f : F) → xs ≡ [] → first_fault ys ≡ Some f → first_fault (xs ++ ys) ≡ Some f
first-after xs ys f none e = ap (λ zs. first_fault (zs ++ ys)) none ∙ e

pub both_none : {F : Type 0} (xs ys : List F) → xs ≡ [] → ys ≡ [] → xs ++ ys ≡ []
both_none xs ys none none_after = ap₂ (λ fs gs. fs ++ gs) none none_after

pub alone-first : {F : Type 0} (xs : List F) (f : F) → xs ≡ f ∷ [] → first_fault xs ≡ Some f
alone-first xs f e = ap first_fault e

pub IsFirst-front : (xs ys : List CaseFault) (f : CaseFault) → IsFirst xs f → IsFirst (xs ++ ys) f
IsFirst-front xs ys f first other = first-front xs ys f (first other)

pub IsFirst-after : (xs ys : List CaseFault) (f : CaseFault) → xs ≡ [] → IsFirst ys f → IsFirst (xs ++ ys) f
IsFirst-after xs ys f none first other = first-after xs ys f none (first other)

pub IsFirst-alone : (xs : List CaseFault) (f : CaseFault) → xs ≡ f ∷ [] → IsFirst xs f
IsFirst-alone xs f e other = alone-first xs f e

-- ---- faults that are passed on by a `?`

-- the fault of a call, passed on unchanged
pub IsFirst-through : {T : Type 0} (r : Result T CaseFault) (f : CaseFault) (fs : List CaseFault) → IsErrAnd r (λ y. y ≡ f) → IsFirst fs f → IfErr r (IsFirst fs)
IsFirst-through r f fs came first = let p = err_from_is_err_and r came in rw (p.1, p.2) first

-- ---- the faults of each item

module _ {A F : Type 0} (faults : List A → A → List F) where
  each_after-append : (earlier xs ys : List A) → each_after faults earlier (xs ++ ys) ≡ each_after faults earlier xs ++ each_after faults (earlier ++ xs) ys
  each_after-append earlier [] ys = ap (λ zs. each_after faults zs ys) (sym (append-nil earlier))
  each_after-append earlier (x ∷ xs) ys =
      ap (λ fs. faults earlier x ++ fs) (each_after-append (earlier ++ x ∷ []) xs ys
      ∙ ap (λ zs. each_after faults (earlier ++ x ∷ []) xs ++ each_after faults zs ys) (append_assoc earlier (x ∷ []) xs))
      ∙ sym (append_assoc (faults earlier x) (each_after faults (earlier ++ x ∷ []) xs) (each_after faults (earlier ++ x ∷ xs) ys))

  pub each-append : (xs ys : List A) → each faults (xs ++ ys) ≡ each faults xs ++ each_after faults xs ys
  each-append xs ys = each_after-append [] xs ys

  pub each-push : (xs : List A) (x : A) → each faults (xs ++ x ∷ []) ≡ each faults xs ++ faults xs x
  each-push xs x = each-append xs (x ∷ []) ∙ ap (λ fs. each faults xs ++ fs) (append-nil (faults xs x))

  -- the faults before item i, its own, and those after it
  pub each-at : (xs : List A) (i : ℕ) (d : A) → i < length xs
      → each faults xs ≡ each faults (take i xs) ++ (faults (take i xs) (get_or xs i d) ++ each_after faults (take i xs ++ get_or xs i d ∷ []) (drop (i + 1) xs))
  each-at xs i d within =
      ap (each faults) (sym (take-append-drop i xs) ∙ ap (λ ys. take i xs ++ ys) (drop_more xs i d within))
      ∙ each-append (take i xs) (get_or xs i d ∷ drop (i + 1) xs)

  -- one more item without a fault
  pub each-more_none : (xs : List A) (x : A) → each faults xs ≡ [] → faults xs x ≡ [] → each faults (xs ++ x ∷ []) ≡ []
  each-more_none xs x so_far none = each-push xs x ∙ both_none (each faults xs) (faults xs x) so_far none

  -- the first fault of an item, if the items before it have none
  pub each-first : (xs : List A) (i : ℕ) (d : A) (f : F) → i < length xs → each faults (take i xs) ≡ [] → first_fault (faults (take i xs) (get_or xs i d)) ≡ Some f → first_fault (each faults xs) ≡ Some f
  each-first xs i d f within so_far first =
      let own = faults (take i xs) (get_or xs i d) in
      let rest = each_after faults (take i xs ++ get_or xs i d ∷ []) (drop (i + 1) xs) in
      ap first_fault (each-at xs i d within) ∙ first-after (each faults (take i xs)) (own ++ rest) f so_far (first-front own rest f first)

pub IsFirst-each : {A : Type 0} (faults : List A → A → List CaseFault) (xs : List A) (i : ℕ) (d : A) (f : CaseFault) → i < length xs → each faults (take i xs) ≡ []
    → IsFirst (faults (take i xs) (get_or xs i d)) f → IsFirst (each faults xs) f
IsFirst-each faults xs i d f within so_far first other = each-first faults xs i d f within so_far (first other)

-- ---- faults that don't depend on the items before

each_after-alike : {A F : Type 0} (f : A → List F) (earlier xs : List A) → each_after (λ _ x. f x) earlier xs ≡ flat_map f xs
each_after-alike f earlier [] = refl
each_after-alike f earlier (x ∷ xs) = ap (λ fs. f x ++ fs) (each_after-alike f (earlier ++ x ∷ []) xs)

pub each-alike : {A F : Type 0} (f : A → List F) (xs : List A) → each (λ _ x. f x) xs ≡ flat_map f xs
each-alike f xs = each_after-alike f [] xs

each_after-numbered : {A F : Type 0} (f : ℕ × A → List F) (earlier xs : List A) → each_after (λ before x. f (length before, x)) earlier xs ≡ flat_map f (enumerate_from (length earlier) xs)
each_after-numbered f earlier [] = refl
each_after-numbered f earlier (x ∷ xs) =
    ap (λ fs. f (length earlier, x) ++ fs) (each_after-numbered f (earlier ++ x ∷ []) xs
    ∙ ap (λ n. flat_map f (enumerate_from n xs)) (length_push earlier x))

pub each-numbered : {A F : Type 0} (f : ℕ × A → List F) (xs : List A) → each (λ earlier x. f (length earlier, x)) xs ≡ flat_map f (enumerate_from 0 xs)
each-numbered f xs = each_after-numbered f [] xs

-- ---- the same, by the numbers of the items

module _ {A : Type 0} (f : ℕ × A → List CaseFault) (xs : List A) (i : ℕ) (d x : A) (within : i < length xs) (is : x ≡ get_or xs i d) (none : flat_map f (enumerate_from 0 (take i xs)) ≡ []) where
  at : ◌≡◌ {A = ℕ × A} (i, x) (length (take i xs), get_or xs i d)
  at = ap₂ (λ (n : ℕ) (y : A). (n, y)) (sym (length-take-le i xs (omega (arith, within)))) is

  so_far : each (λ earlier y. f (length earlier, y)) (take i xs) ≡ []
  so_far = each-numbered f (take i xs) ∙ none

  pub IsFirst-numbered : (e : CaseFault) → IsFirst (f (i, x)) e → IsFirst (flat_map f (enumerate_from 0 xs)) e
  IsFirst-numbered e first = subst (λ fs. IsFirst fs e) (each-numbered f xs)
      (IsFirst-each (λ earlier y. f (length earlier, y)) xs i d e within so_far (subst (λ (p : ℕ × A). IsFirst (f p) e) at first))

  pub numbered-more_none : f (i, x) ≡ [] → flat_map f (enumerate_from 0 (take (i + 1) xs)) ≡ []
  numbered-more_none free =
      ap (λ ys. flat_map f (enumerate_from 0 ys)) (take_more xs i d within)
      ∙ sym (each-numbered f (take i xs ++ get_or xs i d ∷ []))
      ∙ each-more_none (λ earlier y. f (length earlier, y)) (take i xs) (get_or xs i d) so_far (ap f (sym at) ∙ free)
