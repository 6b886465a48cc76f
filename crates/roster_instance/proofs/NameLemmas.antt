-- Names and their numbers.
use Rattle.std.proofs.Common.{◌&&◌, ◌*◌, ◌≤◌, ◌≡◌, ◌∙◌, ◌+◌, ◌<◌, ◌||◌, ◌==◌, ℕ, Bool, cond, not, true, false, refl, sym, ap, ap₂, arith, List, [], ◌∷◌, ◌++◌, get_or, length, map, nat_lt, suc, unwrap_or, Option, Some, None, is_some, inl, inr, length-append, lt-ltb, true≢false}
use Rattle.std.specs.Prelude.{IfSome, option_and_then, option_map, position}
use Rattle.std.specs.List.{list_any, position_or_len}
use Rattle.std.specs.Str.{bytes_eq}
use Rattle.std.proofs.lemmas.Bool.{cases_lt, ne_eqb}
use Rattle.std.proofs.lemmas.Bool.Decides.{nat_tests}
use Rattle.std.proofs.lemmas.List.{get_or_append_left, length-map, map_push}
use Rattle.std.proofs.Math.Seq.{get_or-append_seam}
use Rattle.std.proofs.lemmas.List.Quantifiers.{position-Some}
use Rattle.std.proofs.lemmas.Slice.Eq.{bytes_eq-Decides}
use Rattle.roster_bundle.specs.Token.{text_of}
use Rattle.roster_bundle.specs.declared.token.Token.{Token}
use Rattle.roster_instance.specs.Names.{HaveTheirPlaces, find_name, found, has_number, is_known, name_number, names_of, same_name}
use Rattle.roster_instance.specs.Refusals.{repeated_fault, unknown_fault}
use Rattle.roster_instance.specs.Faults.{fault_if}
use Rattle.roster_instance.specs.Tables.{is_at}
use Rattle.roster_instance.specs.declared.fault.CaseFault.TheVariants.{Repeated, Unknown}
use Rattle.roster_instance.proofs.TableLemmas.{at_day, at_skill, is_at-other, is_at-same}

abbrev Text : Type 0
Text = List ℕ

-- ---- searches

list_any-alike : {X : Type 0} (p q : X → Bool) (xs : List X) → ((x : X) → p x ≡ q x) → list_any p xs ≡ list_any q xs
list_any-alike p q [] same = refl
list_any-alike p q (x ∷ xs) same = ap₂ (λ a b. a || b) (same x) (list_any-alike p q xs same)

list_any-map : {X Y : Type 0} (p : Y → Bool) (f : X → Y) (xs : List X) → list_any p (map f xs) ≡ list_any (λ x. p (f x)) xs
list_any-map p f [] = refl
list_any-map p f (x ∷ xs) = ap (λ b. p (f x) || b) (list_any-map p f xs)

position_or_len-map : {X Y : Type 0} (p : Y → Bool) (f : X → Y) (xs : List X) → position_or_len p (map f xs) ≡ position_or_len (λ x. p (f x)) xs
position_or_len-map p f [] = refl
position_or_len-map p f (x ∷ xs) = ap (λ n. cond (not (p (f x))) (1 + n) 0) (position_or_len-map p f xs)

position-map : {X Y : Type 0} (p : Y → Bool) (f : X → Y) (xs : List X) → position p (map f xs) ≡ position (λ x. p (f x)) xs
position-map p f xs = ap₂ (λ i n. cond (nat_lt i n) (Some i) None) (position_or_len-map p f xs) (length-map xs f)

lt-suc : (a b : ℕ) → nat_lt (1 + a) (suc b) ≡ nat_lt a b
lt-suc a b = grind (arith, nat_tests)

position-within : {X : Type 0} (p : X → Bool) (xs : List X) → nat_lt (position_or_len p xs) (length xs) ≡ list_any p xs
position-within p [] = refl
position-within p (x ∷ xs) = go (p x) (position-within p xs)
  where
    go : (b : Bool) → nat_lt (position_or_len p xs) (length xs) ≡ list_any p xs → nat_lt (cond (not b) (1 + position_or_len p xs) 0) (length (x ∷ xs)) ≡ (b || list_any p xs)
    go true later = lt-ltb 0 (length (x ∷ xs)) (omega arith)
    go false later = lt-suc (position_or_len p xs) (length xs) ∙ later

position-some : {X : Type 0} (p : X → Bool) (xs : List X) → is_some (position p xs) ≡ list_any p xs
position-some p xs = go (nat_lt (position_or_len p xs) (length xs)) ∙ position-within p xs
  where
    go : (b : Bool) → is_some (cond b (Some (position_or_len p xs)) None) ≡ b
    go true = refl
    go false = refl

position-cons : {X : Type 0} (p : X → Bool) (x : X) (xs : List X) → position p (x ∷ xs) ≡ cond (p x) (Some 0) (option_map (λ k. 1 + k) (position p xs))
position-cons p x xs = go (p x)
  where
    next : (b : Bool) → cond b (Some (1 + position_or_len p xs)) None ≡ option_map (λ k. 1 + k) (cond b (Some (position_or_len p xs)) None)
    next true = refl
    next false = refl

    go : (b : Bool) → cond (nat_lt (cond (not b) (1 + position_or_len p xs) 0) (length (x ∷ xs))) (Some (cond (not b) (1 + position_or_len p xs) 0)) None
        ≡ cond b (Some 0) (option_map (λ k. 1 + k) (position p xs))
    go true = ap (λ b. cond b (Some 0) None) (lt-ltb 0 (length (x ∷ xs)) (omega arith))
    go false = ap (λ b. cond b (Some (1 + position_or_len p xs)) None) (lt-suc (position_or_len p xs) (length xs)) ∙ next (nat_lt (position_or_len p xs) (length xs))

-- one more item that doesn't pass, and one that is the first to pass
position-other : {X : Type 0} (p : X → Bool) (xs : List X) (y : X) → p y ≡ false → position p (xs ++ y ∷ []) ≡ position p xs
position-other p [] y e = position-cons p y [] ∙ ap (λ b. cond b (Some 0) None) e
position-other p (x ∷ xs) y e =
    position-cons p x (xs ++ y ∷ []) ∙ ap (λ o. cond (p x) (Some 0) (option_map (λ k. 1 + k) o)) (position-other p xs y e) ∙ sym (position-cons p x xs)

position-last : {X : Type 0} (p : X → Bool) (xs : List X) (y : X) → position p xs ≡ None → p y ≡ true → position p (xs ++ y ∷ []) ≡ Some (length xs)
position-last p [] y none e = position-cons p y [] ∙ ap (λ b. cond b (Some 0) None) e
position-last p (x ∷ xs) y none e = go (p x) (position p xs) refl (λ h. position-last p xs y h e) (sym (position-cons p x xs) ∙ none)
  where
    go : (b : Bool) (o : Option ℕ) → p x ≡ b → (o ≡ None → position p (xs ++ y ∷ []) ≡ Some (length xs)) → cond b (Some 0) (option_map (λ k. 1 + k) o) ≡ None
        → position p (x ∷ (xs ++ y ∷ [])) ≡ Some (length (x ∷ xs))
    go true o first later h = absurd (cc)
    go false (Some k) first later h = absurd (cc)
    go false None first later h =
        position-cons p x (xs ++ y ∷ []) ∙ ap₂ (λ b o. cond b (Some 0) (option_map (λ k. 1 + k) o)) first (later refl) ∙ ap (λ n. Some n) (omega arith)

-- ---- the number of a name

pub find_name-within : (names : List Text) (name : Text) → IfSome (find_name names name) (λ n. n < length names)
find_name-within names name = go (find_name names name) refl
  where
    go : (o : Option ℕ) → find_name names name ≡ o → IfSome o (λ n. n < length names)
    go None is = tt
    go (Some n) is = (position-Some (bytes_eq name) names n [] is).0

-- ---- names that are the keys of a set

module _ {K : Type 0} (text : K → Text) where
  pub find_name-keys : (ks : List K) (name : Text) → find_name (map text ks) name ≡ position (λ k. bytes_eq name (text k)) ks
  find_name-keys ks name = position-map (bytes_eq name) text ks

  pub known-keys : (ks : List K) (name : Text) → is_some (find_name (map text ks) name) ≡ list_any (λ k. bytes_eq name (text k)) ks
  known-keys ks name = ap is_some (find_name-keys ks name) ∙ position-some (λ k. bytes_eq name (text k)) ks

  -- one more key, with a new name
  pub texts-added : (ks : List K) (k : K) (name : Text) → text k ≡ name → list_any (λ y. bytes_eq name (text y)) ks ≡ false
      → map text (cond (list_any (λ y. bytes_eq (text k) (text y)) ks) ks (ks ++ k ∷ [])) ≡ map text ks ++ name ∷ []
  texts-added ks k name same new =
      ap (λ b. map text (cond b ks (ks ++ k ∷ []))) (ap (λ n. list_any (λ y. bytes_eq n (text y)) ks) same ∙ new)
      ∙ map_push text ks k ∙ ap (λ n. map text ks ++ n ∷ []) same

-- ---- names by their numbers

pub places-more : (names : List Text) (name : Text) → find_name names name ≡ None → HaveTheirPlaces names → HaveTheirPlaces (names ++ name ∷ [])
places-more names name none places n below = elim (cases_lt n (length names)) [
  | inl early ↦
      let here = get_or names n [] in
      ap (find_name (names ++ name ∷ [])) (get_or_append_left names (name ∷ []) [] n early) ∙ position-other (bytes_eq here) names name (apart here (places n early) (bytes_eq here name) refl)
      ∙ places n early
  | inr late ↦
      let last : n ≡ length names = omega (arith, below, late, length-append {A = Text} names (name ∷ [])) in
      ap (λ k. find_name (names ++ name ∷ []) (get_or (names ++ name ∷ []) k [])) last ∙ ap (find_name (names ++ name ∷ [])) (get_or-append_seam names name [] [])
      ∙ position-last (bytes_eq name) names name none ((bytes_eq-Decides name name).1 refl) ∙ ap (λ k. Some k) (sym last)
]
  where
    -- a name before the new one differs from it
    apart : (here : Text) → find_name names here ≡ Some n → (b : Bool) → bytes_eq here name ≡ b → bytes_eq here name ≡ false
    apart here found_is true same = let e : find_name names here ≡ None = ap (find_name names) ((bytes_eq-Decides here name).0 same) ∙ none in absurd (cc)
    apart here found_is false same = same

-- whether a number is that of a name
module _ (names : List Text) (name : Text) (n : ℕ) where
  pub index-is : HaveTheirPlaces names → n < length names → bytes_eq name (get_or names n []) ≡ is_at n (find_name names name)
  index-is places within = go (bytes_eq name (get_or names n [])) refl
    where
      other : (o : Option ℕ) → find_name names name ≡ o → bytes_eq name (get_or names n []) ≡ false → false ≡ is_at n o
      other None found_is differ = refl
      other (Some m) found_is differ = sym (is_at-other n m (λ same. true≢false (sym (ap (λ k. bytes_eq name (get_or names k [])) same ∙ (position-Some (bytes_eq name) names m [] found_is).1) ∙ differ)))

      go : (b : Bool) → bytes_eq name (get_or names n []) ≡ b → b ≡ is_at n (find_name names name)
      go true same =
          sym (ap (is_at n) (ap (find_name names) ((bytes_eq-Decides name (get_or names n [])).0 same) ∙ places n within) ∙ is_at-same n)
      go false differ = other (find_name names name) refl differ

-- ---- names that may be among others

pub known-any : (source : Text) (earlier : List Token) (t : Token) → is_known source (names_of source earlier) t ≡ list_any (same_name source t) earlier
known-any source earlier t = known-keys (text_of source) earlier (text_of source t)

twice : (b : Bool) → b ≡ not (not b)
twice true = refl
twice false = refl

-- what a set of the names so far says of one more
pub repeated-new : (source : Text) (names : List Text) (earlier : List Token) (t : Token) (text : Text) (new : Bool) → names ≡ names_of source earlier → text ≡ text_of source t
    → new ≡ not (is_some (find_name names text)) → repeated_fault source earlier t ≡ fault_if (not new) (Repeated t.line)
repeated-new source names earlier t text new names_are text_is is =
    ap (λ b. fault_if b (Repeated t.line)) (sym (known-any source earlier t) ∙ ap₂ (λ ns n. is_some (find_name ns n)) (sym names_are) (sym text_is)
    ∙ twice (is_some (find_name names text)) ∙ ap not (sym is))

-- ---- a name that has this number

module _ (source : Text) (names : List Text) (t : Token) (n : ℕ) (is : found source names t ≡ Some n) where
  pub found-within : n < length names
  found-within = (position-Some (bytes_eq (text_of source t)) names n [] is).0

  -- the name with this number is its text
  pub found-text : get_or names n [] ≡ text_of source t
  found-text = sym ((bytes_eq-Decides (text_of source t) (get_or names n [])).0 (position-Some (bytes_eq (text_of source t)) names n [] is).1)

  -- a token has the same name exactly if it has the same number
  pub same_name-by_number : (u : Token) → same_name source t u ≡ is_at n (found source names u)
  same_name-by_number u = go (same_name source t u) refl
    where
      text : Text
      text = text_of source t

      other : Text
      other = text_of source u

      go : (b : Bool) → same_name source t u ≡ b → b ≡ is_at n (found source names u)
      go true e = sym (ap (λ name. is_at n (find_name names name)) (sym ((bytes_eq-Decides text other).0 e)) ∙ ap (is_at n) is ∙ is_at-same n)
      go false e = differ (found source names u) refl
        where
          differ : (o : Option ℕ) → found source names u ≡ o → false ≡ is_at n o
          differ None there = refl
          differ (Some m) there = sym (ne_eqb m n (λ same. true≢false (sym ((bytes_eq-Decides text other).1 (texts same)) ∙ e)))
            where
              texts : m ≡ n → text ≡ other
              texts same = sym found-text ∙ ap (λ k. get_or names k []) (sym same)
                  ∙ sym ((bytes_eq-Decides other (get_or names m [])).0 (position-Some (bytes_eq other) names m [] there).1)

  pub any_same_name : (us : List Token) → list_any (same_name source t) us ≡ list_any (λ u. is_at n (found source names u)) us
  any_same_name us = list_any-alike (same_name source t) (λ u. is_at n (found source names u)) us same_name-by_number

  -- the same for items with a name
  pub any_same_name_of : {A : Type 0} (token : A → Token) (xs : List A) → list_any (λ e. same_name source t (token e)) xs ≡ list_any (λ e. is_at n (found source names (token e))) xs
  any_same_name_of token xs = list_any-alike (λ e. same_name source t (token e)) (λ e. is_at n (found source names (token e))) xs (λ e. same_name-by_number (token e))

  pub any_same_name_map : {A : Type 0} (token : A → Token) (xs : List A) → list_any (same_name source t) (map token xs) ≡ list_any (λ e. is_at n (found source names (token e))) xs
  any_same_name_map token xs = list_any-map (same_name source t) token xs ∙ any_same_name_of token xs

  pub found-known : is_known source names t ≡ true
  found-known = ap is_some is

  pub found-number : name_number source names t ≡ n
  found-number = ap (λ o. unwrap_or o 0) is

  pub found-has_number : (k : ℕ) → has_number source names k t ≡ (n == k)
  found-has_number k = ap (is_at k) is

  pub found-no_fault : unknown_fault source names t ≡ []
  found-no_fault = ap (λ b. fault_if (not b) (Unknown t.line)) found-known

pub found-at_most : (source : Text) (names : List Text) (t : Token) (most : ℕ) → length names ≤ most → IfSome (found source names t) (λ n. n < most)
found-at_most source names t most within = go (found source names t) refl
  where
    go : (o : Option ℕ) → found source names t ≡ o → IfSome o (λ n. n < most)
    go None is = tt
    go (Some n) is = let below = found-within source names t n is in omega arith

-- items that have a name and a weekday
pub any_same_day : {A : Type 0} (source : Text) (names : List Text) (t : Token) (n w : ℕ) (token : A → Token) (day : A → ℕ) (xs : List A) → found source names t ≡ Some n → w < 7 → ((e : A) → day e < 7)
    → list_any (λ e. same_name source t (token e) && (w == day e)) xs ≡ list_any (λ e. is_at (7 * n + w) (option_map (λ m. 7 * m + day e) (found source names (token e)))) xs
any_same_day source names t n w token day xs is w_in day_in = list_any-alike _ _ xs
    (λ e. ap (λ b. b && (w == day e)) (same_name-by_number source names t n is (token e)) ∙ sym (at_day n w (day e) (found source names (token e)) w_in (day_in e)))

-- items that have the names of a shift and a skill
pub any_same_pair : {A : Type 0} (source : Text) (shifts skills : List Text) (t u : Token) (s k : ℕ) (shift skill : A → Token) (xs : List A)
    → found source shifts t ≡ Some s → found source skills u ≡ Some k → length skills ≤ 8
    → list_any (λ e. same_name source t (shift e) && same_name source u (skill e)) xs
    ≡ list_any (λ e. is_at (8 * s + k) (option_and_then (λ m. option_map (λ j. 8 * m + j) (found source skills (skill e))) (found source shifts (shift e)))) xs
any_same_pair source shifts skills t u s k shift skill xs is there within = list_any-alike _ _ xs
    (λ e. ap₂ (λ a b. a && b) (same_name-by_number source shifts t s is (shift e)) (same_name-by_number source skills u k there (skill e))
    ∙ sym (at_skill s k (found source shifts (shift e)) (found source skills (skill e)) (omega (arith, found-within source skills u k there)) (found-at_most source skills (skill e) 8 within)))
