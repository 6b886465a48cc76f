-- Requests: for each nurse and weekday a flag for the word `Any` and one for each shift, set if a request of
-- that nurse and weekday says so.
use Rattle.std.proofs.Common.{◌≡◌, ◌≢◌, ◌∙◌, ◌⊎◌, ◌+◌, ◌*◌, ◌<◌, ◌++◌, ◌∷◌, ◌&&◌, ◌||◌, ◌==◌, ℕ, Bool, true, false, not, List, [], Option, Some, ap, arith, codes, get_or, inl, inr, length, map, replicate, sym}
use Rattle.std.proofs.Math.Bool.{or-false}
use Rattle.std.proofs.Math.ListN.{set}
use Rattle.std.specs.Prelude.{option_map}
use Rattle.std.specs.List.{list_any, range_with_len}
use Rattle.std.proofs.lemmas.Bool.{cases_eq, or_right}
use Rattle.std.proofs.lemmas.List.{get_or-replicate, get_or-set_other, get_or-set_same, length-replicate, length-set}
use Rattle.std.proofs.lemmas.List.Folds.{list_any-append}
use Rattle.std.proofs.lemmas.List.FromFn.{fill_by_all, get_or-map-range_with_len, length-map-range_with_len}
use Rattle.roster_bundle.specs.declared.bundle.Request.{Request}
use Rattle.roster_bundle.specs.Weekdays.{weekday}
use Rattle.roster_instance.specs.Bundles.{Names, names_shift, index_of_request, requests_at, requests_meant, says_any}
use Rattle.roster_instance.specs.declared.rules.DayRequests.{DayRequests}
use Rattle.roster_instance.specs.CaseParts.{requests_with, with_any, with_shift}
use Rattle.roster_instance.specs.Meaning.{no_requests}
use Rattle.roster_instance.specs.Names.{found, has_number, reads}
use Rattle.roster_instance.specs.Tables.{is_at}
use Rattle.roster_instance.proofs.NameLemmas.{found-has_number, found-within}
use Rattle.roster_instance.proofs.TableLemmas.{is_at-other, is_at-same}

-- ---- lists with an item for each number

module _ {X : Type 0} (n : ℕ) where
  pub all_alike : (x : X) → replicate n x ≡ map (λ _. x) (range_with_len 0 n)
  all_alike x = fill_by_all (λ _. x) (replicate n x) n x (length-replicate n x) (λ k within. get_or-replicate n k x x within)

  list_alike : (f g : ℕ → X) (d : X) → ((i : ℕ) → f i ≡ g i) → map f (range_with_len 0 n) ≡ map g (range_with_len 0 n)
  list_alike f g d same = fill_by_all g (map f (range_with_len 0 n)) n d (length-map-range_with_len f 0 n)
      (λ i within. get_or-map-range_with_len f 0 n i i d within (omega arith) ∙ same i)

  -- item p is replaced
  pub element-written : (f g : ℕ → X) (p : ℕ) (x : X) → x ≡ g p → ((i : ℕ) → i ≢ p → g i ≡ f i) → map g (range_with_len 0 n) ≡ set (map f (range_with_len 0 n)) p x
  element-written f g p x here elsewhere = sym (fill_by_all g (set list p x) n x (length-set list p x ∙ count) (λ i within. at i within (cases_eq i p)))
    where
      list : List X
      list = map f (range_with_len 0 n)

      count : length list ≡ n
      count = length-map-range_with_len f 0 n

      at : (i : ℕ) → i < n → (i ≡ p) ⊎ (i ≡ p → ⊥) → get_or (set list p x) i x ≡ g i
      at i within (inl same) =
          ap (λ k. get_or (set list p x) k x) same
          ∙ get_or-set_same list p x x (omega (arith, count))
          ∙ here ∙ ap g (sym same)
      at i within (inr other) =
          get_or-set_other list p i x x other ∙ get_or-map-range_with_len f 0 n i i x within (omega arith) ∙ sym (elsewhere i other)

-- ---- a flag for each index

-- one more item, with index p; a flag says whether an item with that index passes a test
module _ {A : Type 0} (index : A → Option ℕ) (xs : List A) (x : A) (p : ℕ) (at : index x ≡ Some p) (test : A → Bool) where
  abbrev flag : List A → ℕ → Bool
  flag ys q = list_any (λ y. is_at q (index y) && test y) ys

  flag-push : (q : ℕ) → flag (xs ++ x ∷ []) q ≡ (flag xs q || (is_at q (Some p) && test x))
  flag-push q = list_any-append (λ y. is_at q (index y) && test y) xs (x ∷ [])
      ∙ ap (λ b. flag xs q || b) (or-false (is_at q (index x) && test x) ∙ ap (λ o. is_at q o && test x) at)

  flag-elsewhere : (q : ℕ) → q ≢ p → flag (xs ++ x ∷ []) q ≡ flag xs q
  flag-elsewhere q other = flag-push q ∙ ap (λ b. flag xs q || (b && test x)) (is_at-other q p other) ∙ or-false (flag xs q)

  flag-here : flag (xs ++ x ∷ []) p ≡ (flag xs p || test x)
  flag-here = flag-push p ∙ ap (λ b. flag xs p || (b && test x)) (is_at-same p)

  flag-set : test x ≡ true → flag (xs ++ x ∷ []) p ≡ true
  flag-set says = flag-here ∙ or_right (flag xs p) (test x) says

  flag-kept : test x ≡ false → flag (xs ++ x ∷ []) p ≡ flag xs p
  flag-kept otherwise = flag-here ∙ ap (λ b. flag xs p || b) otherwise ∙ or-false (flag xs p)

-- ---- requests

-- without requests
pub none-requested : (source : List ℕ) (nurses shifts : Names) → requests_meant source nurses shifts [] ≡ replicate (7 * length nurses) no_requests
unfolding requests_meant
none-requested source nurses shifts =
    let none : record { any = false; shifts = map (λ _. false) (range_with_len 0 8) } ≡ no_requests = λ i. record { any = false; shifts = sym (all_alike 8 false) i } in
    ap (λ (r : DayRequests). map (λ _. r) (range_with_len 0 (7 * length nurses))) none ∙ sym (all_alike (7 * length nurses) no_requests)

module _ (source : List ℕ) (nurses shifts : Names) (earlier : List Request) (requests : List DayRequests) (is : requests ≡ requests_meant source nurses shifts earlier)
    (q : Request) (n : ℕ) (nurse : found source nurses q.nurse ≡ Some n) (w : ℕ) (day : w ≡ weekday q.day) (in_week : w < 7) where
  abbrev p : ℕ
  p = 7 * n + w

  abbrev index : Request → Option ℕ
  index = index_of_request source nurses

  index-is : index q ≡ Some p
  index-is = ap (λ o. option_map (λ k. 7 * k + weekday q.day) o) nurse ∙ ap (λ d. Some (7 * n + d)) (sym day)

  index-within : p < 7 * length nurses
  index-within = omega (arith, found-within source nurses q.nurse n nurse)

  abbrev before : ℕ → DayRequests
  before = requests_at source nurses shifts earlier

  abbrev then_at : ℕ → DayRequests
  then_at = requests_at source nurses shifts (earlier ++ q ∷ [])

  abbrev any_flag : List Request → ℕ → Bool
  any_flag qs i = list_any (λ y. is_at i (index y) && says_any source y) qs

  abbrev shift_flag : List Request → ℕ → ℕ → Bool
  shift_flag qs i s = list_any (λ y. is_at i (index y) && names_shift source shifts s y) qs

  elsewhere : (i : ℕ) → i ≢ p → then_at i ≡ before i
  elsewhere i other =
      let any : any_flag (earlier ++ q ∷ []) i ≡ any_flag earlier i = flag-elsewhere index earlier q p index-is (says_any source) i other in
      let each : map (shift_flag (earlier ++ q ∷ []) i) (range_with_len 0 8) ≡ map (shift_flag earlier i) (range_with_len 0 8) =
      list_alike 8 (shift_flag (earlier ++ q ∷ []) i) (shift_flag earlier i) false (λ s. flag-elsewhere index earlier q p index-is (names_shift source shifts s) i other) in
      λ j. record { any = any j; shifts = each j }

  -- the requests with index p are replaced
  placed : (r : DayRequests → DayRequests) → r (before p) ≡ then_at p → requests_meant source nurses shifts (earlier ++ q ∷ []) ≡ requests_with p r requests
  unfolding requests_meant
  placed r here =
      element-written (7 * length nurses) before then_at p (r (before p)) here elsewhere
      ∙ ap (λ x. set (map before (range_with_len 0 (7 * length nurses))) p (r x)) (sym (get_or-map-range_with_len before 0 (7 * length nurses) p p no_requests index-within (omega arith)))
      ∙ ap (λ rows. set rows p (r (get_or rows p no_requests))) (sym is)

  -- the request says `Any`
  pub any-requested : reads source (codes "Any") q.shift ≡ true → requests_meant source nurses shifts (earlier ++ q ∷ []) ≡ requests_with p with_any requests
  any-requested says =
      placed with_any (
      let any : any_flag (earlier ++ q ∷ []) p ≡ true = flag-set index earlier q p index-is (says_any source) says in
      let each : map (shift_flag (earlier ++ q ∷ []) p) (range_with_len 0 8) ≡ map (shift_flag earlier p) (range_with_len 0 8) =
      list_alike 8 (shift_flag (earlier ++ q ∷ []) p) (shift_flag earlier p) false (λ s. flag-kept index earlier q p index-is (names_shift source shifts s) (ap (λ b. not b && has_number source shifts s q.shift) says)) in
      λ j. record { any = sym any j; shifts = sym each j })

  -- the request names a shift
  pub shift-requested : reads source (codes "Any") q.shift ≡ false → (s : ℕ) → found source shifts q.shift ≡ Some s
      → requests_meant source nurses shifts (earlier ++ q ∷ []) ≡ requests_with p (with_shift s) requests
  shift-requested otherwise s shift =
      placed (with_shift s) (
      let any : any_flag (earlier ++ q ∷ []) p ≡ any_flag earlier p = flag-kept index earlier q p index-is (says_any source) otherwise in
      let says : (k : ℕ) → names_shift source shifts k q ≡ (s == k) = λ k. ap (λ b. not b && has_number source shifts k q.shift) otherwise ∙ found-has_number source shifts q.shift s shift k in
      let each : map (shift_flag (earlier ++ q ∷ []) p) (range_with_len 0 8) ≡ set (map (shift_flag earlier p) (range_with_len 0 8)) s true =
      element-written 8 (shift_flag earlier p) (shift_flag (earlier ++ q ∷ []) p) s true
      (sym (flag-set index earlier q p index-is (names_shift source shifts s) (says s ∙ is_at-same s)))
      (λ k other. flag-kept index earlier q p index-is (names_shift source shifts k) (says k ∙ is_at-other k s other)) in
      λ j. record { any = sym any j; shifts = sym each j })
