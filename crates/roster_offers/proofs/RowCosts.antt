-- What a row costs from state to state at a scale: its own cost and its prices, if it is offered.
use Rattle.std.proofs.Common.{◌≡◌, ◌∙◌, ◌+◌, ◌*◌, ◌-◌, ◌<◌, ◌≤◌, ◌==◌, ◌&&◌, ℕ, zero, suc, Bool, true, false, not, ap, ap₂, arith, refl, sym, [], ◌∷◌, ◌++◌, append_assoc, length, Option, Some, None, if◌then◌else◌}
use Rattle.std.proofs.lemmas.List.{append-nil, get_or_append_left, get_or_push, length-append, length-map, map-append}
use Rattle.roster_instance.specs.declared.choice.Choice.{Choice}
use Rattle.roster_instance.specs.declared.choice.Choice.TheVariants.{Off}
use Rattle.roster_instance.specs.declared.choice.Shift.{Shift}
use Rattle.roster_instance.specs.Choices.{days_of, shift_of}
use Rattle.roster_instance.specs.Counting.{all_below, sum_below}
use Rattle.roster_instance.specs.Days.{Days}
use Rattle.roster_rules.specs.HardRules.{breaks_succession, shift_before}
use Rattle.roster_instance.specs.Meaning.{Meaning, forbids, last_shift, past_of}
use Rattle.roster_rules.specs.Prefix.{Summary, due, last_of, summary_of}
use Rattle.roster_instance.specs.Rosters.{Row, choice_on}
use Rattle.roster_rules.proofs.DayMore.{shift_before_it, shift_of_it}
use Rattle.roster_rules.proofs.RunSums.{sum_same}
use Rattle.roster_laws.proofs.Below.{all_same}
use Rattle.roster_state.specs.Transition.{next_of, transition_cost}
use Rattle.roster_state.proofs.SumLaw.{closes, next_is, owed_more}
use Rattle.roster_offers.specs.ByStates.{Transitions, cost_after, cost_from}
use Rattle.roster_offers.specs.Cheapest.{plus}
use Rattle.roster_offers.specs.Offers.{dearer, end_cost_at, offer_at, offer_transition_at, offered_row_by, row_cost_in, row_prices_by, scaled}
use Rattle.roster_offers.proofs.Cheapest.{plus_twice}

-- a transition that is made if two tests allow it
one_transition : {S : Type 0} (was offered forbidden : Bool) (scale before price cost : ℕ) (t : S) (rest : S → Option ℕ)
    → (if was && (offered && not forbidden) then plus (before + (price + scale * cost)) (rest t) else None)
    ≡ (if was then plus before (cost_after (if offered then dearer price (scaled scale (if forbidden then None else Some (t, cost))) else None) rest) else None)
one_transition true true true scale before price cost t rest = refl
one_transition true true false scale before price cost t rest = plus_twice before (price + scale * cost) (rest t)
one_transition true false forbidden scale before price cost t rest = refl
one_transition false offered forbidden scale before price cost t rest = refl

shift_before_more : (last : Option Shift) (days : Days) (s : Option Shift) (d : ℕ) → d ≤ length days → shift_before last (days ++ s ∷ []) d ≡ shift_before last days d
shift_before_more last days s zero h = refl
shift_before_more last days s (suc d) h = ap (λ t. if suc d == 0 then last else t) (shift_before_it days s (suc d - 1) (omega arith))

module _ (c : Meaning) (n scale : ℕ) (offered : ℕ → Choice → Bool) (price : ℕ → Choice → ℕ) where
  abbrev offered_row : Row → ℕ → Bool
  offered_row = offered_row_by c n offered

  abbrev row_prices : Row → ℕ
  row_prices = row_prices_by price

  -- the nurse's transition with a choice, if it is offered
  abbrev pub choice_transition : Transitions Summary Choice
  choice_transition d s x = if offered d x then offer_transition_at c n scale d s (offer_at price d x) else None

  -- what the first days of a row owe, and what a whole row costs its nurse and the staffing
  abbrev pub owed : Row → ℕ
  owed row = scale * due c n (days_of row) + row_prices row

  abbrev pub row_costs : Row → Option ℕ
  row_costs row = if offered_row row (length row) then Some (row_cost_in c n scale price row) else None

  -- ---- a row with one day more

  days_more : (p : Row) (x : Choice) → days_of (p ++ x ∷ []) ≡ days_of p ++ shift_of x ∷ []
  days_more p x = map-append shift_of p (x ∷ [])

  longer : (p : Row) (x : Choice) → length (p ++ x ∷ []) ≡ suc (length p)
  longer p x = omega (arith, length-append p (x ∷ []))

  before : (p : Row) (x : Choice) (d : ℕ) → d < length p → choice_on (p ++ x ∷ []) d ≡ choice_on p d
  before p x d h = get_or_append_left p (x ∷ []) Off d h

  here : (p : Row) (x : Choice) → choice_on (p ++ x ∷ []) (length p) ≡ x
  here p x = get_or_push p x Off (length p) refl

  breaks_before : (days : Days) (s : Option Shift) (d : ℕ) → d < length days → breaks_succession c n (days ++ s ∷ []) d ≡ breaks_succession c n days d
  breaks_before days s d h = λ i. forbids c.successions (shift_before_more (last_shift (past_of c n).border) days s d (omega arith) i) (shift_before_it days s d h i)

  breaks_here : (days : Days) (s : Option Shift) → breaks_succession c n (days ++ s ∷ []) (length days) ≡ forbids c.successions (last_of c n days) s
  breaks_here days s = λ i. forbids c.successions (shift_before_more (last_shift (past_of c n).border) days s (length days) (omega arith) i) (shift_of_it days s i)

  abbrev rule : Row → ℕ → Bool
  rule p d = offered d (choice_on p d) && not (breaks_succession c n (days_of p) d)

  offered_more : (p : Row) (x : Choice) → offered_row (p ++ x ∷ []) (length (p ++ x ∷ [])) ≡ (offered_row p (length p) && (offered (length p) x && not (forbids c.successions (summary_of c n (days_of p)).last (shift_of x))))
  unfolding summary_of
  offered_more p x =
      let q : Row = p ++ x ∷ [] in
      let m : length (days_of p) ≡ length p = length-map p shift_of in
      ap (λ m. all_below m (rule q)) (longer p x)
      ∙ ap₂ (λ a b. a && b)
      (all_same (length p) (rule q) (rule p) (λ d h. ap₂ (λ a b. a && b) (ap (offered d) (before p x d h)) (ap not (ap (λ days. breaks_succession c n days d) (days_more p x) ∙ breaks_before (days_of p) (shift_of x) d (omega arith)))))
      (ap₂ (λ a b. a && b) (ap (offered (length p)) (here p x)) (ap not (ap₂ (breaks_succession c n) (days_more p x) (sym m) ∙ breaks_here (days_of p) (shift_of x))))

  prices_more : (p : Row) (x : Choice) → row_prices (p ++ x ∷ []) ≡ row_prices p + price (length p) x
  prices_more p x =
      let q : Row = p ++ x ∷ [] in
      ap (λ m. sum_below m (λ d. price d (choice_on q d))) (longer p x)
      ∙ ap₂ (λ a b. a + b) (sum_same (length p) (λ d. price d (choice_on q d)) (λ d. price d (choice_on p d)) (λ d h. ap (price d) (before p x d h))) (ap (price (length p)) (here p x))

  owed_with : (p : Row) (x : Choice) → owed (p ++ x ∷ []) ≡ owed p + (price (length p) x + scale * transition_cost c n (length p) (summary_of c n (days_of p)) (shift_of x))
  owed_with p x =
      let more : due c n (days_of (p ++ x ∷ [])) ≡ due c n (days_of p) + transition_cost c n (length p) (summary_of c n (days_of p)) (shift_of x) =
      ap (due c n) (days_more p x) ∙ owed_more c n (days_of p) (shift_of x) ∙ ap (λ m. due c n (days_of p) + transition_cost c n m (summary_of c n (days_of p)) (shift_of x)) (length-map p shift_of) in
      omega (arith, ap (λ k. scale * k) more, prices_more p x)

  summary_with : (p : Row) (x : Choice) → summary_of c n (days_of (p ++ x ∷ [])) ≡ next_of c n (length p) (summary_of c n (days_of p)) (shift_of x)
  summary_with p x =
      ap (summary_of c n) (days_more p x) ∙ sym (next_is c n (days_of p) (shift_of x)) ∙ ap (λ m. next_of c n m (summary_of c n (days_of p)) (shift_of x)) (length-map p shift_of)

  -- ---- the rest of a row, from the state after its first days on

  pub costs_by_states : (rest p : Row) → row_costs (p ++ rest) ≡ (if offered_row p (length p) then plus (owed p) (cost_from choice_transition (end_cost_at c n scale) (length p) (summary_of c n (days_of p)) rest) else None)
  costs_by_states [] p =
      let all : row_cost_in c n scale price p ≡ owed p + end_cost_at c n scale (summary_of c n (days_of p)) = omega (arith, ap (λ k. scale * k) (closes c n (days_of p))) in
      ap row_costs (append-nil p) ∙ (λ i. if offered_row p (length p) then Some (all i) else None)
  costs_by_states (x ∷ rest) p =
      let s : Summary = summary_of c n (days_of p) in
      ap row_costs (sym (append_assoc p (x ∷ []) rest))
      ∙ costs_by_states rest (p ++ x ∷ [])
      ∙ (λ i. if offered_more p x i then plus (owed_with p x i) (cost_from choice_transition (end_cost_at c n scale) (longer p x i) (summary_with p x i) rest) else None)
      ∙ one_transition (offered_row p (length p)) (offered (length p) x) (forbids c.successions s.last (shift_of x)) scale (owed p) (price (length p) x) (transition_cost c n (length p) s (shift_of x)) (next_of c n (length p) s (shift_of x))
      (λ t. cost_from choice_transition (end_cost_at c n scale) (suc (length p)) t rest)
