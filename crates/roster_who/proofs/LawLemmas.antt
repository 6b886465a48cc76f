-- If the hard rules are kept, the rows with an assignment are the allowed rows that have it.
use Rattle.std.proofs.Common.{◌≡◌, ◌∙◌, ◌<◌, ◌≤◌, ◌&&◌, ◌==◌, ℕ, Bool, true, false, cond, not, ap, ap₂, arith, refl, sym, List, [], ◌∷◌, length, Contains, filter, map, min, nat_le, nat_lt}
use Rattle.std.specs.List.{range_with_len}
use Rattle.std.proofs.lemmas.Bool.{and_parts, eqb-true}
use Rattle.std.proofs.lemmas.List.FromFn.{fill_by_all}
use Rattle.roster_instance.specs.declared.choice.Choice.{Choice}
use Rattle.roster_instance.specs.declared.choice.Choice.TheVariants.{Off, Work}
use Rattle.roster_instance.specs.Choices.{all_choices, all_rows, days_of}
use Rattle.roster_instance.specs.Counting.{all_below}
use Rattle.roster_instance.specs.Meaning.{Meaning, day_count, is_absent, minimum, nurse_count, shift_count, skill_count}
use Rattle.roster_instance.specs.Rosters.{Row, Rows, choice_on, cover, fits_case, row_of, with_row}
use Rattle.roster_instance.proofs.RosterFacts.{has_row, row-length}
use Rattle.roster_rules.specs.AllowedRows.{allowed_rows, keeps_frozen_day, keeps_frozen_days, penalty_with}
use Rattle.roster_rules.specs.HardRules.{breaks_succession, is_here, is_here_on, keeps_absences, keeps_hard, keeps_skills, keeps_successions, may_take}
use Rattle.roster_rules.proofs.RunSums.{sum_zero}
use Rattle.roster_laws.specs.OneRow.{keeps_by_parts, others}
use Rattle.roster_laws.specs.Staffing.{shortfall, meets, with_choice}
use Rattle.roster_laws.proofs.Allowed.{kept_passes}
use Rattle.roster_laws.proofs.Below.{all_both, all_elim, all_same}
use Rattle.roster_laws.proofs.Keeps.{allowed-with_row, keeps_hard-parts}
use Rattle.roster_laws.proofs.Shortfall.{meets-shortfall}
use Rattle.roster_prices.specs.LowerBounds.{can_work}
use Rattle.roster_who.specs.declared.asked.Asked.{Asked}
use Rattle.roster_who.specs.Offers.{keeps_slots}
use Rattle.roster_who.specs.Who.{cost_with, here_choice, is_asked, is_taking, short_by_no_more, missed, taking_rows, without_absent_work}
use Rattle.roster_who.proofs.RowLemmas.{short_is, works}

one_more_filtered : {X : Type 0} (q : X → Bool) (x : X) (ys both : List X) (b : Bool) → both ≡ filter q ys → cond (b && q x) (x ∷ both) both ≡ filter q (cond b (x ∷ ys) ys)
one_more_filtered q x ys both true rest = ap (λ zs. cond (q x) (x ∷ zs) zs) rest
one_more_filtered q x ys both false rest = rest

filter_both : {X : Type 0} (p q : X → Bool) (xs : List X) → filter (λ x. p x && q x) xs ≡ filter q (filter p xs)
filter_both p q [] = refl
filter_both p q (x ∷ xs) = one_more_filtered q x (filter p xs) (filter (λ y. p y && q y) xs) (p x) (filter_both p q xs)

least_is : (m have x : ℕ) → m ≤ have → nat_le (min m have) x ≡ not (nat_lt x m)
least_is m have x h = grind (arith, h)

at_least : (have m : ℕ) → not (nat_lt have m) ≡ true → m ≤ have
at_least have m e = grind (arith, e)

reorder : (a s f m : Bool) → (((a && s) && f) && m) ≡ (((a && m) && s) && f)
reorder true true true true = refl
reorder true true true false = refl
reorder true true false true = refl
reorder true true false false = refl
reorder true false f true = refl
reorder true false f false = refl
reorder false s f m = refl

module _ (c : Meaning) (r : Rows) (fits : fits_case c r ≡ true) (keeps : keeps_hard c r ≡ true) where
  parts : keeps_by_parts c r ≡ true
  parts = sym (keeps_hard-parts c r) ∙ keeps

  three : (all_below (day_count c) (λ d. meets c d (cover r d)) && all_below (nurse_count c) (λ n. keeps_successions c n (days_of (row_of r n)) (day_count c)) && all_below (nurse_count c) (λ n. keeps_skills c n (row_of r n) (day_count c)) ≡ true)
      × (all_below (nurse_count c) (λ n. keeps_absences c n (row_of r n) (day_count c)) ≡ true)
  three = and_parts _ _ parts

  met : (d s k : ℕ) → d < day_count c → s < shift_count c → k < skill_count c → minimum c d s k ≤ cover r d s k
  met d s k day shift skill =
      let staffed = (and_parts _ _ (and_parts _ _ three.0).0).0 in
      at_least (cover r d s k) (minimum c d s k)
      (all_elim (skill_count c) (λ l. not (nat_lt (cover r d s l) (minimum c d s l)))
      (all_elim (shift_count c) (λ t. all_below (skill_count c) (λ l. not (nat_lt (cover r d t l) (minimum c d t l)))) (all_elim (day_count c) (λ e. meets c e (cover r e)) staffed d day) s shift) k skill)

  -- an absent nurse is off
  here : (n d : ℕ) → n < nurse_count c → d < day_count c → is_here c n d (choice_on (row_of r n) d) ≡ true
  here n d nurse day = all_elim (day_count c) (is_here_on c n (row_of r n)) (all_elim (nurse_count c) (λ m. keeps_absences c m (row_of r m) (day_count c)) three.1 n nurse) d day

  off_if_absent : (n d : ℕ) (x : Choice) → is_here c n d x ≡ true → x ≡ cond (is_absent c n d) Off x
  off_if_absent n d Off e = go (is_absent c n d)
    where
      go : (b : Bool) → Off ≡ cond b Off Off
      go true = refl
      go false = refl
  off_if_absent n d (Work s k) e = go (is_absent c n d) e
    where
      go : (b : Bool) → not b ≡ true → Work s k ≡ cond b Off (Work s k)
      go true e = absurd cc
      go false e = refl

  pub nobody_absent : without_absent_work c r ≡ r
  nobody_absent =
      sym (fill_by_all (λ n. map (here_choice c r n) (range_with_len 0 (day_count c))) r (nurse_count c) [] (eqb-true (length r) (nurse_count c) (and_parts (length r == nurse_count c) _ fits).0)
      (λ n nurse. fill_by_all (here_choice c r n) (row_of r n) (day_count c) Off (row-length c r n fits nurse) (λ d day. off_if_absent n d (choice_on (row_of r n) d) (here n d nurse day))))

  module _ (from : ℕ) (asked : Asked) (n : ℕ) (inside : n < nurse_count c) where
    within : n < length r
    within = has_row c r n fits inside

    slots_meet : (d : ℕ) → d < day_count c → (x : Choice) → keeps_slots c r n d x ≡ meets c d (with_choice (others r n d) x)
    slots_meet d day x =
        all_same (shift_count c) (λ s. all_below (skill_count c) (λ k. nat_le (min (minimum c d s k) (cover r d s k)) (with_choice (others r n d) x s k))) (λ s. all_below (skill_count c) (λ k. not (nat_lt (with_choice (others r n d) x s k) (minimum c d s k))))
        (λ s shift. all_same (skill_count c) (λ k. nat_le (min (minimum c d s k) (cover r d s k)) (with_choice (others r n d) x s k)) (λ k. not (nat_lt (with_choice (others r n d) x s k) (minimum c d s k)))
        (λ k skill. least_is (minimum c d s k) (cover r d s k) (with_choice (others r n d) x s k) (met d s k day shift skill)))

    row_is : (row : Row) → (can_work c from r n row && all_below (day_count c) (short_by_no_more c r (with_row r n row))) ≡ (keeps_hard c (with_row r n row) && keeps_frozen_days c from r n row)
    row_is row =
        let D = day_count c in
        let able : ℕ → Bool = λ d. may_take c n d (choice_on row d) in
        let stays : ℕ → Bool = λ d. keeps_frozen_day c from r n d (choice_on row d) in
        let follows : ℕ → Bool = λ d. not (breaks_succession c n (days_of row) d) in
        let staffed : ℕ → Bool = λ d. meets c d (with_choice (others r n d) (choice_on row d)) in
        ap₂ (λ a b. a && b) (works c from r n row) (short_is c r n within row)
        ∙ sym (all_both D (λ d. (able d && stays d) && follows d) (λ d. keeps_slots c r n d (choice_on row d)))
        ∙ all_same D (λ d. ((able d && stays d) && follows d) && keeps_slots c r n d (choice_on row d)) (λ d. ((able d && staffed d) && stays d) && follows d)
        (λ d day. ap (λ b. ((able d && stays d) && follows d) && b) (slots_meet d day (choice_on row d)) ∙ reorder (able d) (stays d) (follows d) (staffed d))
        ∙ sym (allowed-with_row c r keeps n within inside row from)

    pub rows_are_allowed : taking_rows c from r asked n ≡ filter (λ row. is_asked asked (choice_on row asked.day)) (allowed_rows c from r n)
    rows_are_allowed =
        (λ i. filter (λ row. row_is row i && is_asked asked (choice_on row asked.day)) (all_rows (all_choices c) (day_count c)))
        ∙ filter_both (λ row. keeps_hard c (with_row r n row) && keeps_frozen_days c from r n row) (λ row. is_asked asked (choice_on row asked.day)) (all_rows (all_choices c) (day_count c))

    none_missed : (row : Row) → keeps_hard c (with_row r n row) ≡ true → missed c (with_row r n row) ≡ 0
    none_missed row kept =
        let staffed = (and_parts _ _ (and_parts _ _ (and_parts _ _ (sym (keeps_hard-parts c (with_row r n row)) ∙ kept)).0).0).0 in
        sum_zero (day_count c) (λ d. shortfall c (minimum c d) (cover (with_row r n row) d))
        (λ d day. eqb-true (shortfall c (minimum c d) (cover (with_row r n row) d)) 0 (sym (meets-shortfall c d (cover (with_row r n row) d)) ∙ all_elim (day_count c) (λ e. meets c e (cover (with_row r n row) e)) staffed d day))

    pub cost_is_penalty : (row : Row) → Contains (taking_rows c from r asked n) row → cost_with c r n row ≡ penalty_with c r n row
    cost_is_penalty row member =
        let taking = and_parts _ _ (kept_passes (is_taking c from r asked n) (all_rows (all_choices c) (day_count c)) row member) in
        let hard = and_parts (keeps_hard c (with_row r n row)) (keeps_frozen_days c from r n row) (sym (row_is row) ∙ taking.0) in
        omega (arith, none_missed row hard.0)
