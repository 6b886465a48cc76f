-- The hard rules taken apart, and with one nurse's row replaced.
use Rattle.std.proofs.Common.{◌≡◌, ◌∙◌, ◌+◌, ◌<◌, ◌&&◌, ℕ, zero, suc, Bool, true, false, not, ap, ap₂, arith, refl, sym, List, [], ◌∷◌, ◌++◌, length, nat_lt}
use Rattle.std.proofs.lemmas.Bool.{and_parts}
use Rattle.roster_bundle.proofs.Ranges.{flat_map-range_more}
use Rattle.roster_rules.specs.AllowedRows.{keeps_frozen_day, keeps_frozen_days}
use Rattle.roster_instance.specs.Choices.{days_of}
use Rattle.roster_instance.specs.Counting.{all_below}
use Rattle.roster_instance.specs.Faults.{below, fault_if, is_none_of}
use Rattle.roster_rules.specs.HardRules.{absence_faults, breaks_succession, hard_faults, is_able_on, is_here_on, keeps_absences, keeps_hard, keeps_skills, keeps_successions, may_take, skill_faults, staffing_faults, succession_faults}
use Rattle.roster_instance.specs.Meaning.{Meaning, day_count, nurse_count, shift_count, skill_count, minimum}
use Rattle.roster_instance.specs.Rosters.{Row, Rows, choice_on, cover, days_of_nurse, row_of, with_row}
use Rattle.roster_laws.specs.OneRow.{is_offered_row, is_open, is_open_row, keeps_by_parts, others}
use Rattle.roster_laws.specs.Staffing.{meets, with_choice}
use Rattle.roster_laws.proofs.Below.{all_at, all_both, all_elim, all_same}
use Rattle.roster_laws.proofs.OneRow.{cover-with_row, other_row, own_row}

-- ---- there is no fault exactly if a test passes

pub none_of_both : {F : Type 0} (xs ys : List F) → is_none_of (xs ++ ys) ≡ (is_none_of xs && is_none_of ys)
none_of_both [] ys = refl
none_of_both (x ∷ xs) ys = refl

pub none_where_not : {F : Type 0} (b : Bool) (fault : F) → is_none_of (fault_if b fault) ≡ not b
none_where_not true fault = refl
none_where_not false fault = refl

pub none_below : {F : Type 0} (n : ℕ) (f : ℕ → List F) (p : ℕ → Bool) → ((k : ℕ) → is_none_of (f k) ≡ p k) → is_none_of (below n f) ≡ all_below n p
none_below zero f p each = refl
none_below (suc n) f p each =
    let one : suc n ≡ n + 1 = omega arith in
    ap (λ m. is_none_of (below m f)) one
    ∙ ap is_none_of (flat_map-range_more f n)
    ∙ none_of_both (below n f) (f n)
    ∙ ap₂ (λ a b. a && b) (none_below n f p each) (each n)

pub not_not : (b : Bool) → not (not b) ≡ b
not_not true = refl
not_not false = refl

pub keeps_hard-parts : (c : Meaning) (r : Rows) → keeps_hard c r ≡ keeps_by_parts c r
unfolding hard_faults
keeps_hard-parts c r =
    none_of_both (staffing_faults c r ++ succession_faults c r ++ skill_faults c r) (absence_faults c r)
    ∙ ap₂ (λ a b. a && b)
    (none_of_both (staffing_faults c r ++ succession_faults c r) (skill_faults c r)
    ∙ ap₂ (λ a b. a && b) (none_of_both (staffing_faults c r) (succession_faults c r) ∙ ap₂ (λ a b. a && b) minimums successions) skills) absences
  where
    minimums : is_none_of (staffing_faults c r) ≡ all_below (day_count c) (λ d. meets c d (cover r d))
    minimums = none_below (day_count c) _ _ (λ d. none_below (shift_count c) _ _ (λ s. none_below (skill_count c) _ _ (λ k. none_where_not (nat_lt (cover r d s k) (minimum c d s k)) _)))

    successions : is_none_of (succession_faults c r) ≡ all_below (nurse_count c) (λ n. keeps_successions c n (days_of_nurse r n) (day_count c))
    successions = none_below (nurse_count c) _ _ (λ n. none_below (day_count c) _ _ (λ d. none_where_not _ _))

    skills : is_none_of (skill_faults c r) ≡ all_below (nurse_count c) (λ n. keeps_skills c n (row_of r n) (day_count c))
    skills = none_below (nurse_count c) _ _ (λ n. none_below (day_count c) _ _ (λ d. none_where_not _ _ ∙ not_not (is_able_on c n (row_of r n) d)))

    absences : is_none_of (absence_faults c r) ≡ all_below (nurse_count c) (λ n. keeps_absences c n (row_of r n) (day_count c))
    absences = none_below (nurse_count c) _ _ (λ n. none_below (day_count c) _ _ (λ d. none_where_not _ _ ∙ not_not (is_here_on c n (row_of r n) d)))

-- ---- one row replaced

-- a choice is open, may follow, and stays
pub last_two : (a b d : Bool) → ((a && b) && d) ≡ ((a && d) && b)
last_two true true true = refl
last_two true true false = refl
last_two true false true = refl
last_two true false false = refl
last_two false b d = refl

and_turned : (m f a h : Bool) → (m && f && a && h) ≡ (((a && h) && m) && f)
and_turned true true true true = refl
and_turned true true true false = refl
and_turned true true false h = refl
and_turned true false true true = refl
and_turned true false true false = refl
and_turned true false false h = refl
and_turned false f true true = refl
and_turned false f true false = refl
and_turned false f false h = refl

module _ (c : Meaning) (r : Rows) (keeps : keeps_hard c r ≡ true) (n : ℕ) (within : n < length r) (inside : n < nurse_count c) (row : Row) where
  -- a rule for each nurse, which the others keep already
  of_one : (p : ℕ → Row → Bool) → all_below (nurse_count c) (λ m. p m (row_of r m)) ≡ true → all_below (nurse_count c) (λ m. p m (row_of (with_row r n row) m)) ≡ p n row
  of_one p kept =
      all_at (nurse_count c) n (λ m. p m (row_of (with_row r n row) m)) inside (λ m h other. ap (p m) (other_row r n within row m other) ∙ all_elim (nurse_count c) (λ m. p m (row_of r m)) kept m h)
      ∙ ap (p n) (own_row r n within row)

  pub keeps_hard-with_row : keeps_hard c (with_row r n row) ≡ is_open_row c r n row (day_count c)
  keeps_hard-with_row =
      let D = day_count c in
      let met : ℕ → Bool = λ d. meets c d (with_choice (others r n d) (choice_on row d)) in
      let rules = and_parts _ _ (sym (keeps_hard-parts c r) ∙ keeps) in
      let three = and_parts _ _ rules.0 in
      let each = and_parts _ _ three.0 in
      keeps_hard-parts c (with_row r n row)
      ∙ (λ i. all_below D (λ d. meets c d (λ s k. cover-with_row r n within row d s k i)) && of_one (λ m own. keeps_successions c m (days_of own) D) each.1 i && of_one (λ m own. keeps_skills c m own D) three.1 i && of_one (λ m own. keeps_absences c m own D) rules.1 i)
      ∙ and_turned (all_below D met) (keeps_successions c n (days_of row) D) (keeps_skills c n row D) (keeps_absences c n row D)
      ∙ ap (λ b. (b && all_below D met) && keeps_successions c n (days_of row) D) (sym (all_both D (is_able_on c n row) (is_here_on c n row)))
      ∙ ap (λ b. b && keeps_successions c n (days_of row) D) (sym (all_both D (λ d. may_take c n d (choice_on row d)) met))
      ∙ sym (all_both D (λ d. is_open c r n d (choice_on row d)) (λ d. not (breaks_succession c n (days_of row) d)))

  -- ---- with the frozen days as well: each choice is offered

  pub allowed-with_row : (from : ℕ) → (keeps_hard c (with_row r n row) && keeps_frozen_days c from r n row) ≡ is_offered_row c from r n row (day_count c)
  allowed-with_row from =
      let open_on : ℕ → Bool = λ d. is_open c r n d (choice_on row d) in
      let follows : ℕ → Bool = λ d. not (breaks_succession c n (days_of row) d) in
      let stays : ℕ → Bool = λ d. keeps_frozen_day c from r n d (choice_on row d) in
      ap (λ b. b && keeps_frozen_days c from r n row) keeps_hard-with_row
      ∙ sym (all_both (day_count c) (λ d. open_on d && follows d) stays)
      ∙ all_same (day_count c) (λ d. (open_on d && follows d) && stays d) (λ d. (open_on d && stays d) && follows d) (λ d h. last_two (open_on d) (follows d) (stays d))
