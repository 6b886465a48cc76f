-- If no breach is irreparable, each nurse has a row: as given on the frozen days, and off on the others.
use Rattle.std.proofs.Common.{◌≡◌, ◌∙◌, ◌-◌, ◌<◌, ◌≤◌, ◌++◌, ◌==◌, ◌||◌, ◌⊎◌, ◌&&◌, ℕ, Bool, List, true, false, not, inl, inr, ap, ap₂, arith, refl, sym, [], ◌∷◌, length, map, None, Option, Some, if◌then◌else◌}
use Rattle.std.specs.List.{All, list_all, range_with_len}
use Rattle.std.proofs.lemmas.Bool.{and_from, and_parts, cases_Bool, cases_lt, eq-eqb}
use Rattle.std.proofs.lemmas.List.{get_or_past}
use Rattle.std.proofs.lemmas.List.FromFn.{get_or-map-range_with_len, length-map-range_with_len}
use Rattle.std.proofs.lemmas.List.Elements.{All-cons, All-get_or, All-map, All-nil}
use Rattle.std.proofs.lemmas.List.Sums.{AllPass-from_list_all, list_all-from_AllPass}
use Rattle.roster_instance.specs.declared.choice.Choice.{Choice}
use Rattle.roster_instance.specs.declared.choice.Choice.TheVariants.{Off}
use Rattle.roster_instance.specs.declared.choice.Shift.{Shift}
use Rattle.roster_instance.specs.Choices.{days_of, same_choice, shift_of}
use Rattle.roster_instance.specs.Counting.{all_below}
use Rattle.roster_instance.specs.Days.{shift_on}
use Rattle.roster_instance.specs.Faults.{is_none_of}
use Rattle.roster_instance.specs.Meaning.{Meaning, day_count, forbids, last_shift, nurse_at, nurse_count, past_of}
use Rattle.roster_instance.specs.Rosters.{Row, Rows, choice_on, days_of_nurse, fits_case, is_choice_of, is_row_of, row_of}
use Rattle.roster_rules.specs.AllowedRows.{is_frozen, keeps_frozen_day, keeps_frozen_days}
use Rattle.roster_rules.specs.HardRules.{breaks_succession, is_able, is_able_on, is_here, is_here_on, keeps_absences, keeps_skills, keeps_successions, shift_before, skill_faults, skill_fault}
use Rattle.roster_rules.specs.declared.fault.HardFault.{HardFault}
use Rattle.roster_rules.proofs.CountLemmas.{shift_of_day}
use Rattle.roster_instance.proofs.RosterFacts.{row_fits}
use Rattle.roster_laws.proofs.Allowed.{present_stays}
use Rattle.roster_laws.proofs.Below.{all_elim, all_true}
use Rattle.roster_laws.proofs.Keeps.{none_below, none_of_both, none_where_not, not_not}
use Rattle.roster_prices.specs.LowerBounds.{HaveRows, can_work}
use Rattle.roster_costs.specs.Irreparable.{follows_frozen, frozen_absences, frozen_minimums, frozen_successions, irreparable}

-- a day off may follow each shift, and may come before each
off_follows : (successions : List (Option (List Bool))) (last : Option Shift) → forbids successions last None ≡ false
off_follows successions None = refl
off_follows successions (Some s) = refl

-- what holds of each number holds of each member of a list
everywhere : (P : ℕ → Type 0) → ((d : ℕ) → P d) → (ds : List ℕ) → All P ds
everywhere P holds [] = All-nil P
everywhere P holds (d ∷ ds) = All-cons P d ds (holds d) (everywhere P holds ds)

module _ (c : Meaning) (from : ℕ) (r : Rows) (fits : fits_case c r ≡ true) (none : irreparable c from r ≡ []) where
  abbrev of_rows : List HardFault
  of_rows = skill_faults c r ++ frozen_successions c from r ++ frozen_absences c from r

  none_of_rows : is_none_of of_rows ≡ true
  none_of_rows = (and_parts _ _ (sym (none_of_both of_rows (frozen_minimums c from r)) ∙ ap is_none_of none)).0

  parts : (is_none_of (skill_faults c r ++ frozen_successions c from r) ≡ true) × (is_none_of (frozen_absences c from r) ≡ true)
  parts = and_parts _ _ (sym (none_of_both (skill_faults c r ++ frozen_successions c from r) (frozen_absences c from r)) ∙ none_of_rows)

  two_parts : (is_none_of (skill_faults c r) ≡ true) × (is_none_of (frozen_successions c from r) ≡ true)
  two_parts = and_parts _ _ (sym (none_of_both (skill_faults c r) (frozen_successions c from r)) ∙ parts.0)

  -- what the given rows keep
  able : all_below (nurse_count c) (λ n. keeps_skills c n (row_of r n) (day_count c)) ≡ true
  able = sym (none_below (nurse_count c) _ (λ n. keeps_skills c n (row_of r n) (day_count c)) (λ n. none_below (day_count c) (skill_fault c r n) (is_able_on c n (row_of r n)) (λ d. none_where_not _ _ ∙ not_not (is_able_on c n (row_of r n) d)))) ∙ two_parts.0

  abbrev follows_on : ℕ → ℕ → Bool
  follows_on n d = not (follows_frozen c from n d && is_frozen c from n d && breaks_succession c n (days_of_nurse r n) d)

  follows : all_below (nurse_count c) (λ n. all_below (day_count c) (follows_on n)) ≡ true
  follows = sym (none_below (nurse_count c) _ (λ n. all_below (day_count c) (follows_on n)) (λ n. none_below (day_count c) _ (follows_on n) (λ d. none_where_not _ _))) ∙ two_parts.1

  abbrev here_on : ℕ → ℕ → Bool
  here_on n d = not (is_frozen c from n d && not (is_here_on c n (row_of r n) d))

  here : all_below (nurse_count c) (λ n. all_below (day_count c) (here_on n)) ≡ true
  here = sym (none_below (nurse_count c) _ (λ n. all_below (day_count c) (here_on n)) (λ n. none_below (day_count c) _ (here_on n) (λ d. none_where_not _ _))) ∙ parts.1

  module _ (n : ℕ) (inside : n < nurse_count c) where
    abbrev given : Row
    given = row_of r n

    -- on a frozen day the given choice, and off on another
    abbrev chosen : ℕ → Choice
    chosen d = if is_frozen c from n d then choice_on given d else Off

    abbrev own : Row
    own = map chosen (range_with_len 0 (day_count c))

    own_days : length own ≡ day_count c
    own_days = length-map-range_with_len chosen 0 (day_count c)

    own_on : (d : ℕ) → d < day_count c → choice_on own d ≡ chosen d
    own_on d within = get_or-map-range_with_len chosen 0 (day_count c) d d Off within (omega arith)

    at_frozen : (d : ℕ) → d < day_count c → is_frozen c from n d ≡ true → choice_on own d ≡ choice_on given d
    at_frozen d within frozen = own_on d within ∙ ap (λ b. if b then choice_on given d else Off) frozen

    at_open : (d : ℕ) → d < day_count c → is_frozen c from n d ≡ false → choice_on own d ≡ Off
    at_open d within free = own_on d within ∙ ap (λ b. if b then choice_on given d else Off) free

    given_fits : (d : ℕ) → is_choice_of c (choice_on given d) ≡ true
    given_fits d = go (cases_lt d (length given))
      where
        each : All (λ x. is_choice_of c x ≡ true) given
        each = AllPass-from_list_all (is_choice_of c) given (and_parts (length given == day_count c) (list_all (is_choice_of c) given) (row_fits c r n fits inside)).1

        go : (d < length given) ⊎ (length given ≤ d) → is_choice_of c (choice_on given d) ≡ true
        go (inl within) = All-get_or (λ x. is_choice_of c x ≡ true) given d Off within each
        go (inr past) = ap (is_choice_of c) (get_or_past given d Off past)

    chosen_fits : (d : ℕ) → is_choice_of c (chosen d) ≡ true
    chosen_fits d = go (is_frozen c from n d)
      where
        go : (b : Bool) → is_choice_of c (if b then choice_on given d else Off) ≡ true
        go true = given_fits d
        go false = refl

    own_fits : is_row_of c own ≡ true
    own_fits =
        let each = All-map (λ x. is_choice_of c x ≡ true) chosen (range_with_len 0 (day_count c)) (everywhere (λ d. is_choice_of c (chosen d) ≡ true) chosen_fits (range_with_len 0 (day_count c))) in
        and_from (length own == day_count c) (list_all (is_choice_of c) own) (eq-eqb (length own) (day_count c) own_days) (list_all-from_AllPass (is_choice_of c) own each)

    shift_frozen : (d : ℕ) → d < day_count c → is_frozen c from n d ≡ true → shift_on (days_of own) d ≡ shift_on (days_of given) d
    shift_frozen d within frozen = sym (shift_of_day own d (shift_of (choice_on given d)) (ap shift_of (sym (at_frozen d within frozen)))) ∙ shift_of_day given d (shift_of (choice_on given d)) refl

    shift_open : (d : ℕ) → d < day_count c → is_frozen c from n d ≡ false → shift_on (days_of own) d ≡ None
    shift_open d within free = sym (shift_of_day own d None (ap shift_of (sym (at_open d within free))))

    own_able : (d : ℕ) → d < day_count c → is_able_on c n own d ≡ true
    own_able d within = go (cases_Bool (is_frozen c from n d))
      where
        go : (is_frozen c from n d ≡ true) ⊎ (is_frozen c from n d ≡ false) → is_able_on c n own d ≡ true
        go (inl frozen) = ap (is_able (nurse_at c n).skills) (at_frozen d within frozen) ∙ all_elim (day_count c) (is_able_on c n given) (all_elim (nurse_count c) (λ k. keeps_skills c k (row_of r k) (day_count c)) able n inside) d within
        go (inr free) = ap (is_able (nurse_at c n).skills) (at_open d within free)

    own_here : (d : ℕ) → d < day_count c → is_here_on c n own d ≡ true
    own_here d within = go (cases_Bool (is_frozen c from n d))
      where
        go : (is_frozen c from n d ≡ true) ⊎ (is_frozen c from n d ≡ false) → is_here_on c n own d ≡ true
        go (inl frozen) =
            ap (is_here c n d) (at_frozen d within frozen)
            ∙ sym (not_not (is_here_on c n given d))
            ∙ sym (ap (λ b. not (b && not (is_here_on c n given d))) frozen)
            ∙ all_elim (day_count c) (here_on n) (all_elim (nurse_count c) (λ k. all_below (day_count c) (here_on k)) here n inside) d within
        go (inr free) = ap (is_here c n d) (at_open d within free)

    abbrev last : Option Shift
    last = last_shift (past_of c n).border

    -- what stays before a frozen day keeps the successions as it is given
    same_follows : (d : ℕ) → d < day_count c → is_frozen c from n d ≡ true → follows_frozen c from n d ≡ true → shift_before last (days_of own) d ≡ shift_before last (days_of given) d → not (breaks_succession c n (days_of own) d) ≡ true
    same_follows d within frozen after before =
        ap not (ap₂ (forbids c.successions) before (shift_frozen d within frozen))
        ∙ sym (ap₂ (λ a b. not (a && b && breaks_succession c n (days_of given) d)) after frozen)
        ∙ all_elim (day_count c) (follows_on n) (all_elim (nurse_count c) (λ k. all_below (day_count c) (follows_on k)) follows n inside) d within

    own_follows : (d : ℕ) → d < day_count c → not (breaks_succession c n (days_of own) d) ≡ true
    own_follows d within = go (cases_Bool (is_frozen c from n d))
      where
        later : is_frozen c from n d ≡ true → (d == 0) ≡ false → (is_frozen c from n (d - 1) ≡ true) ⊎ (is_frozen c from n (d - 1) ≡ false) → not (breaks_succession c n (days_of own) d) ≡ true
        later frozen e (inl before) =
            same_follows d within frozen (ap (λ b. if b then true else is_frozen c from n (d - 1)) e ∙ before)
            (ap (λ (s : Option Shift). if d == 0 then last else s) (shift_frozen (d - 1) (omega (arith, within)) before))
        later frozen e (inr free) =
            ap not (ap (λ (s : Option Shift). forbids c.successions s (shift_on (days_of own) d)) (ap (λ b. if b then last else shift_on (days_of own) (d - 1)) e ∙ shift_open (d - 1) (omega (arith, within)) free))

        first : is_frozen c from n d ≡ true → ((d == 0) ≡ true) ⊎ ((d == 0) ≡ false) → not (breaks_succession c n (days_of own) d) ≡ true
        first frozen (inl e) =
            same_follows d within frozen (ap (λ b. if b then true else is_frozen c from n (d - 1)) e)
            (ap (λ b. if b then last else shift_on (days_of own) (d - 1)) e ∙ sym (ap (λ b. if b then last else shift_on (days_of given) (d - 1)) e))
        first frozen (inr e) = later frozen e (cases_Bool (is_frozen c from n (d - 1)))

        go : (is_frozen c from n d ≡ true) ⊎ (is_frozen c from n d ≡ false) → not (breaks_succession c n (days_of own) d) ≡ true
        go (inl frozen) = first frozen (cases_Bool (d == 0))
        go (inr free) = ap not (ap (forbids c.successions (shift_before last (days_of own) d)) (shift_open d within free) ∙ off_follows c.successions (shift_before last (days_of own) d))

    own_stays : (d : ℕ) → d < day_count c → keeps_frozen_day c from r n d (choice_on own d) ≡ true
    own_stays d within = go (cases_Bool (is_frozen c from n d))
      where
        go : (is_frozen c from n d ≡ true) ⊎ (is_frozen c from n d ≡ false) → keeps_frozen_day c from r n d (choice_on own d) ≡ true
        go (inl frozen) = ap (keeps_frozen_day c from r n d) (at_frozen d within frozen) ∙ all_elim (day_count c) (λ k. keeps_frozen_day c from r n k (choice_on given k)) (present_stays c from r n) d within
        go (inr free) = ap (λ b. not b || same_choice (choice_on own d) (choice_on given d)) free

    own_works : can_work c from r n own ≡ true
    own_works =
        and_from (keeps_skills c n own (day_count c) && keeps_absences c n own (day_count c) && keeps_successions c n (days_of own) (day_count c)) (keeps_frozen_days c from r n own)
        (and_from (keeps_skills c n own (day_count c) && keeps_absences c n own (day_count c)) (keeps_successions c n (days_of own) (day_count c))
        (and_from (keeps_skills c n own (day_count c)) (keeps_absences c n own (day_count c)) (all_true (day_count c) (is_able_on c n own) own_able) (all_true (day_count c) (is_here_on c n own) own_here)) (all_true (day_count c) (λ d. not (breaks_succession c n (days_of own) d)) own_follows))
        (all_true (day_count c) (λ d. keeps_frozen_day c from r n d (choice_on own d)) own_stays)

  pub repairable_rows : HaveRows c from r
  repairable_rows n inside = record { row = own n inside; fits = own_fits n inside; works = own_works n inside }
