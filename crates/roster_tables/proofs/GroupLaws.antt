-- The states of a group, those that differ in their worked weekends and assignments alone: their numbers, and
-- their cells by one more number of weekends.
use Rattle.std.proofs.Common.{◌≡◌, ◌∙◌, ◌+◌, ◌*◌, ◌<◌, ◌≤◌, ◌⊎◌, ℕ, true, inl, inr, ap, arith, subst, sym, List, slice_index_or, Option}
use Rattle.std.proofs.lemmas.Bool.{cases_lt}
use Rattle.std.proofs.lemmas.Nat.{mul-le}
use Rattle.roster_instance.specs.declared.choice.Shift.{Shift}
use Rattle.roster_instance.specs.Meaning.{Meaning, past_of}
use Rattle.roster_rules.specs.Prefix.{Summary}
use Rattle.roster_state.specs.declared.state_box.StateBox.{StateBox}
use Rattle.roster_state.specs.Boxes.{InBox, InInterval, box_at}
use Rattle.roster_state.specs.Codes.{Sizes, code_of, fits_sizes, shift_digit, sizes_of}
use Rattle.roster_state.specs.Reachable.{can_be, can_be_with, excess}
use Rattle.roster_state.specs.Transition.{with_assignments, with_weekends}
use Rattle.roster_state.proofs.CodeLemmas.{Fits, all-fit, fits-all}
use Rattle.roster_tables.specs.declared.day.OpenDay.{OpenDay}
use Rattle.roster_tables.specs.OpenDays.{IsGroupOf, IsReachableOn}
use Rattle.roster_tables.specs.Tables.{CellsOf, IsReachableLike}
use Rattle.roster_tables.proofs.CountLaws.{Goes, goes_over}

-- ---- numbers

at_front : (x w b a : ℕ) → (x * w + 0) * b + 0 ≡ x * w * b
at_front x w b a = omega arith

further : (x size v b a : ℕ) → (x * size + v) * b + a ≡ (x * size + 0) * b + 0 + v * b + a
further x size v b a = omega arith

-- one more number of weekends is beyond all places before
pub weekends_before : (v w size a : ℕ) → v < w → a < size → v * size + a < w * size
weekends_before v w size a before inside =
    let more : (v + 1) * size ≤ w * size = mul-le (v + 1) size w size (omega (arith, before)) (omega arith) in
    omega (arith, more, inside)

module _ (z : Sizes) (group : Summary) (no_weekends : group.weekends ≡ 0) (no_assignments : group.assignments ≡ 0) where
  abbrev runs : ℕ
  runs = (shift_digit group.last * z.run + group.run) * z.shift_run + group.shift_run

  code_group : code_of z group ≡ (runs * z.weekends + 0) * z.assignments + 0
  unfolding code_of
  code_group = λ i. (runs * z.weekends + no_weekends i) * z.assignments + no_assignments i

  pub code_place : (w a : ℕ) → code_of z (with_assignments (with_weekends group w) a) ≡ code_of z group + w * z.assignments + a
  unfolding code_of
  code_place w a = further runs z.weekends w z.assignments a ∙ ap (λ n. n + w * z.assignments + a) (sym code_group)

  pub code_block : (w : ℕ) → code_of z (with_weekends group w) ≡ code_of z group + w * z.assignments
  unfolding code_of
  code_block w =
      (λ i. (runs * z.weekends + w) * z.assignments + no_assignments i)
      ∙ further runs z.weekends w z.assignments 0 ∙ ap (λ n. n + w * z.assignments + 0) (sym code_group) ∙ omega arith

-- ---- a reachable state like the group's

module _ {c : Meaning} {n : ℕ} {boxes : List StateBox} {group s : Summary} (like : IsReachableLike c n boxes group s) where
  pub as_place : (w : ℕ) → s.weekends ≡ w → with_assignments (with_weekends group w) s.assignments ≡ s
  as_place w is = λ i. record {
    last = sym like.last i;
    run = sym like.run i;
    shift_run = sym like.shift_run i;
    assignments = s.assignments;
    weekends = sym is i;
  }

  like_box : InBox (box_at boxes (shift_digit group.last)) s
  like_box = subst (λ (x : StateBox). InBox x s) (ap (λ (l : Option Shift). box_at boxes (shift_digit l)) like.last) like.reachable.inside

  pub like_fits : Fits (sizes_of c n) s
  like_fits = fits-all (sizes_of c n) s like.reachable.fits

  -- it is in the intervals of the box
  pub like_place : {begin end : ℕ} → Goes (box_at boxes (shift_digit group.last)).assignments (sizes_of c n).assignments begin end → (begin ≤ s.assignments) × (s.assignments < end)
  like_place goes = goes_over goes like_box.assignments like_fits.assignments

  pub like_weekends : {begin end : ℕ} → Goes (box_at boxes (shift_digit group.last)).weekends (sizes_of c n).weekends begin end → (begin ≤ s.weekends) × (s.weekends < end)
  like_weekends goes = goes_over goes like_box.weekends like_fits.weekends

  -- whether a row can lead to it depends on the group alone
  pub like_can_be : can_be c n group ≡ true
  like_can_be = (λ i. can_be_with c n (excess (past_of c n).border) (sym like.run i) (sym like.shift_run i) (sym like.last i)) ∙ like.reachable.can_be

  -- its index in a table
  pub like_code : (z : Sizes) → z ≡ sizes_of c n → group.weekends ≡ 0 → group.assignments ≡ 0 → code_of (sizes_of c n) s ≡ code_of z group + s.weekends * z.assignments + s.assignments
  like_code z sizes no_weekends no_assignments =
      ap (λ y. code_of y s) (sym sizes) ∙ ap (code_of z) (sym (as_place s.weekends (λ i. s.weekends))) ∙ code_place z group no_weekends no_assignments s.weekends s.assignments

pub weekends_fit : (z : Sizes) (group : Summary) (w : ℕ) → fits_sizes z group ≡ true → w < z.weekends → fits_sizes z (with_weekends group w) ≡ true
weekends_fit z group w fits inside =
    let f = fits-all z group fits in
    all-fit z (with_weekends group w) (record { last = f.last; run = f.run; shift_run = f.shift_run; assignments = f.assignments; weekends = inside })

-- each state of the group in the box is reachable, if a row may lead to it
pub place_reachable : (day : OpenDay) (group : Summary) → IsGroupOf day group → can_be day.days.search.case.now day.days.search.nurse group ≡ true → (w a : ℕ) → w < day.days.ranges.weekends → a < day.days.ranges.assignments
    → InInterval (box_at day.boxes.now (shift_digit group.last)).weekends w → InInterval (box_at day.boxes.now (shift_digit group.last)).assignments a → IsReachableOn day (with_assignments (with_weekends group w) a)
place_reachable day group good may_be w a w_fits a_fits w_in a_in =
    let f = fits-all day.days.ranges group good.fits in
    record {
      fits = subst (λ z. fits_sizes z (with_assignments (with_weekends group w) a) ≡ true) day.days.own_ranges
          (all-fit day.days.ranges (with_assignments (with_weekends group w) a) (record { last = f.last; run = f.run; shift_run = f.shift_run; assignments = a_fits; weekends = w_fits }));
      can_be = may_be;
      inside = record { run = good.run; shift_run = good.shift_run; weekends = w_in; assignments = a_in };
    }

-- ---- the cells of a group by one more number of weekends

module _ (c : Meaning) (n : ℕ) (boxes : List StateBox) (group : Summary) (z : Sizes) (sizes : z ≡ sizes_of c n) (no_weekends : group.weekends ≡ 0) (no_assignments : group.assignments ≡ 0) (right : Summary → ℕ → Type 0) (place : ℕ → ℕ) (old new : List ℕ) where
  pub cells_of_weekends : (w begin end : ℕ) → ((code : ℕ) → code < code_of z group + w * z.assignments → slice_index_or new (place code) 0 ≡ slice_index_or old (place code) 0)
      → ((a : ℕ) → begin ≤ a → a < end → right (with_assignments (with_weekends group w) a) (slice_index_or new (place (code_of z group + w * z.assignments + a)) 0))
      → ((s : Summary) → IsReachableLike c n boxes group s → (begin ≤ s.assignments) × (s.assignments < end))
      → CellsOf (λ s. IsReachableLike c n boxes group s × (s.weekends < w)) (sizes_of c n) right place old → CellsOf (λ s. IsReachableLike c n boxes group s × (s.weekends < w + 1)) (sizes_of c n) right place new
  cells_of_weekends w begin end same here within before s which = go (cases_lt s.weekends w)
    where
      like : IsReachableLike c n boxes group s
      like = which.0

      number : code_of (sizes_of c n) s ≡ code_of z group + s.weekends * z.assignments + s.assignments
      number = like_code like z sizes no_weekends no_assignments

      go : (s.weekends < w) ⊎ (w ≤ s.weekends) → right s (slice_index_or new (place (code_of (sizes_of c n) s)) 0)
      go (inl low) =
          let below = weekends_before s.weekends w z.assignments s.assignments low (omega (arith, (like_fits like).assignments, ap (λ (y : Sizes). y.assignments) sizes)) in
          subst (right s) (sym (same (code_of (sizes_of c n) s) (omega (arith, number, below)))) (before s (like, low))
      go (inr high) =
          let is : s.weekends ≡ w = omega (arith, high, which.1) in
          let at_w : code_of (sizes_of c n) s ≡ code_of z group + w * z.assignments + s.assignments = number ∙ ap (λ v. code_of z group + v * z.assignments + s.assignments) is in
          subst (λ k. right s (slice_index_or new (place k) 0)) (sym at_w)
          (subst (λ t. right t (slice_index_or new (place (code_of z group + w * z.assignments + s.assignments)) 0)) (as_place like w is) (here s.assignments (within s like).0 (within s like).1))

-- one more number of weekends is within the group
pub weekends_within : (w weekends size : ℕ) → w < weekends → w * size + size ≤ weekends * size
weekends_within w weekends size inside =
    let more : (w + 1) * size ≤ weekends * size = mul-le (w + 1) size weekends size (omega (arith, inside)) (omega arith) in
    omega (arith, more)
