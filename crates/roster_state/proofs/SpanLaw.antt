-- A day does to each state of a span what it does to the first one.
use Rattle.std.proofs.Common.{◌≡◌, ◌∙◌, ◌⊎◌, inl, inr, ap, arith, refl, sym, ℕ, zero, suc, ◌+◌, ◌-◌, ◌*◌, ◌<◌, ◌≤◌, Bool, true, false, min, nat_le, if◌then◌else◌, Option, Some, None, is_some, option_map}
use Rattle.std.proofs.lemmas.Bool.{cases_lt, le-leb, lt-leb}
use Rattle.roster_instance.specs.declared.choice.Shift.{Shift}
use Rattle.roster_instance.specs.Counting.{one_if}
use Rattle.roster_rules.specs.DayLaw.{weekends_more}
use Rattle.roster_instance.specs.Meaning.{Meaning, contract_of, forbids}
use Rattle.roster_rules.specs.Prefix.{Summary}
use Rattle.roster_instance.specs.Sizes.{cap}
use Rattle.roster_rules.specs.Weights.{assignment_weight, weekend_weight}
use Rattle.roster_state.specs.Transition.{free_more, next_of, run_with, shift_run_with, shifts_more, split_more, transition_cost, transition_of, with_assignments, working_more}
use Rattle.roster_state.specs.Spans.{IsAlike, moved_on, span_state}

more_at_most : (day : ℕ) (before now : Bool) → weekends_more day before now ≤ weekends_more day before true
more_at_most day before true = omega arith
more_at_most day before false = grind arith

weekend_same : (points greatest w more counts : ℕ) → w + more + counts ≤ greatest → (if nat_le greatest w then points * counts else 0) ≡ (if nat_le greatest (w + more) then points * counts else 0)
weekend_same points greatest w more zero small = nothing (nat_le greatest w) ∙ sym (nothing (nat_le greatest (w + more)))
  where
    nothing : (b : Bool) → (if b then points * 0 else 0) ≡ 0
    nothing true = omega arith
    nothing false = refl
weekend_same points greatest w more (suc counts) small =
    λ i. if (lt-leb greatest w (omega (arith, small)) ∙ sym (lt-leb greatest (w + more) (omega (arith, small)))) i then points * suc counts else 0

one_few : (b : Bool) → one_if b ≤ 1
one_few true = omega arith
one_few false = omega arith

module _ (c : Meaning) (n day : ℕ) (s : Summary) (strips begin end : ℕ) (alike : IsAlike c n day s strips begin end) (i b : ℕ) (in_strips : i < strips) (in_places : b < end - begin) (below : begin < cap (contract_of c n).total + 1) where
  abbrev first : Summary
  first = with_assignments s begin

  abbrev other : Summary
  other = span_state s begin i b

  module _ (shift : Option Shift) where
    abbrev counts : ℕ
    counts = weekends_more day (is_some s.last) (is_some shift)

    -- a further strip has no worked weekend above the greatest number
    strip_few : 0 < i → s.weekends + i + counts ≤ (contract_of c n).weekends
    strip_few some = omega (arith, alike.weekends (omega (arith, some, in_strips)), in_strips, more_at_most day (is_some s.last) (is_some shift))

    weekends_far : min (s.weekends + counts) (contract_of c n).weekends + i ≡ min (s.weekends + i + counts) (contract_of c n).weekends
    weekends_far = go (cases_lt 0 i)
      where
        go : (0 < i) ⊎ (i ≤ 0) → min (s.weekends + counts) (contract_of c n).weekends + i ≡ min (s.weekends + i + counts) (contract_of c n).weekends
        go (inl some) = omega (arith, strip_few some)
        go (inr none) = omega (arith, none)

    weekend_alike : (if nat_le (contract_of c n).weekends s.weekends then weekend_weight * counts else 0) ≡ (if nat_le (contract_of c n).weekends (s.weekends + i) then weekend_weight * counts else 0)
    weekend_alike = go (cases_lt 0 i)
      where
        go : (0 < i) ⊎ (i ≤ 0) → (if nat_le (contract_of c n).weekends s.weekends then weekend_weight * counts else 0) ≡ (if nat_le (contract_of c n).weekends (s.weekends + i) then weekend_weight * counts else 0)
        go (inl some) = weekend_same weekend_weight (contract_of c n).weekends s.weekends i counts (strip_few some)
        go (inr none) = let same : s.weekends ≡ s.weekends + i = omega (arith, none) in ap (λ w. if nat_le (contract_of c n).weekends w then weekend_weight * counts else 0) same

    assignments_far : min (begin + one_if (is_some shift)) (cap (contract_of c n).total) + b ≡ min (begin + b + one_if (is_some shift)) (cap (contract_of c n).total)
    assignments_far = go (cases_lt 0 b)
      where
        go : (0 < b) ⊎ (b ≤ 0) → min (begin + one_if (is_some shift)) (cap (contract_of c n).total) + b ≡ min (begin + b + one_if (is_some shift)) (cap (contract_of c n).total)
        go (inl some) = omega (arith, alike.assignments (omega (arith, some, in_places)), in_places, one_few (is_some shift))
        go (inr none) = omega (arith, none)

  level_same : nat_le (contract_of c n).total.greatest begin ≡ nat_le (contract_of c n).total.greatest (begin + b)
  level_same = go (cases_lt begin (contract_of c n).total.greatest)
    where
      go : (begin < (contract_of c n).total.greatest) ⊎ ((contract_of c n).total.greatest ≤ begin) → nat_le (contract_of c n).total.greatest begin ≡ nat_le (contract_of c n).total.greatest (begin + b)
      go (inl low) = lt-leb (contract_of c n).total.greatest begin low ∙ sym (lt-leb (contract_of c n).total.greatest (begin + b) (omega (arith, alike.level low, in_places)))
      go (inr high) = le-leb (contract_of c n).total.greatest begin high ∙ sym (le-leb (contract_of c n).total.greatest (begin + b) (omega (arith, high)))

  next_alike : (shift : Option Shift) → with_assignments (record (next_of c n day first shift) { weekends = (next_of c n day first shift).weekends + i }) ((next_of c n day first shift).assignments + b) ≡ next_of c n day other shift
  unfolding next_of
  next_alike None = λ j. record { last = None; run = run_with c n s None; shift_run = 0; assignments = assignments_far None j; weekends = weekends_far None j }
  next_alike (Some t) = λ j. record { last = Some t; run = run_with c n s (Some t); shift_run = shift_run_with c s (Some t); assignments = assignments_far (Some t) j; weekends = weekends_far (Some t) j }

  cost_alike : (shift : Option Shift) → transition_cost c n day first shift ≡ transition_cost c n day other shift
  unfolding transition_cost
  cost_alike shift = λ j.
      working_more c n s shift + free_more c n s shift + shifts_more c s shift + split_more c n day s shift
      + (if level_same j then assignment_weight * one_if (is_some shift) else 0) + weekend_alike shift j

  pub transition_alike : (shift : Option Shift) → option_map (moved_on i b) (transition_of c n day first shift) ≡ transition_of c n day other shift
  transition_alike shift = go (forbids c.successions s.last shift)
    where
      go : (f : Bool) → option_map (moved_on i b) (if f then None else Some (next_of c n day first shift, transition_cost c n day first shift)) ≡ (if f then None else Some (next_of c n day other shift, transition_cost c n day other shift))
      go true = refl
      go false = λ j. Some (next_alike shift j, cost_alike shift j)
