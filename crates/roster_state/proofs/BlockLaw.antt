-- What a day does to the places of a block is what it does to their states.
use Rattle.std.proofs.Common.{◌≡◌, ◌∙◌, ap, ap₂, arith, refl, subst, sym, ℕ, ◌+◌, ◌*◌, ◌<◌, ◌≤◌, Bool, true, false, min, nat_le, if◌then◌else◌, Option, Some, None, is_some, IfSome, option_map}
use Rattle.roster_instance.specs.declared.choice.Shift.{Shift}
use Rattle.roster_instance.specs.Counting.{one_if}
use Rattle.roster_instance.specs.Meaning.{Meaning, contract_of, forbids, shift_count}
use Rattle.roster_rules.specs.Prefix.{Summary}
use Rattle.roster_instance.specs.Sizes.{cap}
use Rattle.roster_instance.specs.Small.{HasSmallNumbers}
use Rattle.roster_rules.specs.Weights.{assignment_weight}
use Rattle.roster_state.specs.declared.block.BlockStep.{BlockStep}
use Rattle.roster_state.specs.Blocks.{place_after, place_step}
use Rattle.roster_state.specs.Codes.{fits_sizes, sizes_of}
use Rattle.roster_state.specs.MostCosts.{most_of_transition}
use Rattle.roster_state.specs.Transition.{cost_apart, next_of, transition_cost, transition_of, with_assignments}
use Rattle.roster_state.proofs.CodeLemmas.{place-fits}
use Rattle.roster_state.proofs.RangeLemmas.{next_fits}
use Rattle.roster_state.proofs.TransitionBounds.{runs_more_within, shifts_more_within, split_more_within, weekend_more_within}

-- ---- a transition that may be forbidden

-- what holds of the transition holds if there is one
pub where_some : {X : Type 0} (forbidden : Bool) (x : X) (o : Option X) → o ≡ (if forbidden then None else Some x) → (P : X → Type 0) → P x → IfSome o P
where_some true x o is P holds = subst (λ p. IfSome p P) (sym is) tt
where_some false x o is P holds = subst (λ p. IfSome p P) (sym is) holds

-- ---- the cost of a transition, summand by summand

module _ (c : Meaning) (n day : ℕ) (s : Summary) where
  module _ (shift : Option Shift) where
    abbrev pub assignments_after : ℕ → ℕ
    assignments_after a = min (a + one_if (is_some shift)) (cap (contract_of c n).total)

    abbrev pub total_more : ℕ → ℕ
    total_more a = if nat_le (contract_of c n).total.greatest a then assignment_weight * one_if (is_some shift) else 0

    pub more_above : (a : ℕ) → (if is_some shift then (if nat_le (contract_of c n).total.greatest a then assignment_weight else 0) else 0) ≡ total_more a
    more_above a = of_shift shift
      where
        of_shift : (o : Option Shift) → (if is_some o then (if nat_le (contract_of c n).total.greatest a then assignment_weight else 0) else 0) ≡ (if nat_le (contract_of c n).total.greatest a then assignment_weight * one_if (is_some o) else 0)
        of_shift None = grind arith
        of_shift (Some t) = refl

    pub cost_at : (a : ℕ) → cost_apart c n day s shift + total_more a ≡ transition_cost c n day (with_assignments s a) shift
    unfolding transition_cost
    cost_at a = omega arith

    pub apart_within : HasSmallNumbers c → cost_apart c n day s shift + assignment_weight ≤ most_of_transition
    apart_within small =
        omega (arith, runs_more_within c n s shift small, shifts_more_within c n s shift small, split_more_within c n s shift day, weekend_more_within c n s shift day)

  pub next_at : (shift : Option Shift) (a : ℕ) → with_assignments (next_of c n day s shift) (assignments_after shift a) ≡ next_of c n day (with_assignments s a) shift
  unfolding next_of
  next_at None a = refl
  next_at (Some t) a = refl

  -- ---- the places

  abbrev places : ℕ
  places = cap (contract_of c n).total + 1

  -- the place from which on the day costs more
  abbrev pub dearer : Option Shift → ℕ
  dearer shift = if is_some shift then (contract_of c n).total.greatest else places

  after_at : (shift : Option Shift) (a : ℕ) → a < places → place_after places (is_some shift) a ≡ assignments_after shift a
  after_at None a inside = omega (arith, inside)
  after_at (Some t) a inside = omega arith

  more_at : (shift : Option Shift) (a : ℕ) → a < places → (if nat_le (dearer shift) a then assignment_weight else 0) ≡ total_more shift a
  more_at None a inside = grind (arith, inside)
  more_at (Some t) a inside = refl

  -- the fields of a block's step
  module _ (shift : Option Shift) (x : Summary) (m : Bool) (k d : ℕ) (next : x ≡ with_assignments (next_of c n day s shift) 0) (moves : m ≡ is_some shift) (cost : k ≡ cost_apart c n day s shift) (from : d ≡ dearer shift) where
    abbrev transition : BlockStep
    transition = record { next = x; moves = m; cost = k; dearer_from = d }

    place : (a : ℕ) → a < places → place_step places a transition ≡ (next_of c n day (with_assignments s a) shift, transition_cost c n day (with_assignments s a) shift)
    place a inside =
        (λ i. (with_assignments (next i) (place_after places (moves i) a), cost i + (if nat_le (from i) a then assignment_weight else 0)))
        ∙ ap₂ (λ b m. (with_assignments (next_of c n day s shift) b, cost_apart c n day s shift + m)) (after_at shift a inside) (more_at shift a inside)
        ∙ ap₂ (λ y k. (y, k)) (next_at shift a) (cost_at shift a)

    pub places_step : forbids c.successions s.last shift ≡ false → (a : ℕ) → a < places → option_map (place_step places a) (Some transition) ≡ transition_of c n day (with_assignments s a) shift
    places_step allowed a inside = ap Some (place a inside) ∙ (λ i. if sym allowed i then None else Some (next_of c n day (with_assignments s a) shift, transition_cost c n day (with_assignments s a) shift))

    pub block_fits : IfSome shift (λ u. u.0 < shift_count c) → fits_sizes (sizes_of c n) x ≡ true
    block_fits given = subst (λ (y : Summary). fits_sizes (sizes_of c n) y ≡ true) (sym next) (place-fits (sizes_of c n) (next_of c n day s shift) 0 (omega arith) (next_fits c n day s shift given))
