-- The offers of a day, choice by choice.
use Rattle.std.proofs.Common.{◌≡◌, ◌∙◌, ◌+◌, ◌-◌, ◌*◌, ◌<◌, ◌==◌, ℕ, true, ap, arith, refl, sym, if◌then◌else◌, length, nat_lt, None, Option, Some}
use Rattle.std.proofs.lemmas.Bool.{and_parts, eqb-true}
use Rattle.roster_instance.specs.declared.choice.Choice.{Choice}
use Rattle.roster_instance.specs.declared.choice.Choice.TheVariants.{Off, Work}
use Rattle.roster_instance.specs.declared.choice.Shift.{Shift}
use Rattle.roster_instance.specs.declared.choice.Skill.{Skill}
use Rattle.roster_instance.specs.Choices.{shift_of}
use Rattle.roster_instance.specs.Counting.{one_if}
use Rattle.roster_instance.specs.Meaning.{Meaning, day_count, minimum, nurse_count, optimum, shift_count, skill_count}
use Rattle.roster_instance.specs.Rosters.{Rows, choice_on, cover, fits_case, row_of}
use Rattle.roster_instance.proofs.RosterFacts.{has_row}
use Rattle.roster_rules.specs.HardRules.{keeps_hard, may_take}
use Rattle.roster_rules.specs.Penalties.{request_cost_on}
use Rattle.roster_rules.specs.Weights.{staffing_weight}
use Rattle.roster_laws.specs.OneRow.{others}
use Rattle.roster_laws.specs.Staffing.{shortfall, meets, with_choice}
use Rattle.roster_case.proofs.DayTableLemmas.{cover-parts}
use Rattle.roster_laws.proofs.Shortfall.{shortfall-off, shortfall-work, meets-shortfall, staffing-shortfall}
use Rattle.roster_offers.specs.declared.offer.Offer.{Offer}
use Rattle.roster_offers.specs.Offers.{offer_of}
use Rattle.roster_offers.proofs.OfferLaws.{present_open}

module _ (c : Meaning) (r : Rows) (n d : ℕ) where
  -- ---- one choice

  -- a choice, if the day is short of no minimum with it
  abbrev offered : Choice → Option Offer
  offered choice = if meets c d (with_choice (others r n d) choice) then Some (offer_of c r n d choice) else None

  pub offer_is : (choice : Choice) (least most asked : ℕ)
      → least ≡ shortfall c (minimum c d) (with_choice (others r n d) choice)
      → most ≡ shortfall c (optimum c d) (with_choice (others r n d) choice)
      → asked ≡ request_cost_on c n d (shift_of choice)
      → (if least == 0 then Some (record { choice = choice; price = staffing_weight * most + asked }) else None) ≡ offered choice
  offer_is choice least most asked least_is most_is asked_is =
      let have : ℕ → ℕ → ℕ = with_choice (others r n d) choice in
      let met = ap (λ m. m == 0) least_is ∙ sym (meets-shortfall c d have) in
      let staffed = ap (λ m. staffing_weight * m) most_is ∙ sym (staffing-shortfall c d have) in
      (λ i. if met i then Some (record { choice = choice; price = staffed i + asked_is i }) else None)

  -- the present one, by its price
  pub present_is : (choice now : Choice) (most asked : ℕ)
      → choice ≡ now
      → most ≡ shortfall c (optimum c d) (with_choice (others r n d) choice)
      → asked ≡ request_cost_on c n d (shift_of choice)
      → (record { choice = choice; price = staffing_weight * most + asked }) ≡ offer_of c r n d now
  present_is choice now most asked same most_is asked_is =
      let staffed = ap (λ m. staffing_weight * m) most_is ∙ sym (staffing-shortfall c d (with_choice (others r n d) choice)) in
      let by_price : (record { choice = choice; price = staffing_weight * most + asked }) ≡ offer_of c r n d choice = λ i. record { choice = choice; price = staffed i + asked_is i } in
      by_price ∙ ap (offer_of c r n d) same

  -- ---- what the day is short of with the nurse

  pub shortfall_unchanged : (want : ℕ → ℕ → ℕ) (without : ℕ) → without ≡ shortfall c want (others r n d) → without ≡ shortfall c want (with_choice (others r n d) Off)
  shortfall_unchanged want without is = is ∙ sym (shortfall-off c want (others r n d))

  pub shortfall_one_less : (want : ℕ → ℕ → ℕ) (shift : Shift) (skill : Skill) → shift.0 < shift_count c → skill.0 < skill_count c
      → (less without have wanted : ℕ) → less ≡ without - one_if (nat_lt have wanted) → without ≡ shortfall c want (others r n d) → have ≡ others r n d shift.0 skill.0 → wanted ≡ want shift.0 skill.0
      → less ≡ shortfall c want (with_choice (others r n d) (Work shift skill))
  shortfall_one_less want shift skill shift_in skill_in less without have wanted less_is without_is have_is wanted_is =
      let one : one_if (nat_lt have wanted) ≡ one_if (nat_lt (others r n d shift.0 skill.0) (want shift.0 skill.0)) = λ i. one_if (nat_lt (have_is i) (wanted_is i)) in
      omega (arith, less_is, without_is, one, shortfall-work c want (others r n d) shift skill shift_in skill_in)

  -- ---- what the day is short of without the nurse, whose choice this is now

  module _ (within : n < length r) (own : Choice) (own_is : own ≡ choice_on (row_of r n) d) where
    shortfall_all : (want : ℕ → ℕ → ℕ) → shortfall c want (with_choice (others r n d) own) ≡ shortfall c want (cover r d)
    shortfall_all want = λ i. shortfall c want (λ s k. (ap (λ x. with_choice (others r n d) x s k) own_is ∙ sym (cover-parts r n within d s k)) i)

    pub shortfall_of_off : (want : ℕ → ℕ → ℕ) (all : ℕ) → own ≡ Off → all ≡ shortfall c want (cover r d) → all ≡ shortfall c want (others r n d)
    shortfall_of_off want all off is = is ∙ sym (shortfall_all want) ∙ ap (λ x. shortfall c want (with_choice (others r n d) x)) off ∙ shortfall-off c want (others r n d)

    pub shortfall_of_work : (want : ℕ → ℕ → ℕ) (all : ℕ) (shift : Shift) (skill : Skill) → own ≡ Work shift skill → shift.0 < shift_count c → skill.0 < skill_count c
        → (have wanted : ℕ) → have ≡ others r n d shift.0 skill.0 → wanted ≡ want shift.0 skill.0 → all ≡ shortfall c want (cover r d)
        → all + one_if (nat_lt have wanted) ≡ shortfall c want (others r n d)
    shortfall_of_work want all shift skill work shift_in skill_in have wanted have_is wanted_is is =
        let with_all : all ≡ shortfall c want (with_choice (others r n d) (Work shift skill)) = is ∙ sym (shortfall_all want) ∙ ap (λ x. shortfall c want (with_choice (others r n d) x)) work in
        let one : one_if (nat_lt have wanted) ≡ one_if (nat_lt (others r n d shift.0 skill.0) (want shift.0 skill.0)) = λ i. one_if (nat_lt (have_is i) (wanted_is i)) in
        omega (arith, with_all, one, shortfall-work c want (others r n d) shift skill shift_in skill_in)

  -- a roster that keeps the hard rules is short of no minimum
  pub none_missed : fits_case c r ≡ true → keeps_hard c r ≡ true → n < nurse_count c → d < day_count c → 0 ≡ shortfall c (minimum c d) (cover r d)
  none_missed fits keeps n_in d_in =
      let own : Choice = choice_on (row_of r n) d in
      let met = (and_parts (may_take c n d own) (meets c d (with_choice (others r n d) own)) (present_open c 0 r n d fits keeps n_in d_in)).1 in
      let none : shortfall c (minimum c d) (with_choice (others r n d) own) ≡ 0 = eqb-true _ 0 (sym (meets-shortfall c d (with_choice (others r n d) own)) ∙ met) in
      sym none ∙ shortfall_all (has_row c r n fits n_in) own refl (minimum c d)
