-- What the steps of a run count on the meter, and that the workspace keeps fitting.
use Rattle.std.proofs.Common.{◌≡◌, ◌∙◌, ◌+◌, ◌*◌, ◌<◌, ◌≤◌, ◌&&◌, ℕ, ap, ap₂, arith, length, map, true}
use Rattle.std.proofs.lemmas.Bool.{eq-eqb}
use Rattle.std.specs.List.{range_with_len}
use Rattle.std.proofs.lemmas.Nat.{mul-le}
use Rattle.roster_instance.specs.CaseParts.{HasFewStates}
use Rattle.roster_instance.specs.Limits.{most_days, most_nurses, most_shifts, most_skills, most_states, most_weeks}
use Rattle.roster_instance.specs.Meaning.{Meaning, day_count, nurse_count, week_count}
use Rattle.roster_instance.specs.Sizes.{choice_count, greatest_of, state_count}
use Rattle.roster_laws.specs.Greatest.{extension_count, extensions_in, greatest_extension_count}
use Rattle.roster_laws.proofs.GreatestLemmas.{greatest_extensions}
use Rattle.roster_offers.specs.Workspaces.{fits_space}
use Rattle.roster_row.specs.Recalled.{RecallsSearches}
use Rattle.roster_rounds.specs.Spaces.{fits_run}
use Rattle.roster_rounds.specs.declared.space.RunSpace.{RunSpace}

-- a workspace, and what is known from the last searches, still fit their case
pub fits_still : {T : Type 0} (c : Meaning) (space : RunSpace T) → fits_space c space.workspace ≡ true → RecallsSearches c space.last → fits_run c space ≡ true
fits_still c space fits recalls =
    let nurses = eq-eqb (length space.last.costs.items) (nurse_count c) recalls.nurses in
    let days = eq-eqb (length space.last.prices.items) (nurse_count c * day_count c) recalls.days in
    ap₂ ◌&&◌ fits (ap₂ ◌&&◌ nurses days)

-- ---- the steps of the first nurses of a round, for a case that is given by an equation

module _ (c now : Meaning) (same : now ≡ c) (n start meter : ℕ) (so_far : meter ≤ start + n * greatest_extension_count c) (inside : n < nurse_count c) where
  step_counts : extension_count now n ≤ greatest_extension_count c
  step_counts = omega (arith, ap (λ (m : Meaning). extension_count m n) same, (greatest_extensions c (omega (arith, inside))).above n inside)

  pub step_room : (most : ℕ) → start + nurse_count c * greatest_extension_count c ≤ most → meter + extension_count now n ≤ most
  step_room most room = omega (arith, so_far, step_counts, room, mul-le (n + 1) (greatest_extension_count c) (nurse_count c) (greatest_extension_count c) (omega (arith, inside)) (omega arith))

  pub step_counted : (new : ℕ) → new ≤ meter + extension_count now n → new ≤ start + (n + 1) * greatest_extension_count c
  step_counted new more = omega (arith, so_far, step_counts, more)

  pub step_within : (new : ℕ) → new ≤ meter + extension_count now n → new ≤ start + nurse_count c * greatest_extension_count c
  step_within new more = omega (arith, step_counted new more, mul-le (n + 1) (greatest_extension_count c) (nurse_count c) (greatest_extension_count c) (omega (arith, inside)) (omega arith))

-- ---- the first rounds of a run

module _ (c now : Meaning) (same : now ≡ c) (made start meter : ℕ) (so_far : meter ≤ start + extensions_in c made) where
  round_counts : nurse_count now * greatest_extension_count now ≡ nurse_count c * greatest_extension_count c
  round_counts = ap (λ (m : Meaning). nurse_count m * greatest_extension_count m) same

  pub round_room : (rounds most : ℕ) → made < rounds → start + extensions_in c rounds ≤ most → meter + nurse_count now * greatest_extension_count now ≤ most
  round_room rounds most within room =
      let all = nurse_count c * greatest_extension_count c in
      omega (arith, so_far, round_counts, room, mul-le (made + 1) all rounds all (omega (arith, within)) (omega arith))

  pub round_counted : (new : ℕ) → new ≤ meter + nurse_count now * greatest_extension_count now → new ≤ start + extensions_in c (made + 1)
  round_counted new more = omega (arith, so_far, round_counts, more)

  pub round_within : (rounds new : ℕ) → made < rounds → new ≤ meter + nurse_count now * greatest_extension_count now → new ≤ start + extensions_in c rounds
  round_within rounds new within more =
      let all = nurse_count c * greatest_extension_count c in
      omega (arith, round_counted new more, mul-le (made + 1) all rounds all (omega (arith, within)) (omega arith))

-- ---- a new meter

-- the limits of a case bound the extensions of a search
pub few_extensions : (c : Meaning) (n : ℕ) → n < nurse_count c → week_count c ≤ most_weeks → HasFewStates c → ((m : ℕ) → choice_count c m ≤ 1 + most_shifts * most_skills)
    → extension_count c n ≤ most_states * most_days * (1 + most_shifts * most_skills)
unfolding extension_count
few_extensions c n inside weeks states choices =
    mul-le (state_count c n * day_count c) (choice_count c n) (most_states * most_days) (1 + most_shifts * most_skills)
    (mul-le (state_count c n) (day_count c) most_states most_days (states n inside) (omega (arith, weeks))) (choices n)

-- and so those of a number of searches for each nurse
pub few_in_all : (c : Meaning) (rounds most : ℕ) → rounds ≤ most → nurse_count c ≤ most_nurses → (greatest_extension_count c ≤ most_states * most_days * (1 + most_shifts * most_skills))
    → extensions_in c rounds ≤ most * (most_nurses * (most_states * most_days * (1 + most_shifts * most_skills)))
few_in_all c rounds most within nurses few =
    let one = most_states * most_days * (1 + most_shifts * most_skills) in
    mul-le rounds (nurse_count c * greatest_extension_count c) most (most_nurses * one) within (mul-le (nurse_count c) (greatest_extension_count c) most_nurses one nurses few)

-- more rounds count no less
pub counted_within : (c : Meaning) (made rounds start meter : ℕ) → made ≤ rounds → meter ≤ start + extensions_in c made → meter ≤ start + extensions_in c rounds
counted_within c made rounds start meter within so_far =
    let all = nurse_count c * greatest_extension_count c in
    omega (arith, so_far, mul-le made all rounds all within (omega arith))

-- ---- the greatest of a nurse's numbers, once all nurses have been considered

pub all_extensions : (c : Meaning) (greatest n : ℕ) → greatest ≡ greatest_of (map (extension_count c) (range_with_len 0 n)) → n ≡ nurse_count c → greatest ≡ greatest_extension_count c
unfolding greatest_extension_count
all_extensions c greatest n is all = is ∙ ap (λ m. greatest_of (map (extension_count c) (range_with_len 0 m))) all
