-- The indices of a day's completion bounds.
use Rattle.std.proofs.Common.{◌≡◌, ◌∙◌, ◌+◌, ◌-◌, ◌≤◌, ◌*◌, ◌<◌, ℕ, Some, ap, arith, eq-eqb, length, min, mul-le-mul, refl, true}
use Rattle.std.proofs.lemmas.Nat.{mul-add-lt}
use Rattle.std.proofs.lemmas.List.Elements.{All-get_or}
use Rattle.roster_instance.specs.declared.choice.Shift.{Shift}
use Rattle.roster_instance.specs.declared.rules.ContractRules.{ContractRules}
use Rattle.roster_instance.specs.Meaning.{run_of_shift, shift_count}
use Rattle.roster_instance.specs.Sizes.{cap}
use Rattle.roster_rules.specs.Prefix.{Summary}
use Rattle.roster_offers.specs.Lists.{IsOfferAt}
use Rattle.roster_state.specs.Codes.{Sizes, fits_sizes, shift_digit, sizes_of}
use Rattle.roster_state.specs.Transition.{next_of}
use Rattle.roster_state.proofs.CodeLemmas.{fits-all}
use Rattle.roster_state.proofs.RangeLemmas.{next_fits}
use Rattle.roster_completion.specs.declared.completion_day.CompletionDay.{CompletionDay}
use Rattle.roster_completion.specs.CompletionBounds.{completion_count, completion_index}
use Rattle.roster_completion.specs.Lines.{begun_index, cell_index, line_index, nothing, offer_on}
use Rattle.roster_state.specs.CompletionLines.{longer}

-- an index is below the product of the sizes
pub index_below : (lasts runs shift_runs digit run q : ℕ) → digit < lasts → run < runs → q < shift_runs → (digit * runs + run) * shift_runs + q < lasts * (runs * shift_runs)
index_below lasts runs shift_runs digit run q l r s =
    omega (arith, mul-add-lt (digit * runs + run) shift_runs q (runs * lasts) (mul-add-lt digit runs run lasts l r) s)

pub line_below : (lasts runs shift_runs digit run : ℕ) → digit < lasts → run < runs → 0 < shift_runs → (digit * runs + run) * shift_runs + shift_runs ≤ lasts * (runs * shift_runs)
line_below lasts runs shift_runs digit run l r s = let last = index_below lasts runs shift_runs digit run (shift_runs - 1) l r (omega (arith, s)) in omega (arith, last, s)

pub cell_below : (z : Sizes) (s : Summary) → fits_sizes z s ≡ true → cell_index z s < completion_count z
cell_below z s fit =
    let f = fits-all z s fit in
    index_below z.last z.run z.shift_run (shift_digit s.last) s.run s.shift_run f.last f.run f.shift_run

-- ---- of all days

-- the index among the completion bounds of all days
pub completion_bound_is : (z : Sizes) (d : ℕ) (s : Summary) → completion_index z d s ≡ d * completion_count z + cell_index z s
completion_bound_is z d s = omega arith

pub box_small : (lasts runs shift_runs : ℕ) → lasts ≤ 9 → runs ≤ 1000 → shift_runs ≤ 1000 → lasts * (runs * shift_runs) ≤ 9000000
box_small lasts runs shift_runs few_lasts few_runs few_shift_runs = omega (arith, mul-le-mul few_lasts (mul-le-mul few_runs few_shift_runs))

module _ (z : Sizes) (s : Summary) (fit : fits_sizes z s ≡ true) (d : ℕ) where
  pub index_inside : (size : ℕ) → (d + 1) * completion_count z ≤ size → completion_index z d s < size
  index_inside size inside = omega (arith, completion_bound_is z d s, cell_below z s fit, inside)

  pub index_small : d < 65536 → z.last ≤ 9 → z.run ≤ 1000 → z.shift_run ≤ 1000 → completion_index z d s < 589824000000
  index_small day last run shift_run =
      let days : d + 1 ≤ 65536 = omega (arith, day) in
      index_inside 589824000000 (mul-le-mul days (box_small z.last z.run z.shift_run last run shift_run))

-- ---- of a day

-- an offer of the day is one of the case's
pub of_day : (day : CompletionDay) (k : ℕ) → k < length day.offers.now → IsOfferAt day.case.now day.scale (offer_on day k)
of_day day k below = All-get_or (IsOfferAt day.case.now day.scale) day.offers.now k nothing below day.of_case

module _ (day : CompletionDay) where
  pub all_are : day.lasts * (day.runs * day.shift_runs) ≡ completion_count (sizes_of day.case.now day.nurse)
  all_are = λ i. day.lasts_are i * (day.runs_are i * day.shift_runs_are i)

  pub next_small : length day.next.now ≤ 9000000
  next_small = omega (arith, box_small day.lasts day.runs day.shift_runs day.few_lasts day.few_runs day.few_shift_runs, day.all_next)

  -- a run is within its cap
  pub work_within : cap day.rules.working < day.runs
  work_within = omega (arith, ap (λ (r : ContractRules). cap r.working) day.rules_are, day.runs_are)

  pub rest_within : cap day.rules.free < day.runs
  rest_within = omega (arith, ap (λ (r : ContractRules). cap r.free) day.rules_are, day.runs_are)

  pub some_shift_run : 0 < day.shift_runs
  some_shift_run = omega (arith, day.shift_runs_are)

  -- the line of a run of days off
  pub rest_index : (to run : ℕ) → to ≡ longer run day.rules.free → to * day.shift_runs ≡ line_index day 0 (longer run day.rules.free)
  rest_index to run is = ap (λ m. m * day.shift_runs) is ∙ omega arith

  pub rest_inside : (to run : ℕ) → to ≡ longer run day.rules.free → to * day.shift_runs < length day.next.now
  rest_inside to run is =
      let inside = index_below day.lasts day.runs day.shift_runs 0 to 0 (omega (arith, day.lasts_are)) (omega (arith, is, rest_within)) some_shift_run in
      omega (arith, inside, day.all_next)

module _ (day : CompletionDay) (u : Shift) (in_case : u.0 < shift_count day.case.now) where
  abbrev full : Summary
  full = record { last = Some u; run = 0; shift_run = cap (run_of_shift day.case.now u.0); assignments = 0; weekends = 0 }

  among : u.0 + 1 < day.lasts
  among = omega (arith, in_case, day.lasts_are)

  -- the run of a shift is within its cap
  pub cap_within : cap (run_of_shift day.case.now u.0) < day.shift_runs
  unfolding next_of
  cap_within =
      let fits = fits-all (sizes_of day.case.now day.nurse) (next_of day.case.now day.nurse 0 full (Some u)) (next_fits day.case.now day.nurse 0 full (Some u) in_case) in
      let within = rw (eq-eqb u.0 u.0 refl) at fits.shift_run in
      omega (arith, within, day.shift_runs_are)

  pub begun_within : (run : ℕ) → run < day.runs → begun_index day u run < length day.next.now
  begun_within run l = omega (arith, index_below day.lasts day.runs day.shift_runs (u.0 + 1) run (min 1 (cap (run_of_shift day.case.now u.0))) among l (omega (arith, cap_within)), day.all_next)

  pub begun_moved : (index run : ℕ) → index ≡ begun_index day u 0 → index + run * day.shift_runs ≡ begun_index day u run
  begun_moved index run is = omega (arith, is)

  -- the line to which staying leads, with a run of working days
  module _ (run to : ℕ) (is : to ≡ longer run day.rules.working) where
    pub line_is : ((u.0 + 1) * day.runs + to) * day.shift_runs ≡ line_index day (u.0 + 1) (longer run day.rules.working)
    line_is = ap (λ m. ((u.0 + 1) * day.runs + m) * day.shift_runs) is

    pub line_fits : ((u.0 + 1) * day.runs + to) * day.shift_runs + day.shift_runs ≤ length day.next.now
    line_fits = omega (arith, line_below day.lasts day.runs day.shift_runs (u.0 + 1) to among (omega (arith, is, work_within day)) (some_shift_run day), day.all_next)

    pub line_small : ((u.0 + 1) * day.runs + to) * day.shift_runs + day.shift_runs ≤ 9000000
    line_small = omega (arith, line_fits, next_small day)
