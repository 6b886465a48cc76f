-- A day's completion bounds among those of all days.
use borrow.Rule.Slice.PartMut.{post_of}
use Rattle.std.proofs.Common.{◌≡◌, ◌∙◌, ◌+◌, ◌-◌, ◌*◌, ◌<◌, ◌≤◌, ◌++◌, ℕ, zero, suc, List, ap, arith, get_or, length, refl, subst, sym, take}
use Rattle.std.proofs.lemmas.List.{places}
use Rattle.std.proofs.lemmas.List.Elements.{All-from_get_or}
use Rattle.std.proofs.Math.Nat.{suc-mul}
use Rattle.std.proofs.Math.Path.{transport}
use Rattle.std.proofs.lemmas.Nat.{mul-add-lt}
use Rattle.roster_instance.specs.Choices.{shift_of}
use Rattle.roster_instance.specs.Counting.{sum_below}
use Rattle.roster_instance.specs.Meaning.{Meaning, day_count}
use Rattle.roster_offers.specs.declared.offer.Offer.{Offer}
use Rattle.roster_offers.proofs.OfferLaws.{shift_of_case}
use Rattle.roster_state.specs.Codes.{shift_digit, sizes_of}
use Rattle.roster_state.specs.Transition.{next_of}
use Rattle.roster_state.proofs.CodeLemmas.{fits-all}
use Rattle.roster_state.proofs.RangeLemmas.{next_fits}
use Rattle.roster_completion.specs.declared.completion_day.CompletionDay.{CompletionDay}
use Rattle.roster_completion.specs.declared.rates.Rates.{Rates}
use Rattle.roster_completion.specs.CompletionBounds.{AreCompletionBounds, LieUnder, LiesUnder, completion_count, completion_index}
use Rattle.roster_completion.specs.Lines.{IsCompletionDayOf, IsUnderAll, UnderCell, UnderDay, cell_index, next_at, nothing, offer_on}
use Rattle.roster_completion.proofs.Cells.{block_inside}
use Rattle.roster_completion.proofs.Indices.{all_are, cell_below, completion_bound_is, of_day}

-- the segment that is set, if the list was split after it
pub set_part : (first count : ℕ) (before here after : List ℕ) → length before ≡ first + count → length here ≡ count → (k : ℕ) → k < count → get_or ((take first before ++ (here ++ post_of first (length before - first) before)) ++ after) (first + k) 0 ≡ get_or here k 0
set_part first count before here after long as_long k below = grind (arith, places)

pub set_next : (first count : ℕ) (before here after : List ℕ) → length before ≡ first + count → length here ≡ count → (k : ℕ) → k < count → get_or ((take first before ++ (here ++ post_of first (length before - first) before)) ++ after) (first + count + k) 0 ≡ get_or (take count after) k 0
set_next first count before here after long as_long k below = grind (arith, places)

module _ (day : CompletionDay) (first count : ℕ) (first_is : first ≡ day.day * count) (count_is : length day.next.now ≡ count) (here completion_bounds : List ℕ) where
  set_by_day : UnderDay day here → ((k : ℕ) → k < count → get_or completion_bounds (first + k) 0 ≡ get_or here k 0) → ((k : ℕ) → k < count → get_or completion_bounds (first + count + k) 0 ≡ next_at day k) → LieUnder day.case.now day.nurse day.scale day.rates (λ _. day.offers.now) completion_bounds day.day
  set_by_day under here_is next_is s fit =
      let z = sizes_of day.case.now day.nurse in
      let size : completion_count z ≡ count = sym (day.all_next ∙ all_are day) ∙ count_is in
      let all = ap (λ m. day.day * m) size in
      All-from_get_or (LiesUnder day.case.now day.nurse day.scale day.rates completion_bounds day.day s) day.offers.now nothing (λ k l allowed.
      let shift = shift_of (offer_on day k).choice in
      let to = next_of day.case.now day.nurse day.day s shift in
      let fits = next_fits day.case.now day.nurse day.day s shift (shift_of_case day.case.now (offer_on day k).choice (of_day day k l).choice) in
      let at : completion_index z day.day s ≡ first + cell_index z s = omega (arith, completion_bound_is z day.day s, all, first_is) in
      let then : completion_index z (suc day.day) to ≡ first + count + cell_index z to = omega (arith, completion_bound_is z (suc day.day) to, suc-mul day.day (completion_count z), all, size, first_is) in
      let here = ap (λ i. get_or completion_bounds i 0) at ∙ here_is (cell_index z s) (omega (arith, cell_below z s fit, size)) in
      let there = ap (λ i. get_or completion_bounds i 0) then ∙ next_is (cell_index z to) (omega (arith, cell_below z to fits, size)) in
      omega (arith, under s fit k l allowed, here, there))

-- the day of a search, from its index among all days
pub day_set : {c : Meaning} {n scale : ℕ} {rates : Rates} {d : ℕ} {next : List ℕ} {day : CompletionDay} (offers : ℕ → List Offer) (is : IsCompletionDayOf c n scale rates d (offers d) next day) (count : ℕ) (here completion_bounds : List ℕ) → UnderDay day here → length next ≡ count → ((k : ℕ) → k < count → get_or completion_bounds (d * count + k) 0 ≡ get_or here k 0) → ((k : ℕ) → k < count → get_or completion_bounds (d * count + count + k) 0 ≡ get_or next k 0)
    → LieUnder c n scale rates offers completion_bounds d
day_set {c} {n} {scale} {rates} {d} {next} {day} offers is count here completion_bounds under long here_is next_is =
    transport (λ i. LieUnder (is.case i) (is.nurse i) (is.scale i) (is.rates i) (λ _. is.offers i) completion_bounds (is.day i))
    (set_by_day day (d * count) count (ap (λ m. m * count) (sym is.day)) (ap length is.next ∙ long) here completion_bounds under here_is (λ k l. next_is k l ∙ ap (λ ys. get_or ys k 0) (sym is.next)))

-- ---- after each last shift

-- at an index among the completion bounds of a last shift, a bound for the states with that index
abbrev pub UnderIndex : CompletionDay → (digit index completion_bound : ℕ) → Type 0
UnderIndex day digit index completion_bound = (r q : ℕ) → r < day.runs → q < day.shift_runs → index ≡ r * day.shift_runs + q → UnderCell day digit r q completion_bound

pub day_under : (day : CompletionDay) (here : List ℕ) (digits : ℕ) → day.lasts ≤ digits → ((digit index : ℕ) → digit < digits → index < day.runs * day.shift_runs → UnderIndex day digit index (get_or here (digit * (day.runs * day.shift_runs) + index) 0)) → UnderDay day here
day_under day here digits all each s fit =
    let f = fits-all (sizes_of day.case.now day.nurse) s fit in
    let digit = shift_digit s.last in
    let index = s.run * day.shift_runs + s.shift_run in
    let run : s.run < day.runs = omega (arith, f.run, day.runs_are) in
    let shift_run : s.shift_run < day.shift_runs = omega (arith, f.shift_run, day.shift_runs_are) in
    let here_is : digit * (day.runs * day.shift_runs) + index ≡ (digit * day.runs + s.run) * day.shift_runs + s.shift_run = omega arith in
    let at : (digit * day.runs + s.run) * day.shift_runs + s.shift_run ≡ cell_index (sizes_of day.case.now day.nurse) s = λ i. (digit * day.runs_are i + s.run) * day.shift_runs_are i + s.shift_run in
    subst (λ (i : ℕ). IsUnderAll day s (get_or here i 0)) (here_is ∙ at)
    (each digit index (omega (arith, f.last, day.lasts_are, all)) (omega (arith, mul-add-lt s.run day.shift_runs s.shift_run day.runs run shift_run)) s.run s.shift_run run shift_run refl s.last s.assignments s.weekends refl)

-- ---- all days

-- a day stays set while an earlier day is set
pub set_kept : (c : Meaning) (n scale : ℕ) (rates : Rates) (offers : ℕ → List Offer) (old new : List ℕ) (day d : ℕ) → day < d → ((k : ℕ) → day * completion_count (sizes_of c n) + completion_count (sizes_of c n) ≤ k → get_or new k 0 ≡ get_or old k 0) → LieUnder c n scale rates offers old d → LieUnder c n scale rates offers new d
set_kept c n scale rates offers old new day d later kept set s fit k x inside allowed =
    let z = sizes_of c n in
    let from = block_inside day d (completion_count z) later in
    let to = next_of c n d s (shift_of (get_or (offers d) k x).choice) in
    omega (arith, set s fit k x inside allowed, kept (completion_index z d s) (omega (arith, from, completion_bound_is z d s)), kept (completion_index z (suc d) to) (omega (arith, from, completion_bound_is z (suc d) to, suc-mul d (completion_count z))))

pub all_days : (c : Meaning) (n scale : ℕ) (rates : Rates) (offers : ℕ → List Offer) (completion_bounds : List ℕ) → ((d : ℕ) → d < day_count c → LieUnder c n scale rates offers completion_bounds d) → ((k : ℕ) → k < completion_count (sizes_of c n) → get_or completion_bounds (day_count c * completion_count (sizes_of c n) + k) 0 ≡ 0) → AreCompletionBounds c n scale rates offers completion_bounds
all_days c n scale rates offers completion_bounds set end =
    let z = sizes_of c n in
    record { under = set; end = λ s fit. ap (λ i. get_or completion_bounds i 0) (completion_bound_is z (day_count c) s) ∙ end (cell_index z s) (cell_below z s fit) }

-- the day before
pub one_before : (day count : ℕ) → 0 < day → (day - 1) * count + count ≡ day * count
one_before zero count some = absurd (omega arith)
one_before (suc d) count some = let is : suc d - 1 ≡ d = omega arith in rw is (omega (arith, suc-mul d count))

-- the extensions of the days that are still to be set, and of one of them

pub one_day_more : (count day : ℕ) (f : ℕ → ℕ) → 0 < day → count * sum_below day f ≡ count * sum_below (day - 1) f + count * f (day - 1)
one_day_more count zero f some = absurd (omega arith)
one_day_more count (suc d) f some = let is : suc d - 1 ≡ d = omega arith in rw is (omega arith)
