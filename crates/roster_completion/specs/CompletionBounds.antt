-- Completion bounds: numbers that the rest of a row doesn't cost less than, for each day, last shift and
-- runs.
use Rattle.std.specs.Prelude.{◌≡◌, ℕ, suc, ◌+◌, ◌*◌, ◌<◌, ◌≤◌, All, List, length, true, false, Option, is_some, slice_index_or}
use Rattle.roster_instance.specs.declared.choice.Shift.{Shift}
use Rattle.roster_instance.specs.Choices.{shift_of}
use Rattle.roster_instance.specs.Counting.{one_if, sum_below}
use Rattle.roster_instance.specs.Meaning.{Meaning, day_count, forbids}
use Rattle.roster_offers.specs.Lists.{offers_on}
use Rattle.roster_offers.specs.declared.lists.SearchInput.{SearchInput}
use Rattle.roster_rules.specs.DayLaw.{weekends_more}
use Rattle.roster_rules.specs.Prefix.{Summary}
use Rattle.roster_rules.specs.Weights.{assignment_weight, weekend_weight}
use Rattle.roster_state.specs.Codes.{Sizes, fits_sizes, shift_digit, sizes_of}
use Rattle.roster_state.specs.Transition.{free_more, next_of, shifts_more, split_more, working_more}
use Rattle.roster_offers.specs.declared.offer.Offer.{Offer}
use Rattle.roster_completion.specs.declared.rates.Rates.{Rates}

-- rates that are no more than what one assignment or worked weekend too many costs, in parts of a point,
-- `scale` to a point
pub record AreSmallRates (scale : ℕ) (rates : Rates) : Type 0 where
  pub day : rates.day ≤ scale * assignment_weight
  pub weekend : rates.weekend ≤ scale * weekend_weight

-- how many completion bounds a day has
abbrev pub completion_count : Sizes → ℕ
completion_count z = z.last * (z.run * z.shift_run)

-- how many extensions it takes to set the completion bounds of all days once: each completion bound with each
-- offer of its day
abbrev pub completion_extensions : Meaning → ℕ → (ℕ → List Offer) → ℕ
completion_extensions c n offers =
    completion_count (sizes_of c n) * sum_below (day_count c) (λ d. length (offers d))

-- the same for a search
abbrev pub search_extensions : SearchInput → ℕ
search_extensions search = completion_extensions search.case.now search.nurse (offers_on search.offers.now)

-- how many completion bounds a search has: those of all days and of the end
abbrev pub search_cells : SearchInput → ℕ
search_cells search =
    (day_count search.case.now + 1) * completion_count (sizes_of search.case.now search.nurse)

-- the index of a state's completion bound on a day
abbrev pub completion_index : Sizes → ℕ → Summary → ℕ
completion_index z day s = ((day * z.last + shift_digit s.last) * z.run + s.run) * z.shift_run + s.shift_run

abbrev pub completion_bound_at : Sizes → List ℕ → ℕ → Summary → ℕ
completion_bound_at z completion_bounds day s = slice_index_or completion_bounds (completion_index z day s) 0

-- what a day costs, without what assignments and worked weekends cost
abbrev pub cost_without_counts : Meaning → ℕ → ℕ → Summary → Option Shift → ℕ
cost_without_counts c n d s shift =
    working_more c n s shift + free_more c n s shift + shifts_more c s shift + split_more c n d s shift

-- what a day is charged at the rates, in parts of a point
abbrev pub rate_of : Rates → ℕ → Option Shift → Option Shift → ℕ
rate_of rates d last shift =
    rates.day * one_if (is_some shift) + rates.weekend * weekends_more d (is_some last) (is_some shift)

-- what a day with an offer costs, with the rates instead of what assignments and worked weekends cost, in
-- parts of a point
abbrev pub rated : Meaning → (n scale : ℕ) → Rates → ℕ → Summary → Offer → ℕ
rated c n scale rates d s x =
    x.price + scale * cost_without_counts c n d s (shift_of x.choice)
    + rate_of rates d s.last (shift_of x.choice)

-- if the offer may follow, the state's completion bound is at most what the day costs with it plus the
-- completion bound after it
abbrev pub LiesUnder : Meaning → (n scale : ℕ) → Rates → List ℕ → (d : ℕ) → Summary → Offer → Type 0
LiesUnder c n scale rates completion_bounds d s x =
    forbids c.successions s.last (shift_of x.choice) ≡ false
    → completion_bound_at (sizes_of c n) completion_bounds d s ≤ rated c n scale rates d s x
    + completion_bound_at (sizes_of c n) completion_bounds (suc d) (next_of c n d s (shift_of x.choice))

-- this holds on a day from each state, for each offer
abbrev pub LieUnder : Meaning → (n scale : ℕ) → Rates → (ℕ → List Offer) → List ℕ → ℕ → Type 0
LieUnder c n scale rates offers completion_bounds d =
    (s : Summary) → fits_sizes (sizes_of c n) s ≡ true
    → All (LiesUnder c n scale rates completion_bounds d s) (offers d)

-- the completion bounds of all days; after the last day they are 0
pub record AreCompletionBounds (c : Meaning) (n scale : ℕ) (rates : Rates) (offers : ℕ → List Offer)
    (completion_bounds : List ℕ) : Type 0 where
  pub under : (d : ℕ) → d < day_count c → LieUnder c n scale rates offers completion_bounds d
  pub end : (s : Summary) → fits_sizes (sizes_of c n) s ≡ true
      → completion_bound_at (sizes_of c n) completion_bounds (day_count c) s ≡ 0

-- the same for a search
abbrev pub AreCompletionBoundsOf : SearchInput → Rates → List ℕ → Type 0
AreCompletionBoundsOf search rates completion_bounds =
    AreCompletionBounds search.case.now search.nurse search.scale rates (offers_on search.offers.now)
    completion_bounds
