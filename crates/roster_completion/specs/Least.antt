-- What completion bounds say of the rest of a row.
use Rattle.std.specs.Prelude.{◌≡◌, ℕ, ◌+◌, ◌-◌, ◌*◌, ◌/◌, ◌≤◌, List, Some, min}
use Rattle.roster_instance.specs.Meaning.{Meaning, contract_of, day_count}
use Rattle.roster_instance.specs.Sizes.{cap}
use Rattle.roster_rules.specs.Prefix.{Summary}
use Rattle.roster_rules.specs.Weights.{assignment_weight}
use Rattle.roster_offers.specs.declared.lists.SearchInput.{SearchInput}
use Rattle.roster_offers.specs.declared.offer.Offer.{Offer}
use Rattle.roster_offers.specs.Lists.{offers_on}
use Rattle.roster_offers.specs.Offers.{best_of_offers_at}
use Rattle.roster_state.specs.Codes.{Sizes, sizes_of}
use Rattle.roster_completion.specs.declared.least.Adjustment.{Adjustment}
use Rattle.roster_completion.specs.declared.completion_bounds.CompletionBounds.{CompletionBounds}
use Rattle.roster_completion.specs.declared.rates.Rates.{Rates}

-- the sizes of a search's nurse
abbrev pub search_sizes : SearchInput → Sizes
search_sizes search = sizes_of search.case.now search.nurse

-- how many assignments, and how many worked weekends, the states can still count before a day, at most
abbrev pub days_to_come : Meaning → ℕ → (day assignments : ℕ) → ℕ
days_to_come c n day assignments = min (cap (contract_of c n).total - assignments) (day_count c - day)

abbrev pub weekends_to_come : Meaning → ℕ → (day weekends : ℕ) → ℕ
weekends_to_come c n day weekends = min ((contract_of c n).weekends - weekends) ((day_count c - day + 6) / 7)

-- after these assignments and worked weekends before a day, in parts of a point: what is due for
-- assignments that are missing in the end even if each day to come is worked, and what the rates charge for
-- the assignments and the worked weekends that may come
pub record IsAdjustment (c : Meaning) (n scale : ℕ) (rates : Rates) (day assignments weekends : ℕ)
    (adjustment : Adjustment) : Type 0 where
  pub more : adjustment.more
      ≡ scale * (assignment_weight
      * ((contract_of c n).total.least - (assignments + days_to_come c n day assignments)))
  pub less : adjustment.less
      ≡ rates.day * days_to_come c n day assignments + rates.weekend * weekends_to_come c n day weekends

-- the same for the completion bounds of a search
abbrev pub IsAdjustmentOf : CompletionBounds → (day assignments weekends : ℕ) → Adjustment → Type 0
IsAdjustmentOf completion_bounds day assignments weekends adjustment =
    IsAdjustment completion_bounds.search.case.now completion_bounds.search.nurse
    completion_bounds.search.scale completion_bounds.rates day assignments weekends adjustment

-- `least` is no more than what a best row costs from a state before a day on
abbrev pub IsUnderRest : SearchInput → (day : ℕ) → Summary → (least : ℕ) → Type 0
IsUnderRest search day s least =
    (cost : ℕ) (row : List Offer) → best_of_offers_at search.case.now search.nurse search.scale
    (offers_on search.offers.now) (day_count search.case.now - day) day s ≡ Some (cost, row) → least ≤ cost
