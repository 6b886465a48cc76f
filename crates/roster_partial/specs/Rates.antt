-- Completion bounds as they are tried at one pair of rates after another.
use Rattle.std.specs.Prelude.{◌≡◌, ℕ, ◌+◌, ◌*◌, ◌<◌, ◌≤◌, ◌⊎◌, List, length, true}
use Rattle.roster_instance.specs.Meaning.{day_count}
use Rattle.roster_rules.specs.Prefix.{Summary}
use Rattle.roster_state.specs.Codes.{fits_sizes, sizes_of}
use Rattle.roster_offers.specs.declared.lists.SearchInput.{SearchInput}
use Rattle.roster_completion.specs.CompletionBounds.{AreCompletionBoundsOf, AreSmallRates, search_cells, search_extensions}
use Rattle.roster_completion.specs.declared.rates.Rates.{Rates}
use Rattle.roster_partial.specs.declared.rates.Tried.{Tried}

-- how many offers a day has at most
abbrev pub most_offers : ℕ
most_offers = 9

-- how many extensions it takes at most to follow a row
abbrev pub row_extensions : SearchInput → ℕ
row_extensions search = most_offers * day_count search.case.now

-- how many extensions it takes at most to set the completion bounds and to follow a row
abbrev pub trial_extensions : SearchInput → ℕ
trial_extensions search = search_extensions search + row_extensions search

-- a state within the nurse's ranges
abbrev pub FitsNurse : SearchInput → Summary → Type 0
FitsNurse search s = fits_sizes (sizes_of search.case.now search.nurse) s ≡ true

-- there are fewer cells than completion bounds, or fewer extensions are left than for two trials
abbrev pub RunsOut : SearchInput → List ℕ → (left : ℕ) → Type 0
RunsOut search cells left = (length cells < search_cells search) ⊎ (left < 2 * trial_extensions search)

-- the rates are small, and the cells hold the completion bounds at these rates
pub record AreSetAt (search : SearchInput) (rates : Rates) (cells : List ℕ) : Type 0 where
  pub small : AreSmallRates search.scale rates
  pub completion_bounds : AreCompletionBoundsOf search rates cells
  pub inside : search_cells search ≤ length cells

-- the best rates are small, and the cells hold the completion bounds at the rates that were set last
pub record IsTried (search : SearchInput) (cells : List ℕ) (tried : Tried) : Type 0 where
  pub small : AreSmallRates search.scale tried.rates
  pub set : AreSetAt search tried.set cells
