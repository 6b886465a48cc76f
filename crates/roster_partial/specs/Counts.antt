-- How much a search counts, and for what.
use Rattle.std.specs.Prelude.{◌≡◌, ℕ, ◌+◌, ◌-◌, ◌*◌, ◌/◌, ◌≤◌, ◌⊎◌, List, min}
use Rattle.roster_instance.specs.Meaning.{Meaning, day_count}
use Rattle.roster_state.specs.declared.state_box.StateBox.{StateBox}
use Rattle.roster_offers.specs.declared.offer.Offer.{Offer}
use Rattle.roster_laws.specs.Greatest.{extension_count}
use Rattle.roster_tables.specs.Search.{AreReachable, reachable_extensions}
use Rattle.roster_completion.specs.CompletionBounds.{completion_extensions}
use Rattle.roster_partial.specs.Rates.{most_offers}
use Rattle.roster_partial.specs.Rows.{most_rows}

-- completion bounds were set at most `most` times, those of all days each time, each with each offer of its
-- day; and at most `rows` rows were followed, each over all days with all offers
pub record CountsSets (c : Meaning) (n : ℕ) (offers : ℕ → List Offer)
    (most rows before after : ℕ) : Type 0 where
  pub sets : ℕ
  pub followed : ℕ
  pub few : sets ≤ most
  pub brief : followed ≤ rows * (most_offers * day_count c)
  pub counted : after ≡ before + sets * completion_extensions c n offers + followed

-- how many times a search sets completion bounds at most: at first, to set closer ones, and together
abbrev pub most_first : ℕ
most_first = 13

abbrev pub most_closer : ℕ
most_closer = 41

abbrev pub most_sets : ℕ
most_sets = most_first + most_closer

-- how many limits are tried at most: with the same completion bounds, and in all
abbrev pub ladder_limits : ℕ
ladder_limits = 24

abbrev pub most_limits : ℕ
most_limits = 2 * ladder_limits

-- how many partial rows are kept at once in that many cells: four hold one, after a first cell
abbrev pub rows_kept : (cells : ℕ) → ℕ
rows_kept cells = min ((cells - 1) / 4) most_rows

-- completion bounds were set and rows followed, which took as much as `bounds`; and partial rows were
-- extended within limits, each that was kept at most once by each offer
pub record CountsPartial (cells : ℕ) (c : Meaning) (n : ℕ) (offers : ℕ → List Offer)
    (before after : ℕ) : Type 0 where
  pub bounds : ℕ
  pub rows : ℕ
  pub completion_bounds : CountsSets c n offers most_sets most_sets before (before + bounds)
  pub few : rows ≤ most_limits * (most_offers * rows_kept cells)
  pub counted : after ≡ before + bounds + rows

-- what was counted for completion bounds, partial rows and states: for states either each reachable one with
-- each offer of its day, or nothing if a row was found without the tables; enough extensions were left for
-- all reachable states. Each table of labels has that many cells.
pub record CountsSearch (cells : ℕ) (c : Meaning) (n : ℕ) (offers : ℕ → List Offer)
    (before after : ℕ) : Type 0 where
  pub boxes : List (List StateBox)
  pub are_reachable : AreReachable c n offers boxes
  pub between : ℕ
  pub partial : CountsPartial cells c n offers before between
  pub left : between + reachable_extensions c n offers boxes ≤ before + extension_count c n
  pub states : (after ≡ between) ⊎ (after ≡ between + reachable_extensions c n offers boxes)
