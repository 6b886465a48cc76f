-- What a search by partial rows goes over.
use Rattle.std.specs.Prelude.{◌≡◌, ℕ, suc, ◌+◌, ◌-◌, ◌*◌, ◌<◌, ◌≤◌, ◌⊎◌, All, List, length}
use Rattle.roster_instance.specs.Meaning.{day_count}
use Rattle.roster_offers.specs.declared.lists.SearchInput.{SearchInput}
use Rattle.roster_offers.specs.declared.offer.Offer.{Offer}
use Rattle.roster_offers.specs.Cheapest.{Priced, cheapest}
use Rattle.roster_offers.specs.Lists.{best_over_at, offers_on}
use Rattle.roster_offers.specs.Offers.{best_of_offers_at}
use Rattle.roster_rules.specs.Prefix.{Summary}
use Rattle.roster_state.specs.Worked.{IsWorkedDay}
use Rattle.roster_completion.specs.declared.least.Adjustment.{Adjustment}
use Rattle.roster_completion.specs.Least.{IsAdjustmentOf}
use Rattle.roster_partial.specs.declared.limited.LimitedSearch.{LimitedSearch}
use Rattle.roster_partial.specs.declared.one_offer.AfterWork.{AfterWork}
use Rattle.roster_partial.specs.declared.one_offer.RowExtension.{RowExtension}
use Rattle.roster_partial.specs.declared.one_offer.RowsDay.{RowsDay}
use Rattle.roster_partial.specs.declared.rows.Entry.{Entry}
use Rattle.roster_partial.specs.Rates.{most_offers}
use Rattle.roster_partial.specs.Rows.{Days, IsEntryOf, best_by, best_of, count_in, day_in, earlier_in, entry_numbered, offer_numbered, offers_to, rows_in}

-- how many days a search goes over
abbrev pub days_in : SearchInput → ℕ
days_in search = day_count search.case.now

-- the offers of a day
abbrev pub offered : SearchInput → ℕ → List Offer
offered search = offers_on search.offers.now

-- the best row over all days
abbrev pub best_in : SearchInput → Priced (List Offer)
best_in search = best_over_at search.case.now search.nurse search.scale (offered search)

-- the best row from a state before a day on
abbrev pub best_onward : LimitedSearch → ℕ → Summary → Priced (List Offer)
best_onward limited day s =
    best_of_offers_at limited.completion_bounds.search.case.now limited.completion_bounds.search.nurse
    limited.completion_bounds.search.scale (offered limited.completion_bounds.search)
    (days_in limited.completion_bounds.search - day) day s

-- ---- the partial rows of a day

-- no more entries than may be held at once, for which there are cells
pub record HasCells (limited : LimitedSearch) (cells : List ℕ) : Type 0 where
  pub long : 1 + 4 * limited.row_limit ≤ length cells
  pub within : count_in cells ≤ limited.row_limit

-- as many entries are held as may be; or fewer extensions are left than it takes to extend each of them by
-- each offer of a day
abbrev pub IsFull : (rows extensions : ℕ) → (cells : List ℕ) → (counted : ℕ) → Type 0
IsFull rows extensions cells counted =
    (count_in cells ≡ rows) ⊎ (extensions < counted + most_offers * count_in cells)

-- what the entries of a day of this search are made for, after these of the days before
abbrev pub days_on : LimitedSearch → ℕ → List Entry → Days
days_on limited day earlier = record {
  case = limited.completion_bounds.search.case.now;
  nurse = limited.completion_bounds.search.nurse;
  scale = limited.completion_bounds.search.scale;
  offers = offered limited.completion_bounds.search;
  limit = limited.limit;
  left = days_in limited.completion_bounds.search - day;
  day = day;
  earlier = earlier;
}

-- the entries from an index on are those of a day
pub record AreOfDay (limited : LimitedSearch) (day first : ℕ) (cells : List ℕ) : Type 0 where
  pub inside : first ≤ length (rows_in cells)
  pub entries : All (IsEntryOf (days_on limited day (earlier_in cells first))) (day_in cells first)
  pub held : HasCells limited cells

-- the best row within the limit that begins with one of them
abbrev pub best_of_day : LimitedSearch → (day first : ℕ) → List ℕ → Priced (List Offer)
best_of_day limited day first cells =
    cheapest (best_of (days_on limited day (earlier_in cells first))) (day_in cells first)

-- after the last day
abbrev pub best_after_all : LimitedSearch → (first : ℕ) → List ℕ → Priced (List Offer)
best_after_all limited first cells =
    best_of_day limited (days_in limited.completion_bounds.search) first cells

-- ---- one day more: the entries of the next day are appended

-- what an entry of the day after is made for
abbrev pub days_after : LimitedSearch → RowsDay → List ℕ → Days
days_after limited at cells = days_on limited (suc at.day) (earlier_in cells at.end)

-- the entries from the day's end on are those of the day after
abbrev pub ArePut : LimitedSearch → RowsDay → List ℕ → Type 0
ArePut limited at cells = AreOfDay limited (suc at.day) at.end cells

-- the best row within the limit that begins with one of those
abbrev pub best_put : LimitedSearch → RowsDay → List ℕ → Priced (List Offer)
best_put limited at cells = best_of_day limited (suc at.day) at.end cells

-- an entry before the end
abbrev pub entry_before : RowsDay → List ℕ → ℕ → Entry
entry_before at cells before = entry_numbered (earlier_in cells at.end) before

-- the best row within the limit that begins with an entry of the day
abbrev pub best_before : LimitedSearch → RowsDay → List ℕ → ℕ → Priced (List Offer)
best_before limited at cells before =
    best_of (days_on limited at.day (earlier_in cells at.end)) (entry_before at cells before)

-- the best row within the limit that begins with an entry of the day and goes on by an offer
abbrev pub best_of_extension : LimitedSearch → RowsDay → List ℕ → RowExtension → Priced (List Offer)
best_of_extension limited at cells extension =
    best_by (days_after limited at cells) at.day (entry_before at cells extension.link.before)
    (offer_numbered (offered limited.completion_bounds.search at.day) extension.link.offer)

-- the state and the cost of an entry of the day that is being extended
pub record IsOnwardFrom (limited : LimitedSearch) (at : RowsDay) (earlier : List Entry) (before : ℕ)
    (s : Summary) (paid : ℕ) : Type 0 where
  pub inside : before < at.end
  pub entry : IsEntryOf (days_on limited at.day earlier) (entry_numbered earlier before)
  pub state : s ≡ (entry_numbered earlier before).state
  pub cost : paid ≡ (entry_numbered earlier before).cost
  pub low : paid ≤ limited.limit

-- ---- one offer more

-- the adjustment of the completion bound of a state before a day
abbrev pub IsAdjustmentIn : LimitedSearch → ℕ → Summary → Adjustment → Type 0
IsAdjustmentIn limited day s adjustment =
    IsAdjustmentOf limited.completion_bounds day s.assignments s.weekends adjustment

-- what is the same for all shifts that are worked on a day after a state: what the worked day brings, and the
-- adjustment of the completion bound after it
pub record IsAfterWork (limited : LimitedSearch) (day : ℕ) (s : Summary) (work : AfterWork) : Type 0 where
  pub worked : IsWorkedDay limited.completion_bounds.search.case.now limited.completion_bounds.search.nurse
      day s work.worked
  pub adjustment : IsAdjustmentOf limited.completion_bounds
      (day + 1) work.worked.assignments work.worked.weekends work.adjustment

-- an entry of the day that is extended by one of the day's offers
pub record IsRowExtension (limited : LimitedSearch) (at : RowsDay) (earlier : List Entry)
    (extension : RowExtension) : Type 0 where
  pub onward : IsOnwardFrom limited at earlier extension.link.before extension.state extension.cost
  pub offer : extension.link.offer < length (offered limited.completion_bounds.search at.day)
  pub work : IsAfterWork limited at.day extension.state extension.work

-- ---- all days

-- the best row within the limit of an entry of all days, and its offers
abbrev pub best_of_last : LimitedSearch → List ℕ → ℕ → Priced (List Offer)
best_of_last limited cells index =
    best_of (days_on limited (days_in limited.completion_bounds.search) (rows_in cells))
    (entry_numbered (rows_in cells) index)

abbrev pub offers_of_last : SearchInput → List ℕ → ℕ → List Offer
offers_of_last search cells index =
    offers_to (offered search) (rows_in cells) (days_in search) (entry_numbered (rows_in cells) index)
