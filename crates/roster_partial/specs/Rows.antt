-- Partial rows in a list, in the order of rows, those of one day after those of the day before.
use Rattle.std.specs.Prelude.{◌≡◌, ℕ, zero, suc, ◌+◌, ◌*◌, ◌/◌, ◌%◌, ◌<◌, ◌≤◌, All, List, [], ◌∷◌, ◌++◌, drop, length, nat_lt, slice_index_or, take, if◌then◌else◌, true, Some, None}
use Rattle.roster_instance.specs.declared.choice.Choice.TheVariants.{Off}
use Rattle.roster_instance.specs.Meaning.{Meaning}
use Rattle.roster_rules.specs.Prefix.{Summary}
use Rattle.roster_state.specs.Codes.{fits_sizes, shift_numbered, sizes_of}
use Rattle.roster_offers.specs.declared.offer.Offer.{Offer}
use Rattle.roster_offers.specs.ByStates.{best_after}
use Rattle.roster_offers.specs.Cheapest.{Priced, cheapest, raised}
use Rattle.roster_offers.specs.Lists.{no_row}
use Rattle.roster_offers.specs.Offers.{best_of_offers_at, offer_transition_at}
use Rattle.roster_partial.specs.declared.rows.Entry.{Entry}

-- how many partial rows a list holds at most
abbrev pub most_rows : ℕ
most_rows = 262144

-- ---- the list: one cell with the number of entries, then four cells of a label table for each entry

-- how many entries there are
abbrev pub count_in : List ℕ → ℕ
count_in cells = slice_index_or cells 0 0

-- there are as many cells as the entries take
abbrev pub AreKept : List ℕ → Type 0
AreKept cells = 1 + 4 * count_in cells ≤ length cells

-- the entry of four cells: its cost; the two runs of its state; its assignments and worked weekends; and the
-- index of the entry before, the index of the offer, and the last shift
abbrev pub entry_of : (cost runs counts link : ℕ) → Entry
entry_of cost runs counts link = record {
  state = record {
    last = shift_numbered (link % 16);
    run = runs / 65536;
    shift_run = runs % 65536;
    assignments = counts / 65536;
    weekends = counts % 65536;
  };
  cost = cost;
  before = link / 16 / 16;
  offer = link / 16 % 16;
}

-- the entry at an index
abbrev pub entry_in : List ℕ → ℕ → Entry
entry_in cells index =
    entry_of (slice_index_or cells (4 * index + 1) 0) (slice_index_or cells (4 * index + 2) 0)
    (slice_index_or cells (4 * index + 3) 0) (slice_index_or cells (4 * index + 4) 0)

-- the first entries
abbrev pub rows_to : List ℕ → ℕ → List Entry
rows_to cells zero = []
rows_to cells (suc n) = rows_to cells n ++ entry_in cells n ∷ []

-- all entries
unfoldable pub rows_in : List ℕ → List Entry
rows_in cells = rows_to cells (count_in cells)

-- those before an index, and those from it on
abbrev pub earlier_in : List ℕ → ℕ → List Entry
earlier_in cells first = take first (rows_in cells)

abbrev pub day_in : List ℕ → ℕ → List Entry
day_in cells first = drop first (rows_in cells)

-- ---- what an entry stands for

-- an offer, by its index among those of its day
abbrev pub offer_numbered : List Offer → ℕ → Offer
offer_numbered offers index = slice_index_or offers index (record { choice = Off; price = 0 })

-- the entry at an index of a list
abbrev pub entry_numbered : List Entry → ℕ → Entry
entry_numbered rows index =
    slice_index_or rows index (record {
      state = record
          { last = None; run = 0; shift_run = 0; assignments = 0; weekends = 0 };
      cost = 0;
      before = 0;
      offer = 0;
    })

-- the offers by which an entry of day d was reached, read backward by the indices that it and those before it
-- hold
abbrev pub offers_to : (ℕ → List Offer) → List Entry → ℕ → Entry → List Offer
offers_to offers rows zero e = []
offers_to offers rows (suc d) e =
    offers_to offers rows d (entry_numbered rows e.before) ++ offer_numbered (offers d) e.offer ∷ []

-- each index that is followed on the way is that of an entry or an offer
abbrev pub IsLinked : (ℕ → List Offer) → List Entry → ℕ → Entry → Type 0
IsLinked offers rows zero e = 0 ≤ 0
IsLinked offers rows (suc d) e =
    (e.before < length rows) × (e.offer < length (offers d))
    × IsLinked offers rows d (entry_numbered rows e.before)

-- ---- what a list is made for

-- a nurse's rows within a limit, at a scale; a day, with the number of days left from it on, and the entries
-- of the days before
pub record Days : Type 0 where
  pub case : Meaning
  pub nurse : ℕ
  pub scale : ℕ
  pub offers : ℕ → List Offer
  pub limit : ℕ
  pub left : ℕ
  pub day : ℕ
  pub earlier : List Entry

-- none if it costs more than a limit
abbrev pub within : {X : Type 0} → ℕ → Priced X → Priced X
within limit None = None
within limit (Some p) = if nat_lt limit p.0 then None else Some p

-- the first days of a row: the offers, the state to which they lead, and the cost of the days
pub record PartialRow : Type 0 where
  pub offers : List Offer
  pub state : Summary
  pub cost : ℕ

-- the best of the rows that begin with the partial row, with its cost, if m days are left, from day d on
abbrev pub best_with : Meaning → (n scale : ℕ) → (ℕ → List Offer) → (m d : ℕ) → PartialRow
    → Priced (List Offer)
best_with c n scale offers m d row =
    raised row.cost (λ rest. row.offers ++ rest) (best_of_offers_at c n scale offers m d row.state)

-- the partial row of an entry
abbrev pub row_of : Days → Entry → PartialRow
row_of days e =
    record { offers = offers_to days.offers days.earlier days.day e; state = e.state; cost = e.cost }

-- the best row that begins with an entry, if it is within the limit
unfoldable pub best_of : Days → Entry → Priced (List Offer)
best_of days e =
    within days.limit
    (best_with days.case days.nurse days.scale days.offers days.left days.day (row_of days e))

-- the state fits, and what the entry's indices name exists
pub record IsEntryOf (days : Days) (e : Entry) : Type 0 where
  pub fits : fits_sizes (sizes_of days.case days.nurse) e.state ≡ true
  pub linked : IsLinked days.offers days.earlier days.day e

-- the entries from an index on are such, and the limit is below the cost of no row
pub record AreMadeFor (days : Days) (cells : List ℕ) (first : ℕ) : Type 0 where
  pub low : days.limit < no_row
  pub entries : All (IsEntryOf days) (day_in cells first)

-- the best row of two lists of entries is the same
abbrev pub HaveSameBest : Days → (xs ys : List Entry) → Type 0
HaveSameBest days xs ys = cheapest (best_of days) xs ≡ cheapest (best_of days) ys

-- ---- one day

-- the best row that begins with an entry of day d and goes on by an offer, if it is within the limit
unfoldable pub best_by : Days → ℕ → Entry → Offer → Priced (List Offer)
best_by days d e x =
    within days.limit (raised e.cost (λ rest. offers_to days.offers days.earlier d e ++ rest)
    (best_after x (offer_transition_at days.case days.nurse days.scale d e.state x)
    (best_of_offers_at days.case days.nurse days.scale days.offers days.left (suc d))))
