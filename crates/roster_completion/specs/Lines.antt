-- The completion bounds of one day, as they are set from those of the next day. A line has the completion
-- bounds of one last shift and one run, one for each run of the shift.
use Rattle.std.specs.Prelude.{◌≡◌, ◌≢◌, ◌⊎◌, ℕ, ◌+◌, ◌*◌, ◌<◌, ◌≤◌, Bool, true, false, if◌then◌else◌, List, length, min, Option, Some, None, is_some, slice_index_or}
use Rattle.roster_instance.specs.declared.choice.Choice.TheVariants.{Off}
use Rattle.roster_instance.specs.declared.choice.Shift.{Shift}
use Rattle.roster_instance.specs.Choices.{shift_of}
use Rattle.roster_instance.specs.Counting.{one_if}
use Rattle.roster_instance.specs.Meaning.{Meaning, forbids, run_of_shift, shift_count}
use Rattle.roster_instance.specs.RunLaw.{day_violations}
use Rattle.roster_instance.specs.Sizes.{cap}
use Rattle.roster_rules.specs.DayLaw.{splits_more, weekends_more}
use Rattle.roster_rules.specs.Prefix.{Summary}
use Rattle.roster_rules.specs.Weights.{free_run_weight, shift_run_weight, split_weight, working_run_weight}
use Rattle.roster_offers.specs.declared.offer.Offer.{Offer}
use Rattle.roster_state.specs.Codes.{Sizes, fits_sizes, shift_digit, sizes_of}
use Rattle.roster_state.specs.Transition.{next_of}
use Rattle.roster_completion.specs.declared.completion_day.CompletionDay.{CompletionDay}
use Rattle.roster_completion.specs.declared.off.AfterOff.{AfterOff}
use Rattle.roster_completion.specs.declared.rates.Rates.{Rates}
use Rattle.roster_completion.specs.declared.shift.AfterShift.{AfterShift}
use Rattle.roster_completion.specs.declared.ways.Onward.{Onward}
use Rattle.roster_completion.specs.declared.ways.Way.{Way}
use Rattle.roster_completion.specs.declared.ways.Ways.{Ways}
use Rattle.roster_state.specs.CompletionLines.{AreLow, longer, most_leave}
use Rattle.roster_completion.specs.CompletionBounds.{rated}

-- ---- indices

-- the index of a line's first completion bound among a day's
abbrev pub line_index : CompletionDay → (digit run : ℕ) → ℕ
line_index day digit run = (digit * day.runs + run) * day.shift_runs

-- the next day's completion bound at an index
abbrev pub next_at : CompletionDay → (index : ℕ) → ℕ
next_at day index = slice_index_or day.next.now index 0

-- the index of a state's completion bound among a day's
abbrev pub cell_index : Sizes → Summary → ℕ
cell_index z s = (shift_digit s.last * z.run + s.run) * z.shift_run + s.shift_run

-- the completion bound there
abbrev pub cell_at : Sizes → List ℕ → Summary → ℕ
cell_at z completion_bounds s = slice_index_or completion_bounds (cell_index z s) 0

-- ---- lower bounds

-- no offer: what is read past the end of a list
abbrev pub nothing : Offer
nothing = record { choice = Off; price = 0 }

-- an offer of a list, by its index
abbrev pub offer_at : List Offer → ℕ → Offer
offer_at offers k = slice_index_or offers k nothing

-- an offer of the day, by its index
abbrev pub offer_on : CompletionDay → (k : ℕ) → Offer
offer_on day k = offer_at day.offers.now k

-- if the offer may follow, the number is at most what the day costs with it from the state, plus the next
-- day's completion bound after it
abbrev pub IsUnder : CompletionDay → Summary → (completion_bound : ℕ) → Offer → Type 0
IsUnder day s completion_bound x =
    forbids day.case.now.successions s.last (shift_of x.choice) ≡ false
    → completion_bound ≤ rated day.case.now day.nurse day.scale day.rates day.day s x
    + cell_at (sizes_of day.case.now day.nurse) day.next.now
    (next_of day.case.now day.nurse day.day s (shift_of x.choice))

-- the same for each offer of the day
abbrev pub IsUnderAll : CompletionDay → Summary → (completion_bound : ℕ) → Type 0
IsUnderAll day s completion_bound =
    (k : ℕ) → k < length day.offers.now → IsUnder day s completion_bound (offer_on day k)

-- a state, by its last shift, its run and its run of the shift
abbrev pub state_of : Option Shift → (run q a w : ℕ) → Summary
state_of last run q a w = record { last = last; run = run; shift_run = q; assignments = a; weekends = w }

-- a number that is such a bound for all states with this last shift, by its number, and these runs
abbrev pub UnderCell : CompletionDay → (digit run q completion_bound : ℕ) → Type 0
UnderCell day digit run q completion_bound =
    (last : Option Shift) (a w : ℕ) → shift_digit last ≡ digit
    → IsUnderAll day (state_of last run q a w) completion_bound

-- a line of such completion bounds
abbrev pub UnderLine : CompletionDay → (digit run : ℕ) → List ℕ → Type 0
UnderLine day digit run here =
    (q : ℕ) → q < day.shift_runs → UnderCell day digit run q (slice_index_or here q 0)

-- the completion bounds after a last shift, line by line
abbrev pub UnderLines : CompletionDay → (digit : ℕ) → List ℕ → Type 0
UnderLines day digit here =
    (run q : ℕ) → run < day.runs → q < day.shift_runs
    → UnderCell day digit run q (slice_index_or here (run * day.shift_runs + q) 0)

-- the completion bounds of the day, from each state that fits
abbrev pub UnderDay : CompletionDay → List ℕ → Type 0
UnderDay day here =
    (s : Summary) → fits_sizes (sizes_of day.case.now day.nurse) s ≡ true
    → IsUnderAll day s (cell_at (sizes_of day.case.now day.nurse) here s)

-- ---- setting the completion bounds of a day

-- how many extensions it takes to set these completion bounds: each of them with each offer of the day
abbrev pub extensions_of : CompletionDay → List ℕ → ℕ
extensions_of day completion_bounds = length completion_bounds * length day.offers.now

-- completion bounds of the day are set: as many as before, each within its range, and each counted with each
-- offer
pub record AreSet (day : CompletionDay) (old new : List ℕ) (before after : ℕ) : Type 0 where
  pub low : AreLow new
  pub length : length new ≡ length old
  pub counted : after ≡ before + extensions_of day old

-- ---- what a day costs

-- an offer's price with what doesn't depend on the runs, after a worked day or a day off: a split weekend,
-- and the rates
abbrev pub apart_of : CompletionDay → (before : Bool) → Offer → ℕ
apart_of day before x =
    x.price
    + day.scale * (if day.rules.whole_weekends
    then split_weight * splits_more day.day before (is_some (shift_of x.choice)) else 0)
    + (day.rates.day * one_if (is_some (shift_of x.choice)) + day.rates.weekend
    * weekends_more day.day before (is_some (shift_of x.choice)))

-- what a run of working days costs if it ends
abbrev pub work_ends : CompletionDay → (run : ℕ) → ℕ
work_ends day run = day.scale * (working_run_weight * day_violations day.rules.working run false)

-- what it costs with one day more
abbrev pub work_goes_on : CompletionDay → (run : ℕ) → ℕ
work_goes_on day run = day.scale * (working_run_weight * day_violations day.rules.working run true)

-- what a run of days off costs if it ends
abbrev pub rest_ends : CompletionDay → (run : ℕ) → ℕ
rest_ends day run = day.scale * (free_run_weight * day_violations day.rules.free run false)

-- what it costs with one day more
abbrev pub rest_goes_on : CompletionDay → (run : ℕ) → ℕ
rest_goes_on day run = day.scale * (free_run_weight * day_violations day.rules.free run true)

-- ---- the ways on from a last shift

-- a way that is never the cheapest
abbrev pub no_way : Way
no_way = record { price = most_leave; index = 0 }

-- a way of a list, by its index
abbrev pub way_at : List Way → (k : ℕ) → Way
way_at ways k = slice_index_or ways k no_way

-- the index of the first completion bound of a shift that begins, for a run
abbrev pub begun_index : CompletionDay → Shift → (run : ℕ) → ℕ
begun_index day u run = line_index day (u.0 + 1) run + min 1 (cap (run_of_shift day.case.now u.0))

-- the way on with a shift that begins, after a worked day or a day off
pub record IsWayOf (day : CompletionDay) (before : Bool) (x : Offer) (u : Shift) (way : Way) : Type 0 where
  pub price : way.price
      ≡ apart_of day before x
      + day.scale * (shift_run_weight * day_violations (run_of_shift day.case.now u.0) 0 true)
  pub index : way.index ≡ begun_index day u 0

-- the way can be taken: its price is within its range, and the lines that it leads to are among the next
-- day's
pub record IsOpenWay (day : CompletionDay) (way : Way) : Type 0 where
  pub price : way.price ≤ most_leave
  pub index : (run : ℕ) → run < day.runs → way.index + run * day.shift_runs < length day.next.now

-- what an offer costs after a worked day, whatever the last shift, and the way on with its shift
abbrev pub IsOnward : CompletionDay → Onward → Offer → Option Shift → Type 0
IsOnward day onward x None = onward.apart ≡ apart_of day true x
IsOnward day onward x (Some u) = (onward.apart ≡ apart_of day true x) × IsWayOf day true x u onward.way

-- what is read past the end of a list of such costs
abbrev pub no_onward : Onward
no_onward = record { apart = most_leave; way = no_way }

-- what an offer costs, by its index
abbrev pub onward_at : List Onward → (k : ℕ) → Onward
onward_at all k = slice_index_or all k no_onward

-- what the first offers of the day cost after a worked day
pub record AreOnwardTo (day : CompletionDay) (index : ℕ) (all : List Onward) : Type 0 where
  pub count : length all ≡ 9
  pub each : (k : ℕ) → k < index
      → IsOnward day (onward_at all k) (offer_on day k) (shift_of (offer_on day k).choice)
  pub openings : (k : ℕ) → IsOpenWay day (onward_at all k).way

-- what all offers of the day cost after a worked day
abbrev pub AreOnward : CompletionDay → List Onward → Type 0
AreOnward day all = AreOnwardTo day (length day.offers.now) all

-- one of the first ways is the way on with a shift
pub record HasWay (day : CompletionDay) (x : Offer) (u : Shift) (ways : Ways) : Type 0 where
  pub at : ℕ
  pub below : at < ways.count
  pub way : IsWayOf day true x u (way_at ways.others at)

-- an offer is taken into account after a shift: in the least cost of a day off or of the same shift, or by a
-- way on
abbrev pub IsWayOn : CompletionDay → Shift → Ways → Offer → Option Shift → Type 0
IsWayOn day t ways x None = ways.off ≤ apart_of day true x
IsWayOn day t ways x (Some u) =
    forbids day.case.now.successions (Some t) (Some u) ≡ false
    → (t.0 ≡ u.0 → ways.stay ≤ apart_of day true x) × (t.0 ≢ u.0 → HasWay day x u ways)

-- the same for an offer of the day
abbrev pub IsWayAt : CompletionDay → Shift → Ways → (k : ℕ) → Type 0
IsWayAt day t ways k = IsWayOn day t ways (offer_on day k) (shift_of (offer_on day k).choice)

-- all ways can be taken
abbrev pub AreOpen : CompletionDay → Ways → Type 0
AreOpen day ways = (k : ℕ) → IsOpenWay day (way_at ways.others k)

-- the ways on from a last shift by the first offers of the day, and the least costs of a day off and of the
-- same shift
pub record AreWaysTo (day : CompletionDay) (t : Shift) (index : ℕ) (ways : Ways) : Type 0 where
  pub count : length ways.others ≡ 9
  pub few : ways.count ≤ index
  pub each : (k : ℕ) → k < index → IsWayAt day t ways k
  pub openings : AreOpen day ways
  pub stay : ways.stay ≤ most_leave
  pub off : ways.off ≤ most_leave

-- the same by all offers of the day
abbrev pub AreWays : CompletionDay → Shift → Ways → Type 0
AreWays day t ways = AreWaysTo day t (length day.offers.now) ways

-- what going on by a way costs, with the completion bound after it
abbrev pub way_cost : List Way → List ℕ → (more k : ℕ) → ℕ
way_cost ways next more k = (way_at ways k).price + slice_index_or next ((way_at ways k).index + more) 0

-- a number that is the cost of going on by one of the first ways, or the greatest that a day can cost
abbrev pub IsLeastWay : List Way → (count : ℕ) → List ℕ → (more least : ℕ) → Type 0
IsLeastWay ways count next more least =
    (least ≡ most_leave) ⊎ ((k : ℕ) × (k < count) × (least ≡ way_cost ways next more k))

-- what a day off after a shift costs at most, with the completion bound after it
abbrev pub most_off : ℕ
most_off = 2400000000

-- what can follow a last shift: the ways on, and what a day off costs with the completion bound after it
pub record IsAfterShift (day : CompletionDay) (after : AfterShift) : Type 0 where
  pub in_case : after.last.0 < shift_count day.case.now
  pub ways : AreWays day after.last after.ways
  pub off : after.off
      ≡ after.ways.off + rest_goes_on day 0 + next_at day (line_index day 0 (min 1 (cap day.rules.free)))
  pub low : after.off ≤ most_off

-- how far the lines after another working day are from those after the first one
abbrev pub work_index : CompletionDay → (run : ℕ) → ℕ
work_index day run = longer run day.rules.working * day.shift_runs

-- a number that is the cost of leaving a last shift after a run of working days, by a day off or by the
-- cheapest way, or the greatest cost
abbrev pub IsLeaveBy : CompletionDay → AfterShift → (run least leave : ℕ) → Type 0
IsLeaveBy day after run least leave =
    (leave ≡ most_leave) ⊎ ((leave ≡ after.off + work_ends day run) ⊎ (leave ≡ least + work_goes_on day run))

-- the same with the least cost of the ways
abbrev pub IsLeave : CompletionDay → AfterShift → (run leave : ℕ) → Type 0
IsLeave day after run leave =
    (least : ℕ) × IsLeastWay after.ways.others after.ways.count day.next.now (work_index day run) least
    × IsLeaveBy day after run least leave

-- a number that is no more than what leaving a last shift by one of the ways costs, after a run of working
-- days
abbrev pub IsUnderWays : CompletionDay → AfterShift → (run leave : ℕ) → Type 0
IsUnderWays day after run leave =
    (k : ℕ) → k < after.ways.count
    → leave ≤ way_cost after.ways.others day.next.now (work_index day run) k + work_goes_on day run

-- ---- after a day off

-- the cost of a shift that begins after a day off, with the completion bound after it
abbrev pub entry_cost : CompletionDay → Offer → Shift → ℕ
entry_cost day x u =
    apart_of day false x
    + day.scale * (shift_run_weight * day_violations (run_of_shift day.case.now u.0) 0 true)
    + work_goes_on day 0
    + next_at day (begun_index day u (min 1 (cap day.rules.working)))

-- an offer is taken into account after a day off: in the least cost of another day off, or of a shift that
-- begins
abbrev pub IsEntry : CompletionDay → AfterOff → Offer → Option Shift → Type 0
IsEntry day after x None = after.off ≤ apart_of day false x
IsEntry day after x (Some u) = after.enter ≤ entry_cost day x u

-- the same for an offer of the day
abbrev pub IsEntryAt : CompletionDay → AfterOff → (k : ℕ) → Type 0
IsEntryAt day after k = IsEntry day after (offer_on day k) (shift_of (offer_on day k).choice)

-- what can follow a day off, by the first offers of the day
pub record IsAfterOffTo (day : CompletionDay) (index : ℕ) (after : AfterOff) : Type 0 where
  pub entries : (k : ℕ) → k < index → IsEntryAt day after k
  pub off : after.off ≤ most_leave
  pub enter : after.enter ≤ most_leave

-- what can follow a day off, by all offers of the day
abbrev pub IsAfterOff : CompletionDay → AfterOff → Type 0
IsAfterOff day after = IsAfterOffTo day (length day.offers.now) after

-- a completion bound after a run of days off: a lower bound for a shift that begins and for another day off
pub record IsOffCompletionBound (day : CompletionDay) (after : AfterOff)
    (run completion_bound : ℕ) : Type 0 where
  pub enter : completion_bound ≤ after.enter + rest_ends day run
  pub off : completion_bound
      ≤ after.off + rest_goes_on day run + next_at day (line_index day 0 (longer run day.rules.free))

-- ---- among all days

-- the day of a nurse's search, with the next day's completion bounds
pub record IsCompletionDayOf (c : Meaning) (n k : ℕ) (at : Rates) (d : ℕ) (xs : List Offer) (after : List ℕ)
    (x : CompletionDay) : Type 0 where
  pub case : x.case.now ≡ c
  pub nurse : x.nurse ≡ n
  pub scale : x.scale ≡ k
  pub rates : x.rates ≡ at
  pub day : x.day ≡ d
  pub offers : x.offers.now ≡ xs
  pub next : x.next.now ≡ after
