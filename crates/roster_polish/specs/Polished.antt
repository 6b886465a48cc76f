-- What a run of a fade and kicks comes to, and what its log says (our own).
use Rattle.std.specs.Prelude.{◌≡◌, ℕ, zero, suc, ◌-◌, ◌*◌, ◌<◌, ◌≤◌, All, Bool, true, List, [], ◌∷◌, ◌++◌, codes, decimal, flat_map, if◌then◌else◌, length, map, nat_lt, IfSome, None, Option, Some}
use Rattle.roster_text.specs.Io.{StopsAt, Watched, Writes, saturated}
use Rattle.roster_instance.specs.Meaning.{Meaning, day_count, nurse_count}
use Rattle.roster_instance.specs.Rosters.{Rows, fits_case}
use Rattle.roster_rules.specs.Penalties.{penalty}
use Rattle.roster_laws.specs.FrozenDays.{FrozenDaysStay}
use Rattle.roster_rounds.specs.PutIn.{IsAccepted}
use Rattle.roster_rules.specs.AllowedRows.{best_row}
use Rattle.roster_rules.specs.Improver.{Run, line, round, run, same_rows, start_word}
use Rattle.roster_reports.specs.declared.log_fault.LogFault.{LogFault}
use Rattle.roster_reports.specs.declared.log_fault.LogFault.TheVariants.{LogFailed}
use Rattle.roster_row.specs.Recalled.{RecallsSearches, RecallsSearchesAt}
use Rattle.roster_prices.specs.Workspaces.{FitsBound}
use Rattle.roster_polish.specs.declared.run.Polished.{Polished}
use Rattle.roster_polish.specs.declared.space.PolishSpace.{PolishSpace}
use Rattle.roster_polish.specs.Settled.{IsSettled}

-- ---- the first descent

-- how many rounds it makes at most
abbrev pub descent_rounds : ℕ
descent_rounds = 1000000

-- this is `improve`: surely settled if the given roster costs less than 5 * descent_rounds
abbrev pub first_run : Meaning → ℕ → Rows → Run
first_run c from given = run c (best_row c from) descent_rounds given

-- how many rounds a run of at most this many makes: it ends with the first that changes nothing
unfoldable pub rounds_made : Meaning → ℕ → (rounds : ℕ) → Rows → ℕ
rounds_made c from zero r = 0
rounds_made c from (suc rounds) r =
    let next = round c (best_row c from) r in
    if same_rows next r then 1 else suc (rounds_made c from rounds next)

-- how many searches the first descent makes at most: one for each nurse in each of its rounds
abbrev pub descent_searches : Meaning → ℕ → Rows → ℕ
descent_searches c from given = rounds_made c from descent_rounds given * nurse_count c

-- ---- the memory of a run

-- that for lower bounds, the last searches by true prices, also of the kept roster, nine numbers for each
-- day, and a roster of the case; for a fade what each slot pays, its last searches, which are at one scale,
-- one more roster, and an order of the nurses; the best roster, and the dual prices that fades begin with
pub record FitsPolish {T : Type 0} (c : Meaning) (w : PolishSpace T) : Type 0 where
  pub bounds : FitsBound c w.bounds
  pub recalls : RecallsSearches c w.last
  pub kept_recalls : RecallsSearches c w.kept_last
  pub dearer : length w.dearer.items ≡ 9 * day_count c
  pub kept : fits_case c w.kept ≡ true
  pub fade_prices : w.fade_prices.days ≡ day_count c
  pub fade_recalls : (scale : ℕ) × RecallsSearchesAt c scale w.fade_last
  pub faded : fits_case c w.faded ≡ true
  pub best : fits_case c w.best ≡ true
  pub first_prices : w.first_prices.days ≡ day_count c
  pub count : length w.order.items ≡ nurse_count c
  pub order : All (λ n. n < nurse_count c) w.order.items

-- how many searches the first descent makes at most, from any roster
abbrev pub first_searches : Meaning → ℕ
first_searches c = descent_rounds * nurse_count c

-- the greatest number of searches besides these that a new meter can surely count
abbrev pub most_searches : ℕ
most_searches = 10000000

-- ---- what is kept

-- a roster that a run from the given one may keep: accepted, and the frozen days as they were
pub record IsReached (c : Meaning) (from : ℕ) (given r : Rows) : Type 0 where
  pub accepted : IsAccepted c r
  pub stays : FrozenDaysStay c from given r

-- the roster that is kept after a fade: it may be kept, it is settled, and no dearer than that of the first
-- descent
pub record IsFaded (c : Meaning) (from : ℕ) (given first r : Rows) : Type 0 where
  pub reached : IsReached c from given r
  pub is_settled : IsSettled c from r
  pub no_dearer : penalty c r ≤ penalty c first

-- where the kicks begin: at that roster, or at that of the first descent if no fade is kept
abbrev pub begun : Option Rows → Rows → Rows
begun None first = first
begun (Some r) first = r

-- a line of the log: a kick, and the roster that was kept after it
pub record KickLine : Type 0 where
  pub kick : ℕ
  pub roster : Rows

-- before the first kick: where the kicks begin
abbrev pub no_kick : Rows → KickLine
no_kick first = record { kick = 0; roster = first }

-- the last of some lines, or the one before them if there is none
abbrev pub last_kick : KickLine → List KickLine → KickLine
last_kick before [] = before
last_kick before (x ∷ xs) = last_kick x xs

-- later kicks, cheaper rosters
abbrev pub Falls : Meaning → KickLine → List KickLine → Type 0
Falls c before [] = Unit {0}
Falls c before (x ∷ xs) =
    (before.kick < x.kick) × (penalty c x.roster < penalty c before.roster) × Falls c x xs

-- each line's roster may be kept and is settled, and is cheaper than the one before; no kick is beyond the
-- number of kicks
pub record IsKickLog (c : Meaning) (from : ℕ) (given first : Rows) (kicks : ℕ)
    (lines : List KickLine) : Type 0 where
  pub reached : All (λ x. IsReached c from given x.roster × IsSettled c from x.roster) lines
  pub falls : Falls c (no_kick first) lines
  pub within : (last_kick (no_kick first) lines).kick ≤ kicks

-- ---- the text: a number for the given roster, then the penalties after a fade, after kicks and at the end

abbrev pub fade_line : Meaning → Rows → List ℕ
fade_line c r = line (codes "fade") (penalty c r)

abbrev pub fade_text : Meaning → Option Rows → List ℕ
fade_text c None = []
fade_text c (Some r) = fade_line c r

abbrev pub kick_line : Meaning → KickLine → List ℕ
kick_line c x = line (codes "kick " ++ decimal x.kick) (penalty c x.roster)

abbrev pub kicks_text : Meaning → ℕ → Option Rows → List KickLine → List ℕ
kicks_text c start fade lines =
    line (start_word c) start ++ (fade_text c fade ++ flat_map (kick_line c) lines)

abbrev pub last_line : Meaning → Bool → Rows → List ℕ
last_line c settled r = line (if settled then codes "settled" else codes "stopped") (penalty c r)

-- ---- the roster at a line

-- a line, and the roster that is held while it goes out
pub record LogEntry : Type 0 where
  pub text : List ℕ
  pub roster : Rows

abbrev pub fade_entry : Meaning → Option Rows → List LogEntry
fade_entry c None = []
fade_entry c (Some r) = record { text = fade_line c r; roster = r } ∷ []

abbrev pub kick_entry : Meaning → KickLine → LogEntry
kick_entry c x = record { text = kick_line c x; roster = x.roster }

abbrev pub start_entry : Meaning → ℕ → Rows → LogEntry
start_entry c start given = record { text = line (start_word c) start; roster = given }

abbrev pub last_entry : Meaning → Bool → Rows → LogEntry
last_entry c settled last = record { text = last_line c settled last; roster = last }

abbrev pub log_entries : Meaning → Rows → ℕ → Option Rows → List KickLine → Bool → Rows → List LogEntry
log_entries c given start fade lines settled last =
    start_entry c start given
    ∷ (fade_entry c fade ++ (map (kick_entry c) lines ++ last_entry c settled last ∷ []))

-- if this many bytes went out, the roster of the first line that didn't wholly go out
abbrev pub held_at : ℕ → List LogEntry → Rows → Rows
held_at sent [] r = r
held_at sent (x ∷ xs) r =
    if nat_lt sent (length x.text) then x.roster else held_at (sent - length x.text) xs r

-- ---- a run

-- from the given roster to the last, by a fade, unless kicks alone are asked for, and by kicks, from the
-- roster of the first descent; the last roster is as dear as the last line says, and settled if that is said,
-- as it surely is if the first descent came to its end; with this log
pub record IsPolishing (c : Meaning) (from : ℕ) (given : Rows) (start kicks : ℕ) (alone settled : Bool)
    (last : Rows) (text : List ℕ) : Type 0 where
  pub fade : Option Rows
  pub fadeless : alone ≡ true → fade ≡ None
  pub faded : IfSome fade (IsFaded c from given (first_run c from given).roster)
  pub lines : List KickLine
  pub is_log : IsKickLog c from given (begun fade (first_run c from given).roster) kicks lines
  pub reached : IsReached c from given last
  pub as_logged : penalty c last
      ≡ penalty c (last_kick (no_kick (begun fade (first_run c from given).roster)) lines).roster
  pub no_dearer : penalty c last ≤ penalty c given
  pub is_settled : settled ≡ true → IsSettled c from last
  pub surely : (first_run c from given).is_settled ≡ true → settled ≡ true
  pub text_is : text ≡ kicks_text c start fade lines ++ last_line c settled last

-- the last roster is no dearer than that of any line of the log, from the given one on: it is the cheapest of
-- them
abbrev pub EndsCheapest : {c : Meaning} {from start kicks : ℕ} {given last : Rows} {alone settled : Bool}
    {text : List ℕ} → IsPolishing c from given start kicks alone settled last text → Type 0
EndsCheapest {c} {from} {start} {kicks} {given} {last} {alone} {settled} {text} run =
    All (λ entry. penalty c last ≤ penalty c entry.roster)
    (log_entries c given start run.fade run.lines settled last)

-- the log of a run went out, and the answer is what it came to
pub record Polishes {W : Type 0} (contents : W → Option (List ℕ)) (c : Meaning) (from : ℕ) (given : Rows)
    (start kicks : ℕ) (alone : Bool) (after : Rows) (old new : Watched W) (logged : Polished) : Type 0 where
  pub text : List ℕ
  pub run : IsPolishing c from given start kicks alone logged.settled after text
  pub writes : Writes contents old new text
  pub total : logged.total ≡ penalty c after

-- the log begins with the penalty of the given roster
abbrev pub PolishesGiven : {W : Type 0} → (W → Option (List ℕ)) → Meaning → ℕ → Rows → ℕ → Bool → Rows
    → Watched W → Watched W → Polished → Type 0
PolishesGiven contents c from given kicks alone after old new =
    Polishes contents c from given (penalty c given) kicks alone after old new

-- only the first bytes of the log of a run went out, and the roster is that of the line at which the log
-- failed
pub record PolishLogStops {W : Type 0} (contents : W → Option (List ℕ)) (c : Meaning)
    (from : ℕ) (given : Rows) (start kicks : ℕ) (alone : Bool) (after : Rows) (old new : Watched W)
    (fault : LogFault) : Type 0 where
  pub settled : Bool
  pub last : Rows
  pub text : List ℕ
  pub run : IsPolishing c from given start kicks alone settled last text
  pub sent : ℕ
  pub stops : StopsAt contents old new text sent
  pub counted : fault ≡ LogFailed (saturated sent)
  pub held : after ≡ held_at sent (log_entries c given start run.fade run.lines settled last) given
  pub reached : IsReached c from given after

-- the log begins with the penalty of the given roster
abbrev pub GivenLogStops : {W : Type 0} → (W → Option (List ℕ)) → Meaning → ℕ → Rows → ℕ → Bool → Rows
    → Watched W → Watched W → LogFault → Type 0
GivenLogStops contents c from given kicks alone after old new =
    PolishLogStops contents c from given (penalty c given) kicks alone after old new
