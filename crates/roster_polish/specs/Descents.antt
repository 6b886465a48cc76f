-- A descent, and which roster stays after it (our own).
use Rattle.std.specs.Prelude.{◌≡◌, ◌≢◌, ℕ, ◌+◌, ◌⊎◌, ◌<◌, ◌≤◌, ◌&&◌, Bool, false, true, Contains, List, nat_le, nat_lt}
use Rattle.std.specs.List.{fold, range_with_len}
use Rattle.roster_bundle.specs.Limits.{greatest_u64}
use Rattle.roster_instance.specs.Meaning.{Meaning, nurse_count}
use Rattle.roster_instance.specs.Rosters.{Rows}
use Rattle.roster_rules.specs.AllowedRows.{best_row}
use Rattle.roster_rules.specs.HardRules.{keeps_hard}
use Rattle.roster_rules.specs.Improver.{step}
use Rattle.roster_rules.specs.Penalties.{penalty}
use Rattle.roster_laws.specs.FrozenDays.{FrozenDaysStay}
use Rattle.roster_polish.specs.Budgets.{AreOver}
use Rattle.roster_polish.specs.declared.searches.Searches.{Searches}
use Rattle.roster_polish.specs.declared.descend.Pass.{Pass}
use Rattle.roster_polish.specs.declared.descend.Pass.TheVariants.{Stopped}
use Rattle.roster_polish.specs.Polished.{descent_rounds}
use Rattle.roster_polish.specs.Settled.{IsSettled}

-- ---- a descent

-- the steps of these nurses, one after another, lead from one roster to another
abbrev pub LeadTo : Meaning → (from : ℕ) → (nurses : List ℕ) → (before after : Rows) → Type 0
LeadTo c from nurses before after = after ≡ fold (step c (best_row c from)) before nurses

-- a pass from the nurse `first` on: the steps of nurses in their order, and of all of them if searches are
-- left
pub record IsPass (c : Meaning) (from first : ℕ) (before after : Rows) (end : Pass) : Type 0 where
  pub count : ℕ
  pub steps : LeadTo c from (range_with_len first count) before after
  pub all : first ≡ 0 → end ≢ Stopped → count ≡ nurse_count c

-- each nurse is among these
abbrev pub AreAllNurses : Meaning → (nurses : List ℕ) → Type 0
AreAllNurses c nurses = (n : ℕ) → n < nurse_count c → Contains nurses n

-- why a descent with the steps of these nurses is given up: no search is left, or no time, or each nurse had
-- a step and the roster is dearer than is asked, or it was so dear that all rounds may not be enough
abbrev pub IsGivenUp : {K : Type 0} → Meaning → (nurses : List ℕ) → (aim : ℕ) → Searches K
    → (before after : Rows) → Type 0
IsGivenUp c nurses aim searches before after =
    AreOver searches ⊎ (AreAllNurses c nurses × (aim < penalty c after))
    ⊎ (descent_rounds ≤ penalty c before + 1)

-- a descent from one roster to another, which is settled unless the descent was given up; `aim` is the
-- penalty that is asked, and the searches are those that are left after it
pub record Descends {K : Type 0} (c : Meaning) (from aim : ℕ) (searches : Searches K)
    (before after : Rows) (settled : Bool) : Type 0 where
  pub nurses : List ℕ
  pub steps : LeadTo c from nurses before after
  pub is_settled : settled ≡ true → IsSettled c from after
  pub given_up : settled ≡ false → IsGivenUp c nurses aim searches before after

-- ---- which roster stays

-- a changed roster stays exactly if a descent leads from it to a settled one that is no dearer than is asked,
-- and that one is then held
pub record StaysIfNoDearer {K : Type 0} (c : Meaning) (from aim : ℕ) (searches : Searches K)
    (changed held : Rows) (result : Bool) : Type 0 where
  pub reached : Rows
  pub settled : Bool
  pub descends : Descends c from aim searches changed reached settled
  pub stays : result ≡ (settled && nat_le (penalty c reached) aim)
  pub holds : result ≡ true → held ≡ reached

-- a kick made another roster of the given one, with its frozen days, which stays exactly if it is no dearer
-- after a descent
pub record KickStays {K : Type 0} (c : Meaning) (from : ℕ) (searches : Searches K) (given held : Rows)
    (result : Bool) : Type 0 where
  pub kicked : Rows
  pub frozen : FrozenDaysStay c from given kicked
  pub stays : StaysIfNoDearer c from (penalty c given) searches kicked held result

-- faded rows that keep the hard rules stay exactly if they are no dearer after a descent
abbrev pub FadeStays : {K : Type 0} → Meaning → (from : ℕ) → Searches K → (given faded held : Rows)
    → (result : Bool) → Type 0
FadeStays c from searches given faded held result =
    keeps_hard c faded ≡ true → StaysIfNoDearer c from (penalty c given) searches faded held result

-- rows were faded, and a descent was made from them, however dear they are, if they keep the hard rules; the
-- result says whether its end is settled
pub record IsFadedAnew {K : Type 0} (c : Meaning) (from : ℕ) (searches : Searches K)
    (given faded held : Rows) (result : Bool) : Type 0 where
  pub frozen : FrozenDaysStay c from given faded
  pub keeps : result ≡ true → keeps_hard c faded ≡ true
  pub descends : keeps_hard c faded ≡ true → Descends c from greatest_u64 searches faded held result

-- the same, and if its end is settled, neighbourhoods were searched from there on
pub record IsSearchedOn {K : Type 0} (c : Meaning) (from : ℕ) (searches : Searches K) (given held : Rows)
    (result : Bool) : Type 0 where
  pub faded : Rows
  pub reached : Rows
  pub fades : IsFadedAnew c from searches given faded reached result
  pub no_dearer : result ≡ true → penalty c held ≤ penalty c reached

-- what another fade of the given roster, and the searches after it, end with stays exactly if it is settled
-- and cheaper
pub record StaysIfCheaper {K : Type 0} (c : Meaning) (from : ℕ) (searches : Searches K)
    (given held : Rows) (result : Bool) : Type 0 where
  pub last : Rows
  pub settled : Bool
  pub searched : IsSearchedOn c from searches given last settled
  pub stays : result ≡ (settled && nat_lt (penalty c last) (penalty c given))
  pub holds : result ≡ true → held ≡ last
