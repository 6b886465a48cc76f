-- What a run shows of its rosters while it goes on: each was reported by its log (our own).
use Rattle.std.specs.Prelude.{◌≡◌, ℕ, All, Bool, true, false, List, [], ◌∷◌, Option}
use Rattle.roster_text.specs.Io.{Sends, Watched}
use Rattle.roster_instance.specs.Meaning.{Meaning}
use Rattle.roster_instance.specs.Rosters.{Rows}
use Rattle.roster_rules.specs.Penalties.{penalty}
use Rattle.roster_polish.specs.Polished.{IsReached, KickLine, begun, kicks_text, last_kick, no_kick}

-- a roster is as dear as the last line says, or the given one if there is none but the first
abbrev pub IsAsDear : Meaning → (given : Rows) → Option Rows → List KickLine → Rows → Type 0
IsAsDear c given fade lines r =
    penalty c r ≡ penalty c (last_kick (no_kick (begun fade given)) lines).roster

-- A run may keep the roster, and the last of the lines that had gone out when the log was as in `met` reports
-- one that is as dear.
pub record IsReported {W : Type 0} (contents : W → Option (List ℕ)) (c : Meaning) (from : ℕ)
    (given : Rows) (start : ℕ) (old : Watched W) (r : Rows) : Type 0 where
  pub fade : Option Rows
  pub lines : List KickLine
  pub met : Watched W
  pub sent : ℕ
  pub sends : Sends contents old met 0 sent (kicks_text c start fade lines)
  pub reached : IsReached c from given r
  pub as_dear : IsAsDear c given fade lines r

-- these rosters were shown, one after the other
abbrev pub SawAll : {S : Type 0} → (S → Meaning → Rows → S → Type 0) → Meaning → List Rows → S → S → Type 0
SawAll saw c [] saver after = after ≡ saver
SawAll {S} saw c (r ∷ rs) saver after = (next : S) × saw saver c r next × SawAll saw c rs next after

-- each roster that was shown is reported: none was shown before its line went out
pub record SawOnlyReported {W S : Type 0} (contents : W → Option (List ℕ))
    (saw : S → Meaning → Rows → S → Type 0) (c : Meaning) (from : ℕ) (given : Rows) (start : ℕ)
    (old : Watched W) (saver after : S) : Type 0 where
  pub rosters : List Rows
  pub reported : All (IsReported contents c from given start old) rosters
  pub all : SawAll saw c rosters saver after

-- the roster was shown, or else nothing was
abbrev pub IsShownIf : {S : Type 0} → (S → Meaning → Rows → S → Type 0) → Meaning → Rows → Bool → S → S
    → Type 0
IsShownIf saw c r true saver after = saw saver c r after
IsShownIf saw c r false saver after = after ≡ saver
