-- What a run may still take (our own).
use Rattle.std.specs.Prelude.{◌≡◌, ◌≤◌, ◌⊎◌, ℕ, None, true}
use Rattle.roster_instance.specs.Meaning.{Meaning, nurse_count}
use Rattle.roster_timer.specs.Deadlines.{is_up, time_of}
use Rattle.roster_polish.specs.declared.searches.Searches.{Searches}

-- no search is left, or a reading of the clock said that the time is up
abbrev pub AreOver : {K : Type 0} → Searches K → Type 0
AreOver searches = (searches.left ≡ 0) ⊎ (is_up (time_of searches.deadline) ≡ true)

-- the clock may have been read, and no search was taken
pub record AreRead {K : Type 0} (old new : Searches K) : Type 0 where
  pub left : new.left ≡ old.left
  pub ends : new.deadline.ends ≡ old.deadline.ends

-- a fact that holds of a pass from this nurse on if it is over all nurses and nothing ends it: a search for
-- each of them is left, and there is no limit of time
abbrev pub IfEndless : {K : Type 0} → Meaning → (first : ℕ) → Searches K → Type 0 → Type 0
IfEndless c first searches fact =
    first ≡ 0 → nurse_count c ≤ searches.left → searches.deadline.ends ≡ None → fact
