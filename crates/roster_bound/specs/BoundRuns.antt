-- A run that raises a lower bound: one whose log a writer took, and one at whose log it stopped. `counted` is
-- what the meter had counted before the run, and `counted_after` what it had counted then (our own).
use Rattle.std.specs.Prelude.{◌≡◌, ◌≤◌, ℕ, List, Option, false}
use Rattle.roster_text.specs.Io.{Sends, StopsAt, Watched, Writes, saturated}
use Rattle.roster_instance.specs.Meaning.{Meaning}
use Rattle.roster_instance.specs.Rosters.{Rows}
use Rattle.roster_reports.specs.declared.log_fault.LogFault.{LogFault}
use Rattle.roster_reports.specs.declared.log_fault.LogFault.TheVariants.{LogFailed}
use Rattle.roster_timer.specs.Deadlines.{is_up, time_of}
use Rattle.roster_timer.specs.declared.deadline.Deadline.{Deadline}
use Rattle.roster_bound.specs.declared.effort.Effort.{Effort}
use Rattle.roster_bound.specs.declared.effort.Reached.{Reached}
use Rattle.roster_bound.specs.BoundLogs.{BoundLine, IsBoundLog, bound_log_text, last_line, no_line}
use Rattle.roster_bound.specs.Rounds.{AreLinesOfRounds, CountsRounds}

-- the log of some lower bounds was sent, in this many bytes, and the last of them was reached
pub record HasReached {W : Type 0} (contents : W → Option (List ℕ)) (c : Meaning) (from : ℕ) (given : Rows)
    (effort : Effort) (counted counted_after : ℕ) (old new : Watched W) (reached : Reached) : Type 0 where
  pub lines : List BoundLine
  pub is_log : IsBoundLog c from given effort lines
  pub rounds : CountsRounds c from given effort.rounds counted counted_after lines
  pub sends : Sends contents old new 0 reached.sent (bound_log_text c given lines)
  pub bound_is : reached.bound ≡ (last_line no_line lines).bound

-- the rounds and branchings that were made, or that would have ended the run all the same: those that were
-- asked for, unless a reading of the clock said that the time is up
pub record IsMadeOf {K : Type 0} (asked : Effort) (deadline : Deadline K) (made : Effort) : Type 0 where
  pub rounds : made.rounds ≤ asked.rounds
  pub nodes : made.nodes ≤ asked.nodes
  pub all : is_up (time_of deadline) ≡ false → made ≡ asked

-- the log of some lower bounds went out, and the answer is the last of them
pub record RaisesBound {W : Type 0} (contents : W → Option (List ℕ)) (c : Meaning) (from : ℕ) (given : Rows)
    (effort : Effort) (counted counted_after : ℕ) (old new : Watched W) (bound : ℕ) : Type 0 where
  pub lines : List BoundLine
  pub is_log : IsBoundLog c from given effort lines
  pub rounds : CountsRounds c from given effort.rounds counted counted_after lines
  pub writes : Writes contents old new (bound_log_text c given lines)
  pub bound_is : bound ≡ (last_line no_line lines).bound

-- only the first bytes of the log of some lower bounds went out; which lines would have come after the one
-- that broke off isn't stated
pub record BoundLogStops {W : Type 0} (contents : W → Option (List ℕ)) (c : Meaning) (from : ℕ) (given : Rows)
    (effort : Effort) (old new : Watched W) (fault : LogFault) : Type 0 where
  pub lines : List BoundLine
  pub is_log : IsBoundLog c from given effort lines
  pub rounds : AreLinesOfRounds c from given effort.rounds lines
  pub sent : ℕ
  pub stops : StopsAt contents old new (bound_log_text c given lines) sent
  pub counted : fault ≡ LogFailed (saturated sent)
