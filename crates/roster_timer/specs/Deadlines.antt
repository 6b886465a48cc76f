-- When the time of a run is up (our own).
use Rattle.std.specs.Prelude.{◌≡◌, ◌+◌, ◌-◌, ◌*◌, ◌^◌, ◌≤◌, ℕ, Bool, false, min, nat_le, option_map, Option, None, Some}
use Rattle.roster_timer.specs.declared.deadline.Deadline.{Deadline}

-- when it ends, if it does; the last reading of the clock; and how long a step of the run took at most
pub record Time : Type 0 where
  pub ends : Option ℕ
  pub last : ℕ
  pub step : ℕ

abbrev pub time_of : {K : Type 0} → Deadline K → Time
time_of d = record { ends = d.ends; last = d.last; step = d.step }

-- the end of a time that begins at a reading and lasts that many seconds, if a number is given
abbrev pub ends_after : (reading : ℕ) → (seconds : Option ℕ) → Option ℕ
ends_after reading = option_map (λ s. min (reading + s * 1000000) (2 ^ 64 - 1))

-- by the last reading, less is left than a step takes
abbrev pub is_at_end : Option ℕ → (last step : ℕ) → Bool
is_at_end None last step = false
is_at_end (Some ends) last step = nat_le ends (last + step)

abbrev pub is_up : Time → Bool
is_up t = is_at_end t.ends t.last t.step

-- the clock may have been read: the end stays, the last reading is no earlier, and no step is shorter
pub record IsLater (old new : Time) : Type 0 where
  pub ends : new.ends ≡ old.ends
  pub last : old.last ≤ new.last
  pub step : old.step ≤ new.step
