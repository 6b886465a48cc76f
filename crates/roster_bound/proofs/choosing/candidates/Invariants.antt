use Rattle.std.proofs.Common.{◌≡◌, ℕ, ◌<◌, length}
use Rattle.roster_instance.specs.Meaning.{day_count}
use Rattle.roster_bound.specs.PooledUses.{AgreeOn}
use Rattle.roster_bound.proofs.choosing.candidates.Given as goal

abbrev pub invariant-loop-nurse : goal.invariant-loop-nurse
invariant-loop-nurse l =
    length l.found.items ≡ 0 → (n d : ℕ) → n < l.nurse → d < day_count l.case → AgreeOn l.pool l.uses n d

abbrev pub invariant-loop-day : goal.invariant-loop-day
invariant-loop-day l = record {
  before : length l.found.items ≡ 0 → (n d : ℕ) → n < l.nurse → d < day_count l.case → AgreeOn l.pool l.uses n d;
  here : length l.found.items ≡ 0 → (d : ℕ) → d < l.day → AgreeOn l.pool l.uses l.nurse d;
}
