-- The capacity of the column pool.
use Rattle.std.specs.Prelude.{◌≡◌, ℕ, ◌+◌, ◌*◌, length, slice_index}
use Rattle.roster_instance.specs.Meaning.{Meaning, day_count, nurse_count}
use Rattle.roster_slots.specs.declared.pool.ColumnPool.{ColumnPool}

-- how many rows are kept for each nurse
abbrev pub rows_per_nurse : ℕ
rows_per_nurse = 64

-- each row has an entry, and a slot for each day
pub record FitsPool (c : Meaning) (pool : ColumnPool) : Type 0 where
  pub days : pool.days ≡ day_count c
  pub entries : length pool.entries.items ≡ rows_per_nurse * nurse_count c
  pub slots : length pool.slots.items ≡ length pool.entries.items * day_count c

-- the slot of a row on a day
abbrev pub pooled_slot : ColumnPool → (at d : ℕ) → ℕ
pooled_slot pool at d = slice_index pool.slots.items (at * pool.days + d)
