-- Tables with a cell for each index, filled by the first item that has this index. An item may have none.
use Rattle.std.specs.Prelude.{ℕ, Bool, false, ◌==◌, List, map, find, Option, option_map}
use Rattle.std.specs.List.{range_with_len}
use Rattle.std.specs.Option.{option_map_or}

-- the index is p
abbrev pub is_at : ℕ → Option ℕ → Bool
is_at p index = option_map_or (λ q. q == p) index false

-- the first item with an index
abbrev pub item_at : {A : Type 0} → (A → Option ℕ) → ℕ → List A → Option A
item_at index p items = find (λ item. is_at p (index item)) items

-- for each of n indices what its first item says
unfoldable pub table_of : {A V : Type 0} → (A → Option ℕ) → (A → V) → ℕ → List A → List (Option V)
table_of index says n items = map (λ p. option_map says (item_at index p items)) (range_with_len 0 n)
