-- Where tokens begin, for many positions at a time.
use Rattle.std.specs.Prelude.{ℕ, Bool, if◌then◌else◌, List, map, count_by}
use Rattle.std.specs.List.{range_with_len}
use Rattle.roster_bundle.specs.Token.{begins_at}

-- the number of tokens that begin in a range of positions
unfoldable pub starts_in : List ℕ → ℕ → ℕ → ℕ
starts_in text from places = count_by (begins_at text) (range_with_len from places)

-- for each byte all bits if it passes the test, else none
abbrev pub lanes_where : (ℕ → Bool) → List ℕ → List ℕ
lanes_where passes bytes = map (λ b. if passes b then 255 else 0) bytes
