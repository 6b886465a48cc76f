-- The limits of the texts (our profile).
use Rattle.std.specs.Prelude.{ℕ}

-- the most bytes of an input
abbrev pub most_bytes : ℕ
most_bytes = 16777216

-- the greatest number in a pair, a contract or a history line, and the greatest number of a week
abbrev pub most_small : ℕ
most_small = 999

-- the most items that a count announces
abbrev pub most_counted : ℕ
most_counted = 99999

-- the greatest number of 64 bits
abbrev pub greatest_u64 : ℕ
greatest_u64 = 18446744073709551615
