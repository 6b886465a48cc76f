-- The limits of the command line.
use Rattle.std.specs.Prelude.{ℕ}

-- the most rounds that a run may be asked for
abbrev pub most_rounds : ℕ
most_rounds = 1000

-- how many branchings a lower bound may make
abbrev pub most_nodes : ℕ
most_nodes = 10000

-- the most searches that a run may be asked for
abbrev pub most_searches : ℕ
most_searches = 10000000

-- the most seconds that a run may be given: a day
abbrev pub most_seconds : ℕ
most_seconds = 86400

-- the greatest seed: one of 32 bits
abbrev pub most_seed : ℕ
most_seed = 4294967295

-- the greatest first week that may change: with it all days of the longest case are frozen
abbrev pub most_from : ℕ
most_from = 52

-- the most points that a day may cost that changes from the given roster
abbrev pub most_keep : ℕ
most_keep = 100
