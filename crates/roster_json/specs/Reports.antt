-- The reports as JSON, one object a line.
use Rattle.std.specs.Prelude.{ℕ, ◌*◌, ◌++◌, ◌∷◌, Bool, [], codes, flat_map}
use Rattle.std.specs.List.{range_with_len}
use Rattle.roster_instance.specs.Meaning.{Meaning, day_count, nurse_count, nurse_name}
use Rattle.roster_instance.specs.Rosters.{Rows}
use Rattle.roster_instance.specs.Sizes.{choice_count, state_count}
use Rattle.roster_rules.specs.HardRules.{hard_faults, keeps_hard}
use Rattle.roster_rules.specs.Penalties.{costs_of, total_cost}
use Rattle.roster_rules.specs.declared.penalties.Costs.{Costs}
use Rattle.roster_reports.specs.Lines.{Text}
use Rattle.roster_json.specs.Json.{name, number, object_line, truth}
use Rattle.roster_json.specs.Breaches.{breaches_text}

-- ---- `cost`

-- what a roster costs by each soft rule and in all, and whether it keeps the hard rules
abbrev pub costs_line : Bool → Costs → Text
costs_line allowed k =
    object_line (codes "costs")
    (truth (codes "allowed") allowed ∷ number (codes "S1") k.s1 ∷ number (codes "S2") k.s2
    ∷ number (codes "S3") k.s3 ∷ number (codes "S4") k.s4 ∷ number (codes "S5") k.s5
    ∷ number (codes "S6") k.s6 ∷ number (codes "S7") k.s7 ∷ number (codes "S8") k.s8
    ∷ number (codes "total") (total_cost k) ∷ [])

-- a line for each breach of the hard rules, and the line of the costs
unfoldable pub json_cost : Meaning → Rows → Text
json_cost c r = breaches_text c (hard_faults c r) ++ costs_line (keeps_hard c r) (costs_of c r)

-- ---- `sizes`

-- a search with these numbers of states, of days and of choices a day: its states, labels in two tables,
-- pointers, and extensions at most
abbrev pub search_line : ℕ → Text → ℕ → ℕ → ℕ → Text
search_line nurse nurse_name states days choices =
    object_line (codes "sizes")
    (number (codes "nurse") nurse ∷ name (codes "nurse_name") nurse_name ∷ number (codes "states") states
    ∷ number (codes "labels") (2 * states) ∷ number (codes "pointers") (states * days)
    ∷ number (codes "extensions") (states * days * choices) ∷ [])

-- the search for a nurse
abbrev pub size_line : Meaning → ℕ → Text
size_line c n = search_line n (nurse_name c n) (state_count c n) (day_count c) (choice_count c n)

-- a line for each nurse, in the order of the scenario
unfoldable pub json_sizes : Meaning → Text
json_sizes c = flat_map (size_line c) (range_with_len 0 (nurse_count c))

-- ---- `who`

-- a nurse who may take an assignment: what the roster costs with her row, on how many days that row has
-- another choice, and by how many nurses the roster with it is short of its minimums
abbrev pub json_taker : Meaning → (nurse penalty changed missed : ℕ) → Text
json_taker c nurse penalty changed missed =
    object_line (codes "taker")
    (number (codes "nurse") nurse ∷ name (codes "nurse_name") (nurse_name c nurse)
    ∷ number (codes "penalty") penalty ∷ number (codes "changed") changed
    ∷ number (codes "missed") missed ∷ [])
