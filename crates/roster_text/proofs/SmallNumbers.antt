-- A bundle that is spelled has small numbers, since each number of its patterns is within the pattern's
-- limit.
use Rattle.std.proofs.Common.{◌≤◌, List, [], ◌∷◌, ◌++◌, All, codes}
use Rattle.std.specs.List.{flat_map}
use Rattle.std.proofs.lemmas.List.Elements.{All-cons, All-nil}
use Rattle.roster_bundle.specs.declared.bundle.Bundle.{Bundle}
use Rattle.roster_bundle.specs.declared.bundle.Contract.{Contract}
use Rattle.roster_bundle.specs.declared.bundle.History.{History}
use Rattle.roster_bundle.specs.declared.bundle.Listed.{Listed}
use Rattle.roster_bundle.specs.declared.bundle.NurseHistory.{NurseHistory}
use Rattle.roster_bundle.specs.declared.bundle.Pair.{Pair}
use Rattle.roster_bundle.specs.declared.bundle.Requirement.{Requirement}
use Rattle.roster_bundle.specs.declared.bundle.Scenario.{Scenario}
use Rattle.roster_bundle.specs.declared.bundle.ShiftType.{ShiftType}
use Rattle.roster_bundle.specs.declared.bundle.WeekData.{WeekData}
use Rattle.roster_bundle.specs.declared.bundle.WeekPairs.{WeekPairs}
use Rattle.roster_text.specs.declared.fault.Keyword.{Keyword}
use Rattle.roster_text.specs.declared.fault.Keyword.TheVariants as keyword
use Rattle.roster_text.specs.declared.fault.What.TheVariants as what
use Rattle.roster_text.specs.Words.{keyword_text}
use Rattle.roster_bundle.specs.Token.{Seen}
use Rattle.roster_text.specs.Grammar as grammar
use Rattle.roster_text.specs.Grammar.{Fits, Pattern, Spelled, Spells, day, fixed, name, number, parts, placed}
use Rattle.roster_bundle.specs.SmallNumbers.{AreSmallNeeds, AreSmallPairs, IsSmallContract, IsSmallLine, IsSmallPair, SaysSmallNumbers}
use Rattle.roster_bundle.specs.Limits.{most_counted, most_small}

-- ---- patterns

-- the number of a pattern is within its limit
abbrev IsWithin : Pattern → Type 0
IsWithin (fixed due text) = Unit {0}
IsWithin (name n) = Unit {0}
IsWithin (number limit n) = n ≤ limit
IsWithin (placed token limit n) = n ≤ limit
IsWithin (day d) = Unit {0}

abbrev AreWithin : List Pattern → Type 0
AreWithin [] = Unit {0}
AreWithin (p ∷ ps) = IsWithin p × AreWithin ps

-- a pattern that a token fits is within its limit
fits_within : (p : Pattern) (t : Seen) → Fits p t → IsWithin p
fits_within (fixed due text) t f = tt
fits_within (name n) t f = tt
fits_within (number limit n) t f = f.2
fits_within (placed token limit n) t f = f.2
fits_within (day d) t f = tt

spelled_within : (ps : List Pattern) (ts : List Seen) → Spelled ps ts → AreWithin ps
spelled_within [] ts s = tt
spelled_within (p ∷ ps) [] s = absurd s
spelled_within (p ∷ ps) (t ∷ ts) s = (fits_within p t s.0, spelled_within ps ts s.1)

-- ---- lists of patterns

both_within : (ps qs : List Pattern) → AreWithin (ps ++ qs) → AreWithin ps × AreWithin qs
both_within [] qs w = (tt, w)
both_within (p ∷ ps) qs w = let later = both_within ps qs w.1 in ((w.0, later.0), later.1)

-- each list of patterns is within its limits
abbrev EachWithin : List (List Pattern) → Type 0
EachWithin [] = Unit {0}
EachWithin (ps ∷ pieces) = AreWithin ps × EachWithin pieces

parts_within : (pieces : List (List Pattern)) → AreWithin (parts pieces) → EachWithin pieces
parts_within [] w = tt
parts_within (ps ∷ pieces) w = let both = both_within ps (parts pieces) w in (both.0, parts_within pieces both.1)

-- a property that follows from the patterns of each item holds of all items
items_within : {T : Type 0} (P : T → Type 0) (pat : T → List Pattern) → ((x : T) → AreWithin (pat x) → P x) → (xs : List T) → AreWithin (flat_map pat xs) → All P xs
items_within P pat item [] w = All-nil P
items_within P pat item (x ∷ xs) w =
    let both = both_within (pat x) (flat_map pat xs) w in
    All-cons P x xs (item x both.0) (items_within P pat item xs both.1)

-- ---- the sections of a bundle

small_pair : (p : Pair) → AreWithin (grammar.pair p) → IsSmallPair p
small_pair p w = record { least = w.1.0; greatest = w.1.1.1.0 }

small_run : (s : ShiftType) → AreWithin (grammar.shift_type s) → IsSmallPair s.run
small_run s w = small_pair s.run (parts_within (grammar.named s.name ∷ grammar.pair s.run ∷ []) w).1.0

small_contract : (c : Contract) → AreWithin (grammar.contract c) → IsSmallContract c
small_contract c w =
    let each = parts_within (grammar.named c.name ∷ grammar.pair c.total ∷ grammar.pair c.working ∷ grammar.pair c.free ∷ grammar.small c.weekends ∷ (number 1 c.complete_weekends ∷ []) ∷ []) w in
    record {
      total = small_pair c.total each.1.0;
      working = small_pair c.working each.1.1.0;
      free = small_pair c.free each.1.1.1.0;
      weekends = each.1.1.1.1.0.0;
    }

small_line : (h : NurseHistory) → AreWithin (grammar.nurse_history h) → IsSmallLine h
small_line h w = record { assignments = w.1.0; weekends = w.1.1.0; shift_run = w.1.1.1.1.0; working_run = w.1.1.1.1.1.0; free_run = w.1.1.1.1.1.1.0 }

small_pairs : (d : WeekPairs) → AreWithin (grammar.week_pairs d) → AreSmallPairs d
small_pairs d w =
    let each = parts_within (grammar.pair d.monday ∷ grammar.pair d.tuesday ∷ grammar.pair d.wednesday ∷ grammar.pair d.thursday ∷ grammar.pair d.friday ∷ grammar.pair d.saturday ∷ grammar.pair d.sunday ∷ []) w in
    record {
      monday = small_pair d.monday each.0;
      tuesday = small_pair d.tuesday each.1.0;
      wednesday = small_pair d.wednesday each.1.1.0;
      thursday = small_pair d.thursday each.1.1.1.0;
      friday = small_pair d.friday each.1.1.1.1.0;
      saturday = small_pair d.saturday each.1.1.1.1.1.0;
      sunday = small_pair d.sunday each.1.1.1.1.1.1.0;
    }

small_requirement : (r : Requirement) → AreWithin (grammar.requirement r) → AreSmallPairs r.days
small_requirement r w = small_pairs r.days (parts_within (grammar.named r.shift ∷ grammar.named r.skill ∷ grammar.week_pairs r.days ∷ []) w).1.1.0

-- of the items of a section: first without its keyword and `=`, then with them
rest_within : {T : Type 0} (P : T → Type 0) (pat : T → List Pattern) → ((x : T) → AreWithin (pat x) → P x) → (xs : Listed T) → AreWithin (grammar.rest_of_section pat xs) → All P xs.items
rest_within P pat item xs w = items_within P pat item xs.items (parts_within (flat_map pat xs.items ∷ []) w.1).0

section_within : {T : Type 0} (P : T → Type 0) (k : Keyword) (pat : T → List Pattern) → ((x : T) → AreWithin (pat x) → P x) → (xs : Listed T) → AreWithin (grammar.section k pat xs) → All P xs.items
section_within P k pat item xs w = rest_within P pat item xs w.1.1

needs_within : (after : Keyword) (w : WeekData) → AreWithin (grammar.week_data after w) → AreSmallNeeds w
needs_within after w within =
    let each = parts_within (
    grammar.key keyword.WeekData ∷ grammar.named w.scenario
    ∷ grammar.key keyword.Requirements ∷ grammar.lines_until keyword.ShiftOffRequests what.Name grammar.requirement w.requirements
    ∷ grammar.rest_of_section grammar.request w.off_requests
    ∷ grammar.optional_section keyword.ShiftOnRequests after grammar.request w.on_requests
    ∷ grammar.optional_section keyword.Absences after grammar.nurse_day w.absences
    ∷ grammar.optional_section keyword.Fixed after grammar.nurse_day w.fixed_days ∷ []) within in
    let ended = parts_within (flat_map grammar.requirement w.requirements ∷ (fixed what.Name (keyword_text keyword.ShiftOffRequests) ∷ fixed what.Name (codes "=") ∷ []) ∷ []) each.1.1.1.0 in
    items_within (λ (r : Requirement). AreSmallPairs r.days) grammar.requirement small_requirement w.requirements ended.0

weeks_within : (ws : List WeekData) → AreWithin (grammar.weeks ws) → All AreSmallNeeds ws
weeks_within [] w = All-nil AreSmallNeeds
weeks_within (x ∷ later) w =
    let both = both_within (grammar.week_data (grammar.after_week later) x) (grammar.weeks later) w in
    All-cons AreSmallNeeds x later (needs_within (grammar.after_week later) x both.0) (weeks_within later both.1)

-- ---- the bundle

-- the shifts and the contracts of a scenario
scenario_within : (s : Scenario) → AreWithin (grammar.scenario s) → All (λ (t : ShiftType). IsSmallPair t.run) s.shifts.items × All IsSmallContract s.contracts.items
scenario_within s w =
    let each = parts_within (
    grammar.key keyword.Scenario ∷ grammar.equals ∷ grammar.named s.name
    ∷ grammar.key keyword.Weeks ∷ grammar.equals ∷ (placed s.weeks.token most_counted s.weeks.value ∷ [])
    ∷ grammar.section keyword.Skills grammar.named s.skills
    ∷ grammar.section keyword.ShiftTypes grammar.shift_type s.shifts
    ∷ grammar.key keyword.Successions ∷ grammar.lines_until keyword.Contracts what.Number grammar.succession s.successions
    ∷ grammar.rest_of_section grammar.contract s.contracts
    ∷ grammar.section keyword.Nurses grammar.nurse s.nurses ∷ []) w in
    let shifts = each.1.1.1.1.1.1.1 in (
      section_within (λ (t : ShiftType). IsSmallPair t.run) keyword.ShiftTypes grammar.shift_type small_run s.shifts shifts.0,
      rest_within IsSmallContract grammar.contract small_contract s.contracts shifts.1.1.1.0,
    )

history_within : (h : History) → AreWithin (grammar.history h) → All IsSmallLine h.nurses
history_within h w =
    let each = parts_within (
    grammar.key keyword.History ∷ (placed h.week.token most_small h.week.value ∷ []) ∷ grammar.named h.scenario
    ∷ grammar.key keyword.NurseHistory ∷ flat_map grammar.nurse_history h.nurses ∷ []) w in
    items_within IsSmallLine grammar.nurse_history small_line h.nurses each.1.1.1.1.0

pub small_numbers : (ts : List Seen) (b : Bundle) → Spells ts b → SaysSmallNumbers b
small_numbers ts b s =
    let each = parts_within (
    grammar.scenario b.scenario ∷ grammar.history b.history
    ∷ grammar.weeks b.week_data ∷ flat_map grammar.solution b.solutions ∷ []) (spelled_within (grammar.bundle b) ts s.fits) in
    let scenario = scenario_within b.scenario each.0 in
    record {
      runs = scenario.0;
      contracts = scenario.1;
      history = history_within b.history each.1.0;
      needs = weeks_within b.week_data each.1.1.0;
    }
