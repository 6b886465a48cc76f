-- A case whose bundle has small numbers has small numbers.
use Rattle.std.proofs.Common.{◌≤◌, ℕ, zero, suc, Bool, true, false, List, [], ◌∷◌, All, IfSome, Option, Some, None, arith, codes, cond, get_or, lit≤, map}
use Rattle.std.specs.Prelude.{find, option_map, unwrap_or}
use Rattle.std.specs.Option.{option_map_or}
use Rattle.std.specs.List.{range_with_len}
use Rattle.std.proofs.lemmas.List.Elements.{All-head, All-tail}
use Rattle.roster_bundle.specs.SmallNumbers.{AreSmallNeeds, AreSmallPairs, IsSmallContract, IsSmallLine, IsSmallPair, SaysSmallNumbers}
use Rattle.roster_bundle.specs.declared.bundle.Bundle.{Bundle}
use Rattle.roster_bundle.specs.declared.bundle.Contract.{Contract}
use Rattle.roster_bundle.specs.declared.bundle.NurseHistory.{NurseHistory}
use Rattle.roster_bundle.specs.declared.bundle.Pair.{Pair}
use Rattle.roster_bundle.specs.declared.bundle.Requirement.{Requirement}
use Rattle.roster_bundle.specs.declared.bundle.ShiftType.{ShiftType}
use Rattle.roster_bundle.specs.declared.bundle.WeekData.{WeekData}
use Rattle.roster_bundle.specs.declared.bundle.WeekPairs.{WeekPairs}
use Rattle.roster_instance.specs.declared.rules.Border.TheVariants.{Free, Working}
use Rattle.roster_instance.specs.declared.rules.Need.{Need}
use Rattle.roster_instance.specs.declared.rules.Past.{Past}
use Rattle.roster_instance.specs.Bundles.{Names, border_meant, contract_meant, limits_of, line_meant, meaning_of, need_of, needs_of_week, index_of_need, shift_named, week_meant}
use Rattle.roster_instance.specs.Limits.{most_keep}
use Rattle.roster_instance.specs.Meaning.{Meaning, WeekFacts, no_contract, no_limits, no_need, no_past, no_week}
use Rattle.roster_instance.specs.Names.{found, nurse_names, reads, shift_names, skill_names}
use Rattle.roster_instance.specs.Rosters.{Rows}
use Rattle.roster_instance.specs.Small.{AreSmall, HasSmallNumbers, HasSmallRules, IsSmallBorder, IsSmallNeed, IsSmallPast}
use Rattle.roster_instance.specs.Tables.{item_at, table_of}
use Rattle.roster_instance.proofs.FitLemmas.{get_or_of_map}

-- ---- lists and tables

-- an element of a list that is made item by item
get_or_of_items : {X Y : Type 0} (Q : X → Type 0) (P : Y → Type 0) (f : X → Y) (d : Y) → P d → ((x : X) → Q x → P (f x)) → (xs : List X) → All Q xs → (i : ℕ) → P (get_or (map f xs) i d)
get_or_of_items Q P f d none each [] all i = none
get_or_of_items Q P f d none each (x ∷ xs) all zero = each x (All-head Q x xs all)
get_or_of_items Q P f d none each (x ∷ xs) all (suc i) = get_or_of_items Q P f d none each xs (All-tail Q x xs all) i

find_of_items : {X : Type 0} (Q : X → Type 0) (test : X → Bool) (xs : List X) → All Q xs → IfSome (find test xs) Q
find_of_items Q test [] all = tt
find_of_items Q test (x ∷ xs) all = go (test x) (find_of_items Q test xs (All-tail Q x xs all))
  where
    go : (b : Bool) → IfSome (find test xs) Q → IfSome (cond b (Some x) (find test xs)) Q
    go true later = All-head Q x xs all
    go false later = later

said_of : {X Y : Type 0} (Q : X → Type 0) (P : Y → Type 0) (says : X → Y) → ((x : X) → Q x → P (says x)) → (o : Option X) → IfSome o Q → IfSome (option_map says o) P
said_of Q P says each None has = tt
said_of Q P says each (Some x) has = each x has

-- a cell of a table
cell_of_items : {X Y : Type 0} (Q : X → Type 0) (P : Y → Type 0) (index : X → Option ℕ) (says : X → Y) (n : ℕ) → ((x : X) → Q x → P (says x)) → (xs : List X) → All Q xs → (k : ℕ) → IfSome (get_or (table_of index says n xs) k None) P
unfolding table_of
cell_of_items Q P index says n each xs all k =
    get_or_of_map (λ cell. IfSome cell P) (λ p. option_map says (item_at index p xs)) None (range_with_len 0 n) k tt
    (λ p. said_of Q P says each (item_at index p xs) (find_of_items Q _ xs all))

-- ---- the numbers of each section

limits_small : (p : Pair) → IsSmallPair p → AreSmall (limits_of p)
limits_small p small = record { least = small.least; greatest = small.greatest }

-- the default limits (0,0) are small
none_small : AreSmall no_limits
none_small = record { least = omega arith; greatest = omega arith }

need_small : (p : Pair) → IsSmallPair p → IsSmallNeed (need_of p)
need_small p small = record { minimum = small.least; optimum = small.greatest }

no_need_small : IsSmallNeed no_need
no_need_small = record { minimum = omega arith; optimum = omega arith }

contract_small : (c : Contract) → IsSmallContract c → HasSmallRules (contract_meant c)
contract_small c small = record {
  total = limits_small c.total small.total;
  working = limits_small c.working small.working;
  free = limits_small c.free small.free;
  weekends = small.weekends;
}

no_contract_small : HasSmallRules no_contract
no_contract_small = record { total = none_small; working = none_small; free = none_small; weekends = omega arith }

border_small : (source : List ℕ) (shifts : Names) (h : NurseHistory) → IsSmallLine h → IsSmallBorder (border_meant source shifts h)
border_small source shifts h small = go (reads source (codes "None") h.last_shift)
  where
    go : (b : Bool) → IsSmallBorder (cond b (Free h.free_run) (Working (shift_named source shifts h.last_shift) h.shift_run h.working_run))
    go true = small.free_run
    go false = (small.shift_run, small.working_run)

line_small : (source : List ℕ) (shifts : Names) (h : NurseHistory) → IsSmallLine h → IsSmallPast (line_meant source shifts h)
line_small source shifts h small = record { border = border_small source shifts h small; assignments = small.assignments; weekends = small.weekends }

-- the past in a cell, or that of a nurse without a line
past_small : (cell : Option Past) → IfSome cell IsSmallPast → IsSmallPast (unwrap_or cell no_past)
past_small None small = record { border = omega arith; assignments = omega arith; weekends = omega arith }
past_small (Some past) small = small

-- the seven days of a week, by number
abbrev AreSmallDays : List Need → Type 0
AreSmallDays days = (w : ℕ) → IsSmallNeed (get_or days w no_need)

week_small : (d : WeekPairs) → AreSmallPairs d → AreSmallDays (needs_of_week d)
week_small d small zero = need_small d.monday small.monday
week_small d small (suc zero) = need_small d.tuesday small.tuesday
week_small d small (suc (suc zero)) = need_small d.wednesday small.wednesday
week_small d small (suc (suc (suc zero))) = need_small d.thursday small.thursday
week_small d small (suc (suc (suc (suc zero)))) = need_small d.friday small.friday
week_small d small (suc (suc (suc (suc (suc zero))))) = need_small d.saturday small.saturday
week_small d small (suc (suc (suc (suc (suc (suc zero)))))) = need_small d.sunday small.sunday
week_small d small (suc (suc (suc (suc (suc (suc (suc w))))))) = no_need_small

-- the requirements of a week, by slot index and weekday
abbrev NeedsSmall : WeekFacts → Type 0
NeedsSmall week = (index w : ℕ) → IsSmallNeed (option_map_or (λ days. get_or days w no_need) (get_or week.needs index None) no_need)

cell_small : (cell : Option (List Need)) → IfSome cell AreSmallDays → (w : ℕ) → IsSmallNeed (option_map_or (λ days. get_or days w no_need) cell no_need)
cell_small None small w = no_need_small
cell_small (Some days) small w = small w

needs_small : (source : List ℕ) (shifts skills nurses : Names) (week : WeekData) → AreSmallNeeds week → NeedsSmall (week_meant source shifts skills nurses week)
needs_small source shifts skills nurses week small index w =
    cell_small _ (cell_of_items (λ (q : Requirement). AreSmallPairs q.days) AreSmallDays (index_of_need source shifts skills) (λ (q : Requirement). needs_of_week q.days) 64
    (λ (q : Requirement). week_small q.days) week.requirements small index) w

-- ---- the case

pub meaning_small : (source : List ℕ) (b : Bundle) → SaysSmallNumbers b → HasSmallNumbers (meaning_of source b)
unfolding meaning_of
meaning_small source b small = record {
  runs = get_or_of_items (λ (s : ShiftType). IsSmallPair s.run) AreSmall (λ (s : ShiftType). limits_of s.run) no_limits none_small (λ (s : ShiftType). limits_small s.run) b.scenario.shifts.items small.runs;
  contracts = λ n. get_or_of_items IsSmallContract HasSmallRules contract_meant no_contract no_contract_small contract_small b.scenario.contracts.items small.contracts _;
  past = λ n. past_small _ (cell_of_items IsSmallLine IsSmallPast (λ (h : NurseHistory). found source (nurse_names source b) h.nurse) (line_meant source (shift_names source b)) _ (line_small source (shift_names source b)) b.history.nurses small.history n);
  needs = λ d s k. get_or_of_items AreSmallNeeds NeedsSmall (week_meant source (shift_names source b) (skill_names source b) (nurse_names source b)) no_week (λ index w. no_need_small)
      (needs_small source (shift_names source b) (skill_names source b) (nurse_names source b)) b.week_data small.needs _ _ _;
  keep = lit≤ tt;
}

-- whatever roster is kept, if it is kept at few points
pub small_with : (c : Meaning) (base : Rows) (keep : ℕ) → keep ≤ most_keep → HasSmallNumbers c → HasSmallNumbers (record c { base = base; keep = keep })
small_with c base keep few small = record {
  runs = small.runs;
  contracts = small.contracts;
  past = small.past;
  needs = small.needs;
  keep = few;
}
