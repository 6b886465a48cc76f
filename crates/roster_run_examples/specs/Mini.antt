-- The small instance of the worked examples, as a meaning.
use Rattle.std.specs.Prelude.{ℕ, ◌*◌, ◌%◌, Bool, true, false, ◌==◌, List, [], ◌∷◌, ◌++◌, codes, replicate, flat_map, map, if◌then◌else◌, Option, Some, None}
use Rattle.std.specs.List.{list_any, range_with_len}
use Rattle.roster_instance.specs.declared.choice.Choice.{Choice}
use Rattle.roster_instance.specs.declared.choice.Choice.TheVariants.{Off, Work}
use Rattle.roster_rules.specs.declared.penalties.Costs.{Costs}
use Rattle.roster_instance.specs.declared.rules.Border.TheVariants.{Free}
use Rattle.roster_instance.specs.declared.rules.ContractRules.{ContractRules}
use Rattle.roster_instance.specs.declared.rules.Limits.{Limits}
use Rattle.roster_instance.specs.declared.rules.Need.{Need}
use Rattle.roster_instance.specs.declared.rules.Past.{Past}
use Rattle.roster_instance.specs.Meaning.{Meaning, NurseFacts, WeekFacts, no_requests, shift_at, skill_at}
use Rattle.roster_instance.specs.Rosters.{Row, Rows}

abbrev pub limits : ℕ → ℕ → Limits
limits least greatest = record { least = least; greatest = greatest }

abbrev pub a_need : ℕ → ℕ → Need
a_need minimum optimum = record { minimum = minimum; optimum = optimum }

abbrev pub full : ContractRules
full =
    record
    { total = limits 2 5; working = limits 1 5; free = limits 1 5; weekends = 1; whole_weekends = true }

-- a nurse with the skill Nurse
abbrev pub a_nurse : NurseFacts
a_nurse = record { contract = 0; skills = skill_at 0 ∷ [] }

-- a nurse who was off for this number of days
abbrev pub off_for : ℕ → Option Past
off_for days = Some (record { border = Free days; assignments = 0; weekends = 0 })

-- a week in which each of these slots has an optimum of one nurse on each day, without requests and absences
abbrev pub week_wanting : List Bool → ℕ → WeekFacts
week_wanting slots nurses = record {
  needs = map (λ wanted. if wanted then Some (replicate 7 (a_need 0 1)) else None) slots;
  off_requests = replicate (7 * nurses) no_requests;
  wishes = replicate (7 * nurses) no_requests;
  absences = replicate (7 * nurses) false;
  fixed = replicate (7 * nurses) false;
}

-- each day has an optimum of one nurse on Early, and Early may not follow Night
abbrev pub mini : Meaning
mini = record {
  name = codes "mini";
  skill_names = codes "Nurse" ∷ [];
  shift_names = codes "Early" ∷ codes "Night" ∷ [];
  runs = limits 1 5 ∷ limits 1 5 ∷ [];
  successions = Some (replicate 8 false) ∷ Some (true ∷ replicate 7 false) ∷ [];
  contract_names = codes "Full" ∷ [];
  contracts = full ∷ [];
  nurse_names = codes "Ann" ∷ codes "Bob" ∷ [];
  nurses = a_nurse ∷ a_nurse ∷ [];
  past = off_for 1 ∷ off_for 1 ∷ [];
  weeks = week_wanting (true ∷ replicate 63 false) 2 ∷ [];
  base = [];
  keep = 0;
}

-- the same without Night
abbrev pub mini_of_one_shift : Meaning
mini_of_one_shift = record mini {
  shift_names = codes "Early" ∷ [];
  runs = limits 1 5 ∷ [];
  successions = Some (replicate 8 false) ∷ [];
}

-- ---- rows of a week

abbrev pub is_among : List ℕ → ℕ → Bool
is_among numbers d = list_any (λ k. k == d) numbers

abbrev pub early_shift : Choice
early_shift = Work (shift_at 0) (skill_at 0)

-- Early on these days, from 0 for Monday
abbrev pub early_on : List ℕ → Row
early_on numbers = map (λ d. if is_among numbers d then early_shift else Off) (range_with_len 0 7)

-- Early on all days but one
abbrev pub early_but : ℕ → Row
early_but off = map (λ d. if d == off then Off else early_shift) (range_with_len 0 7)

abbrev pub free_week : Row
free_week = replicate 7 Off

abbrev pub all_free : Rows
all_free = free_week ∷ free_week ∷ []

abbrev pub ann : ℕ
ann = 0

abbrev pub bob : ℕ
bob = 1

-- the costs without points for wishes to work and for changed days
abbrev pub costs : ℕ → ℕ → ℕ → ℕ → ℕ → ℕ → ℕ → Costs
costs a b c d e f g = record { s1 = a; s2 = b; s3 = c; s4 = d; s5 = e; s6 = f; s7 = g; s8 = 0; s9 = 0 }

-- the same, with points for wishes to work
abbrev pub costs_with_wishes : ℕ → Costs → Costs
costs_with_wishes n k = record k { s8 = n }

-- ---- an instance of eight weeks: four shifts, four skills, thirty nurses with one skill each who were off
-- for two days

abbrev pub big_contract : ContractRules
big_contract =
    record
    { total = limits 30 44; working = limits 3 5; free = limits 2 3; weekends = 4; whole_weekends = true }

abbrev pub big_nurse : ℕ → NurseFacts
big_nurse n = record { contract = 0; skills = skill_at (n % 4) ∷ [] }

abbrev pub big : Meaning
big = record {
  name = codes "big";
  skill_names = codes "K0" ∷ codes "K1" ∷ codes "K2" ∷ codes "K3" ∷ [];
  shift_names = codes "S0" ∷ codes "S1" ∷ codes "S2" ∷ codes "S3" ∷ [];
  runs = replicate 4 (limits 2 5);
  successions = replicate 4 (Some (replicate 8 false));
  contract_names = codes "Full" ∷ [];
  contracts = big_contract ∷ [];
  nurse_names = replicate 30 (codes "N");
  nurses = map big_nurse (range_with_len 0 30);
  past = replicate 30 (off_for 2);
  weeks =
      replicate 8 (week_wanting (flat_map (λ shift. replicate 4 true ++ replicate 4 false)
      (range_with_len 0 4) ++ replicate 32 false) 30);
  base = [];
  keep = 0;
}
