-- The numbers of an instance are small: those of pairs, contracts and history lines are from 0 to the
-- greatest small number (the format; the range is our profile). The bounds on penalties rest on this.
use Rattle.std.specs.Prelude.{ℕ, ◌≤◌}
use Rattle.roster_instance.specs.declared.rules.Border.{Border}
use Rattle.roster_instance.specs.declared.rules.Border.TheVariants.{Free, Working}
use Rattle.roster_instance.specs.declared.rules.ContractRules.{ContractRules}
use Rattle.roster_instance.specs.declared.rules.Limits.{Limits}
use Rattle.roster_instance.specs.declared.rules.Need.{Need}
use Rattle.roster_instance.specs.declared.rules.Past.{Past}
use Rattle.roster_instance.specs.Limits.{most_keep, most_shifts, most_skills, most_small, most_weeks}
use Rattle.roster_instance.specs.Meaning.{Meaning, contract_of, need, past_of, run_of_shift, shift_count, skill_count, week_count}

-- both numbers of a pair
pub record AreSmall (l : Limits) : Type 0 where
  pub least : l.least ≤ most_small
  pub greatest : l.greatest ≤ most_small

-- both numbers of a need
pub record IsSmallNeed (need : Need) : Type 0 where
  pub minimum : need.minimum ≤ most_small
  pub optimum : need.optimum ≤ most_small

-- the numbers of a contract
pub record HasSmallRules (r : ContractRules) : Type 0 where
  pub total : AreSmall r.total
  pub working : AreSmall r.working
  pub free : AreSmall r.free
  pub weekends : r.weekends ≤ most_small

-- the runs before day 0
abbrev pub IsSmallBorder : Border → Type 0
IsSmallBorder (Free n) = n ≤ most_small
IsSmallBorder (Working s own all) = (own ≤ most_small) × (all ≤ most_small)

-- the numbers of a history line
pub record IsSmallPast (p : Past) : Type 0 where
  pub border : IsSmallBorder p.border
  pub assignments : p.assignments ≤ most_small
  pub weekends : p.weekends ≤ most_small

-- all numbers of a case, including that of a roster that is kept
pub record HasSmallNumbers (c : Meaning) : Type 0 where
  pub runs : (s : ℕ) → AreSmall (run_of_shift c s)
  pub contracts : (n : ℕ) → HasSmallRules (contract_of c n)
  pub past : (n : ℕ) → IsSmallPast (past_of c n)
  pub needs : (d s k : ℕ) → IsSmallNeed (need c d s k)
  pub keep : c.keep ≤ most_keep

-- a case within the limits, so that penalties and the labels of a search stay low
pub record IsSmall (c : Meaning) : Type 0 where
  pub numbers : HasSmallNumbers c
  pub shifts : shift_count c ≤ most_shifts
  pub skills : skill_count c ≤ most_skills
  pub weeks : week_count c ≤ most_weeks
