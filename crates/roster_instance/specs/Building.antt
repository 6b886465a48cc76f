-- What holds of the parts of a scenario while it is read.
use Rattle.std.specs.Prelude.{◌≡◌, ℕ, ◌<◌, ◌≤◌, Bool, List, length, map, slice_index_or}
use Rattle.roster_bundle.specs.declared.token.Token.{Token}
use Rattle.roster_instance.specs.declared.choice.Skill.{Skill}
use Rattle.roster_instance.specs.Bundles.{Names, numbers_among, skill_named}
use Rattle.roster_instance.specs.Limits.{most_nurses, most_shifts, most_skills, most_weeks}
use Rattle.roster_instance.specs.Meaning.{NurseFacts, nobody}

-- the numbers of weeks, skills, shifts and nurses are within their limits (our profile)
pub record HasCounts (weeks skills shifts nurses : ℕ) : Type 0 where
  pub some_weeks : 0 < weeks
  pub few_weeks : weeks ≤ most_weeks
  pub some_skills : 0 < skills
  pub few_skills : skills ≤ most_skills
  pub some_shifts : 0 < shifts
  pub few_shifts : shifts ≤ most_shifts
  pub some_nurses : 0 < nurses
  pub few_nurses : nurses ≤ most_nurses

-- a nurse's skills, as the tokens name them: a flag for each skill number, and the skills in their order
pub record HasSkills (source : List ℕ) (skills : Names) (ts : List Token) (taken : List Bool)
    (own : List Skill) : Type 0 where
  pub flags : taken ≡ numbers_among source skills ts
  pub own_are : own ≡ map (skill_named source skills) ts

-- no nurse has more skills than the limit
abbrev pub HaveFewSkills : List NurseFacts → Type 0
HaveFewSkills nurses = (n : ℕ) → length (slice_index_or nurses n nobody).skills ≤ most_skills
