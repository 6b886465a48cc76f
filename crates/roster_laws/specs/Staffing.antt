-- The staffing of a day, by the cover of each shift and skill.
use Rattle.std.specs.Prelude.{◌≡◌, ℕ, ◌+◌, ◌-◌, Bool, not, nat_lt}
use Rattle.roster_instance.specs.declared.choice.Choice.{Choice}
use Rattle.roster_instance.specs.declared.choice.Choice.TheVariants.{Work}
use Rattle.roster_instance.specs.declared.choice.Shift.{Shift}
use Rattle.roster_instance.specs.declared.choice.Skill.{Skill}
use Rattle.roster_instance.specs.Choices.{same_choice}
use Rattle.roster_instance.specs.Counting.{all_below, one_if, sum_below}
use Rattle.roster_instance.specs.Meaning.{Meaning, minimum, shift_at, shift_count, skill_at, skill_count}

-- the cover with one more nurse, who has this choice
abbrev pub with_choice : (ℕ → ℕ → ℕ) → Choice → ℕ → ℕ → ℕ
with_choice have choice s k = have s k + one_if (same_choice choice (Work (shift_at s) (skill_at k)))

-- each minimum of the day is met
abbrev pub meets : Meaning → ℕ → (ℕ → ℕ → ℕ) → Bool
meets c d have =
    all_below (shift_count c)
    (λ s. all_below (skill_count c) (λ k. not (nat_lt (have s k) (minimum c d s k))))

-- by how many nurses a day is short of the wanted numbers
abbrev pub shortfall : Meaning → (want have : ℕ → ℕ → ℕ) → ℕ
shortfall c want have = sum_below (shift_count c) (λ s. sum_below (skill_count c) (λ k. want s k - have s k))

-- one more nurse in a slot makes the day short by one less, unless as many work there as are wanted
abbrev pub WorkTakesOneOff : Meaning → (want have : ℕ → ℕ → ℕ) → Shift → Skill → Type 0
WorkTakesOneOff c want have shift skill =
    shortfall c want (with_choice have (Work shift skill))
    + one_if (nat_lt (have shift.0 skill.0) (want shift.0 skill.0)) ≡ shortfall c want have
