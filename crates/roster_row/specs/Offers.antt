-- Rows of which each choice is offered on its day.
use Rattle.std.specs.Prelude.{◌≡◌, ◌↔◌, ℕ, ◌+◌, ◌*◌, ◌<◌, ◌≤◌, true, Contains, length}
use Rattle.roster_instance.specs.Choices.{days_of}
use Rattle.roster_instance.specs.Limits.{most_shifts, most_skills, most_small}
use Rattle.roster_instance.specs.Meaning.{Meaning, day_count, minimum, optimum}
use Rattle.roster_instance.specs.Rosters.{Row, Rows, choice_on}
use Rattle.roster_rules.specs.HardRules.{keeps_successions}
use Rattle.roster_laws.specs.OneRow.{MayBePutIn, others}
use Rattle.roster_laws.specs.Staffing.{shortfall}
use Rattle.roster_offers.specs.Offers.{offer_of, offers_of}

-- each choice of the row, with its price, is among the offers of its day
abbrev pub IsOffered : Meaning → ℕ → Rows → ℕ → Row → Type 0
IsOffered c from r n row =
    (d : ℕ) → d < length row → Contains (offers_of c from r n d) (offer_of c r n d (choice_on row d))

-- and no shift of it is forbidden by the one before it
abbrev pub IsOfferedRow : Meaning → ℕ → Rows → ℕ → Row → Type 0
IsOfferedRow c from r n row =
    IsOffered c from r n row × (keeps_successions c n (days_of row) (length row) ≡ true)

-- a row of as many days may be put in exactly if it is such a row
abbrev pub OffersGiveRows : Meaning → ℕ → Rows → ℕ → Type 0
OffersGiveRows c from r n =
    (row : Row) → length row ≡ day_count c → MayBePutIn c from r n row ↔ IsOfferedRow c from r n row

-- by how many nurses the day is short of its minimums and of its optimums without the nurse
pub record LacksWithout (c : Meaning) (r : Rows) (n d least most : ℕ) : Type 0 where
  pub minimum : least ≡ shortfall c (minimum c d) (others r n d)
  pub optimum : most ≡ shortfall c (optimum c d) (others r n d)
  pub within : most ≤ 1 + most_shifts * most_skills * most_small
