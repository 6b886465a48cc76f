-- What assignments and worked weekends cost from a day on, by how many there are and how many are to come,
-- and that completion bounds are lower bounds for the rest of a row.
use Rattle.std.specs.Prelude.{◌≡◌, ℕ, suc, ◌+◌, ◌-◌, ◌*◌, ◌<◌, ◌≤◌, All, true, List, [], ◌∷◌, max, Option, Some, is_some}
use Rattle.roster_instance.specs.declared.choice.Shift.{Shift}
use Rattle.roster_instance.specs.declared.rules.Limits.{Limits}
use Rattle.roster_instance.specs.Choices.{shift_of}
use Rattle.roster_instance.specs.Counting.{one_if}
use Rattle.roster_instance.specs.Meaning.{Meaning, contract_of, day_count}
use Rattle.roster_rules.specs.DayLaw.{weekends_more}
use Rattle.roster_rules.specs.Prefix.{Summary}
use Rattle.roster_rules.specs.Weights.{assignment_weight, weekend_weight}
use Rattle.roster_state.specs.Codes.{fits_sizes, sizes_of}
use Rattle.roster_offers.specs.Lists.{IsOfferAt}
use Rattle.roster_offers.specs.declared.offer.Offer.{Offer}
use Rattle.roster_offers.specs.Offers.{best_of_offers_at}
use Rattle.roster_completion.specs.declared.rates.Rates.{Rates}
use Rattle.roster_completion.specs.CompletionBounds.{AreCompletionBounds, completion_bound_at}

-- ---- how many are to come

-- the worked days of a row
abbrev pub days_to_work : List Offer → ℕ
days_to_work [] = 0
days_to_work (x ∷ xs) = one_if (is_some (shift_of x.choice)) + days_to_work xs

-- the worked weekends of a row, from day d on, after this last shift
abbrev pub weekends_to_work : ℕ → Option Shift → List Offer → ℕ
weekends_to_work d last [] = 0
weekends_to_work d last (x ∷ xs) =
    weekends_more d (is_some last) (is_some (shift_of x.choice))
    + weekends_to_work (suc d) (shift_of x.choice) xs

-- ---- what they cost

-- S6, after `count` assignments with `more` to come: each new one above the greatest total, and each that is
-- missing in the end
abbrev pub total_later : Limits → (count more : ℕ) → ℕ
total_later l count more =
    assignment_weight * ((count + more - max count l.greatest) + (l.least - (count + more)))

-- S7, after `count` worked weekends with `more` to come: each new one above the greatest number
abbrev pub weekends_later : (greatest count more : ℕ) → ℕ
weekends_later greatest count more = weekend_weight * (count + more - max count greatest)

-- ---- completion bounds as lower bounds for the rest of a row

-- the offers of each day are those of a case
abbrev pub AreOfCase : Meaning → (scale : ℕ) → (ℕ → List Offer) → Type 0
AreOfCase c scale offers = (d : ℕ) → d < day_count c → All (IsOfferAt c scale) (offers d)

-- what assignments and worked weekends cost in a row from a day and a state on, in points
abbrev pub counts_later : Meaning → ℕ → (d : ℕ) → Summary → List Offer → ℕ
counts_later c n d s row =
    total_later (contract_of c n).total s.assignments (days_to_work row)
    + weekends_later (contract_of c n).weekends s.weekends (weekends_to_work d s.last row)

-- what the days of a row are charged at the rates, in parts of a point
abbrev pub at_rates : Rates → (d : ℕ) → Summary → List Offer → ℕ
at_rates rates d s row = rates.day * days_to_work row + rates.weekend * weekends_to_work d s.last row

-- from each state that fits, on each day, the completion bound and what the counts cost are together no more
-- than the cost of the best row and what its days are charged
abbrev pub LieUnderRest : Meaning → (n scale : ℕ) → Rates → (ℕ → List Offer) → List ℕ → Type 0
LieUnderRest c n scale rates offers completion_bounds =
    (m d : ℕ) (s : Summary) → m + d ≡ day_count c → fits_sizes (sizes_of c n) s ≡ true
    → (cost : ℕ) (row : List Offer) → best_of_offers_at c n scale offers m d s ≡ Some (cost, row)
    → completion_bound_at (sizes_of c n) completion_bounds d s + scale * counts_later c n d s row
    ≤ cost + at_rates rates d s row

-- this holds if the completion bounds are those of the offers, and the offers are of a case
abbrev pub HaveRestAbove : Meaning → (n scale : ℕ) → Rates → (ℕ → List Offer) → List ℕ → Type 0
HaveRestAbove c n scale rates offers completion_bounds =
    AreCompletionBounds c n scale rates offers completion_bounds → AreOfCase c scale offers
    → LieUnderRest c n scale rates offers completion_bounds
