-- Whether a row leads through the offers of all days (our own).
use Rattle.std.specs.Prelude.{◌≡◌, ℕ, zero, suc, ◌+◌, ◌<◌, ◌&&◌, Bool, false, true, not, List, slice_index_or, Option, None, Some}
use Rattle.std.specs.List.{list_any}
use Rattle.roster_instance.specs.declared.choice.Shift.{Shift}
use Rattle.roster_instance.specs.Choices.{shift_of}
use Rattle.roster_instance.specs.Limits.{most_shifts}
use Rattle.roster_instance.specs.Meaning.{Meaning, forbids}
use Rattle.roster_offers.specs.declared.offer.Offer.{Offer}

-- m days can follow a last shift from day d on, with an offer of each day, none of which is forbidden after
-- the one before
abbrev pub leads_on : Meaning → (ℕ → List Offer) → (m d : ℕ) → Option Shift → Bool
leads_on c offers zero d last = true
leads_on c offers (suc m) d last =
    list_any (λ x. not (forbids c.successions last (shift_of x.choice))
    && leads_on c offers m (suc d) (shift_of x.choice)) (offers d)

-- the index of a last shift in a table: none comes first
abbrev pub last_index : Option Shift → ℕ
last_index None = 0
last_index (Some shift) = shift.0 + 1

-- the last shift with this index
abbrev pub last_at : ℕ → Option Shift
last_at zero = None
last_at (suc s) = Some (record { 0 = s })

-- after a last shift one of these offers leads on, by a table that says after which shifts a row does
abbrev pub goes_on : Meaning → List Offer → List Bool → Option Shift → Bool
goes_on c offers after last =
    list_any (λ x. not (forbids c.successions last (shift_of x.choice))
    && slice_index_or after (last_index (shift_of x.choice)) false) offers

-- the table says so of each last shift before a day, m days before the end
abbrev pub AreWays : Meaning → (ℕ → List Offer) → (m d : ℕ) → List Bool → Type 0
AreWays c offers m d table =
    (last : Option Shift) → last_index last < 1 + most_shifts
    → slice_index_or table (last_index last) false ≡ leads_on c offers m d last
