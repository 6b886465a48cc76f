-- Which offers of a day may follow a last shift.
use Rattle.std.specs.Prelude.{◌≡◌, ℕ, ◌<◌, ◌≤◌, All, true, IfSome, List, length, map, slice_index_or, Option, None}
use Rattle.arrayvec.specs.ArrayVec.{ArrayVec}
use Rattle.roster_instance.specs.declared.choice.Shift.{Shift}
use Rattle.roster_instance.specs.Choices.{shift_of}
use Rattle.roster_instance.specs.Meaning.{Meaning, forbids}
use Rattle.roster_state.specs.Codes.{shift_digit}
use Rattle.roster_offers.specs.Cheapest.{Priced, cheapest}
use Rattle.roster_offers.specs.declared.offer.Offer.{Offer}
use Rattle.roster_partial.specs.Rows.{offer_numbered}

-- these are indices of offers, and if no row goes on by a forbidden offer, the cheapest goes on by one of
-- them
pub record MayFollow (c : Meaning) (last : Option Shift) (offers : List Offer)
    (indices : List ℕ) : Type 0 where
  pub inside : All (λ k. k < length offers) indices
  pub few : length indices ≤ length offers
  pub all : (by : Offer → Priced (List Offer)) → ((x : Offer) → forbids c.successions last (shift_of x.choice)
      ≡ true → by x ≡ None) → cheapest by (map (offer_numbered offers) indices) ≡ cheapest by offers

-- what is listed of a last shift, if anything
abbrev pub listed_after : List (Option (ArrayVec ℕ)) → Option Shift → Option (ArrayVec ℕ)
listed_after allowed last = slice_index_or allowed (shift_digit last) None

-- what is listed of a last shift are the offers that may follow it
abbrev pub AreListed : Meaning → List Offer → List (Option (ArrayVec ℕ)) → Type 0
AreListed c offers allowed =
    (last : Option Shift)
    → IfSome (listed_after allowed last) (λ indices. MayFollow c last offers indices.items)
