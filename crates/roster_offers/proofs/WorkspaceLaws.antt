-- The capacity of a workspace, and the greatest number of states.
use Rattle.std.proofs.Common.{◌≡◌, ◌∙◌, ◌+◌, ◌*◌, ◌<◌, ◌≤◌, ◌&&◌, ◌==◌, ℕ, true, ap, arith, map, max, refl, sym, [], ◌∷◌, nat_le}
use Rattle.std.specs.List.{range_with_len}
use Rattle.std.proofs.lemmas.Bool.{and_parts, eqb-true, leb-true}
use Rattle.std.proofs.lemmas.List.{map-append}
use Rattle.roster_bundle.proofs.Ranges.{range_with_len_more}
use Rattle.roster_instance.specs.Meaning.{Meaning, day_count, nurse_count}
use Rattle.roster_instance.specs.Sizes.{greatest_of, state_count}
use Rattle.roster_instance.proofs.SizeLemmas.{greatest_of-push}
use Rattle.roster_laws.specs.Greatest.{greatest_state_count}
use Rattle.roster_laws.proofs.GreatestLemmas.{greatest_states}
use Rattle.roster_offers.specs.Workspaces.{SameCapacity, Space, fits_space}

-- ---- the capacity of a workspace that fits

pub record HasCapacity (c : Meaning) (w : Space) : Type 0 where
  pub labels : w.labels ≡ 2 * greatest_state_count c
  pub pointers : w.pointers ≡ greatest_state_count c * day_count c
  pub row : day_count c ≤ w.choices

pub capacity_of : (c : Meaning) (w : Space) → fits_space c w ≡ true → HasCapacity c w
capacity_of c w fits =
    let both = and_parts ((w.labels == 2 * greatest_state_count c) && (w.pointers == greatest_state_count c * day_count c)) (nat_le (day_count c) w.choices) fits in
    let lengths = and_parts (w.labels == 2 * greatest_state_count c) (w.pointers == greatest_state_count c * day_count c) both.0 in
    record { labels = eqb-true _ _ lengths.0; pointers = eqb-true _ _ lengths.1; row = leb-true _ _ both.1 }

-- the capacity is the same after no change, and after two changes that keep it
pub same_self : (w : Space) → SameCapacity w w
same_self w = record { labels = refl; pointers = refl; choices = refl; label_capacity = refl; later_capacity = refl; row_capacity = refl }

pub same_after : (a b c : Space) → SameCapacity a b → SameCapacity b c → SameCapacity a c
same_after a b c one other = record {
  labels = other.labels ∙ one.labels;
  pointers = other.pointers ∙ one.pointers;
  choices = other.choices ∙ one.choices;
  label_capacity = other.label_capacity ∙ one.label_capacity;
  later_capacity = other.later_capacity ∙ one.later_capacity;
  row_capacity = other.row_capacity ∙ one.row_capacity;
}

pub fits_after : (c : Meaning) (old new : Space) → SameCapacity old new → fits_space c old ≡ true → fits_space c new ≡ true
fits_after c old new same fits =
    (λ i. (same.labels i == 2 * greatest_state_count c) && (same.pointers i == greatest_state_count c * day_count c) && nat_le (day_count c) (same.choices i)) ∙ fits

pub states_within : (c : Meaning) (n : ℕ) → n < nurse_count c → state_count c n ≤ greatest_state_count c
states_within c n inside = (greatest_states c (omega (arith, inside))).above n inside

-- ---- the greatest number of states, one nurse more

pub greatest_more : (size : ℕ → ℕ) (n so_far more new : ℕ) → so_far ≡ greatest_of (map size (range_with_len 0 n)) → more ≡ size n → new ≡ max so_far more → new ≡ greatest_of (map size (range_with_len 0 (n + 1)))
greatest_more size n so_far more new is more_is new_is =
    new_is
    ∙ (λ i. max (is i) (more_is i))
    ∙ sym (greatest_of-push (map size (range_with_len 0 n)) (size n))
    ∙ ap greatest_of (sym (map-append size (range_with_len 0 n) (n ∷ [])) ∙ ap (map size) (sym (range_with_len_more n)))

pub all_nurses : (c : Meaning) (greatest n : ℕ) → greatest ≡ greatest_of (map (state_count c) (range_with_len 0 n)) → n ≡ nurse_count c → greatest ≡ greatest_state_count c
unfolding greatest_state_count
all_nurses c greatest n is all = is ∙ ap (λ m. greatest_of (map (state_count c) (range_with_len 0 m))) all
