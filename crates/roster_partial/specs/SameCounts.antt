-- What a search counts is the same over offers that agree on each day.
use Rattle.std.proofs.Common.{◌≡◌, ◌∙◌, ◌+◌, ◌*◌, ◌<◌, ◌⊎◌, ℕ, List, ap, arith, inl, inr, length, subst}
use Rattle.std.specs.List.{All}
use Rattle.roster_instance.specs.Meaning.{Meaning, day_count}
use Rattle.roster_rules.proofs.RunSums.{sum_same}
use Rattle.roster_state.specs.declared.state_box.StateBox.{StateBox}
use Rattle.roster_state.specs.Codes.{sizes_of}
use Rattle.roster_offers.specs.declared.offer.Offer.{Offer}
use Rattle.roster_tables.specs.Counts.{states_on}
use Rattle.roster_tables.specs.Search.{boxes_on, reachable_extensions, extensions_on}
use Rattle.roster_tables.specs.Tables.{LeadsOn}
use Rattle.roster_completion.specs.CompletionBounds.{completion_count, completion_extensions}
use Rattle.roster_partial.specs.Counts.{CountsSearch}

module _ (c : Meaning) (n : ℕ) (f g : ℕ → List Offer)
    (same : (day : ℕ) → day < day_count c → f day ≡ g day) where
  same_states : (boxes : List (List StateBox))
      → reachable_extensions c n f boxes ≡ reachable_extensions c n g boxes
  same_states boxes =
      sum_same (day_count c) (extensions_on c n f boxes) (extensions_on c n g boxes) (λ day within.
      ap (λ (xs : List Offer). states_on c n (boxes_on boxes day) * length xs) (same day within))

  same_bounds : completion_extensions c n f ≡ completion_extensions c n g
  same_bounds =
      ap (λ m. completion_count (sizes_of c n) * m) (sum_same (day_count c) (λ d. length (f d))
      (λ d. length (g d)) (λ day within. ap (λ (xs : List Offer). length xs) (same day within)))

  states_go : (boxes : List (List StateBox)) (between after : ℕ)
      → (after ≡ between) ⊎ (after ≡ between + reachable_extensions c n f boxes)
      → (after ≡ between) ⊎ (after ≡ between + reachable_extensions c n g boxes)
  states_go boxes between after (inl none) = inl none
  states_go boxes between after (inr states) = inr (omega (arith, states, same_states boxes))

  pub counts_same : (cells before after : ℕ) → CountsSearch cells c n f before after
      → CountsSearch cells c n g before after
  counts_same cells before after counts = record {
    boxes = counts.boxes;
    are_reachable = record {
      start = counts.are_reachable.start;
      first = counts.are_reachable.first;
      lead =
          λ day within. subst (All (LeadsOn c n day (boxes_on counts.boxes day)
          (boxes_on counts.boxes (day + 1)))) (same day within) (counts.are_reachable.lead day within);
      long = counts.are_reachable.long;
    };
    between = counts.between;
    partial = record {
      bounds = counts.partial.bounds;
      rows = counts.partial.rows;
      completion_bounds = record {
        sets = counts.partial.completion_bounds.sets;
        followed = counts.partial.completion_bounds.followed;
        few = counts.partial.completion_bounds.few;
        brief = counts.partial.completion_bounds.brief;
        counted =
            counts.partial.completion_bounds.counted ∙ ap (λ m. before + counts.partial.completion_bounds.sets
            * m + counts.partial.completion_bounds.followed) same_bounds;
      };
      few = counts.partial.few;
      counted = counts.partial.counted;
    };
    left = omega (arith, counts.left, same_states counts.boxes);
    states = states_go counts.boxes counts.between after counts.states;
  }
