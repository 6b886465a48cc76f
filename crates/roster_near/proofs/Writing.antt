-- A row is written day by day.
use Rattle.std.proofs.Common.{◌≡◌, ◌∙◌, ◌+◌, ◌<◌, ◌⊎◌, inl, inr, ℕ, ap, arith, sym, List, length, slice_set}
use Rattle.std.proofs.lemmas.Bool.{cases_eq}
use Rattle.std.proofs.lemmas.List.{get_or-set_other, get_or-set_same}
use Rattle.roster_instance.specs.declared.choice.Choice.{Choice}
use Rattle.roster_instance.specs.declared.choice.Choice.TheVariants.{Off}
use Rattle.roster_instance.specs.Rosters.{choice_on}

-- one more day is written
pub row_more : (row : List Choice) (is : ℕ → Choice) (day : ℕ) (here : Choice) → day < length row
    → ((d : ℕ) → d < day → choice_on row d ≡ is d) → here ≡ is day
    → (d : ℕ) → d < day + 1 → choice_on (slice_set row day here) d ≡ is d
row_more row is day here inside before e d h = go (cases_eq d day)
  where
    go : (d ≡ day) ⊎ (d ≡ day → ⊥) → choice_on (slice_set row day here) d ≡ is d
    go (inl same) = ap (choice_on (slice_set row day here)) same ∙ get_or-set_same row day here Off inside ∙ e ∙ ap is (sym same)
    go (inr other) = get_or-set_other row day d here Off other ∙ before d (omega arith)
