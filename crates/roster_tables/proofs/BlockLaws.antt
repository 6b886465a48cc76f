-- A state's cell by one more offer.
use Rattle.std.proofs.Common.{◌≡◌, ◌∙◌, ◌+◌, ◌<◌, ◌≤◌, ◌⊎◌, ℕ, Bool, inl, inr, ap, arith, subst, sym, List, length, min, nat_lt, if◌then◌else◌, slice_index_or, take}
use Rattle.std.proofs.lemmas.Bool.{cases_lt, le-ltb, lt-ltb}
use Rattle.roster_offers.specs.Cheapest.{Priced, cheapest}
use Rattle.roster_offers.specs.Lists.{no_row}
use Rattle.roster_tables.specs.Tables.{AreOfLeast, label_of}
use Rattle.roster_tables.proofs.LabelLaws.{label_within, taken_kept, taken_lower}

-- ---- a cell by one more offer

module _ {O X : Type 0} (by : O → Priced X) (offers : List O) (place : ℕ) (inside : place < length offers) (d : O) (label number : ℕ) (old : AreOfLeast by (take place offers) label number) where
  -- by a number that isn't capped: it is lower than the label exactly if the capped one is
  pub place_lowered : (other : ℕ) → min other no_row ≡ label_of (by (slice_index_or offers place d)) → AreOfLeast by (take (place + 1) offers) (min label other) (if nat_lt other label then place else number)
  place_lowered other is = go (cases_lt other label)
    where
      low : label ≤ no_row
      low = omega (arith, old.least, label_within (cheapest by (take place offers)))

      go : (other < label) ⊎ (label ≤ other) → AreOfLeast by (take (place + 1) offers) (min label other) (if nat_lt other label then place else number)
      go (inl h) =
          subst (λ (b : Bool). AreOfLeast by (take (place + 1) offers) (min label other) (if b then place else number)) (sym (lt-ltb other label h))
          (subst (λ l. AreOfLeast by (take (place + 1) offers) l place) (omega (arith, h)) (taken_lower by offers place inside d label number old other (omega (arith, is, h, low)) h))
      go (inr h) =
          subst (λ (b : Bool). AreOfLeast by (take (place + 1) offers) (min label other) (if b then place else number)) (sym (le-ltb other label h))
          (subst (λ l. AreOfLeast by (take (place + 1) offers) l number) (omega (arith, h)) (taken_kept by offers place inside d label number old (min other no_row) is (omega (arith, h, low))))

  pub place_kept : no_row ≡ label_of (by (slice_index_or offers place d)) → AreOfLeast by (take (place + 1) offers) label number
  place_kept is = taken_kept by offers place inside d label number old no_row is (omega (arith, old.least, label_within (cheapest by (take place offers))))

  -- if no row went on the number may be any: it only says something of rows below no_row
  pub place_set : label ≡ no_row → (other : ℕ) → min other no_row ≡ label_of (by (slice_index_or offers place d)) → AreOfLeast by (take (place + 1) offers) (min other no_row) place
  place_set none other is = go (cases_lt other no_row)
    where
      go : (other < no_row) ⊎ (no_row ≤ other) → AreOfLeast by (take (place + 1) offers) (min other no_row) place
      go (inl h) = subst (λ l. AreOfLeast by (take (place + 1) offers) l place) (omega (arith, h)) (taken_lower by offers place inside d label number old other (omega (arith, is, h)) (omega (arith, h, none)))
      go (inr h) =
          let kept = taken_kept by offers place inside d label number old (min other no_row) is (omega (arith, h, none)) in
          record {
            least = omega (arith, h, none) ∙ kept.least;
            points = λ row e below. absurd (omega (arith, none, kept.least, ap label_of e, below));
          }
