-- Rows that replace those of a roster, one after another.
use Rattle.std.proofs.Common.{◌≡◌, ◌∙◌, ◌<◌, ◌+◌, ◌++◌, ◌∷◌, ℕ, List, [], ap, ap₂, arith, get_or, length, map, set, sym, take}
use Rattle.std.proofs.lemmas.List.{get_or-map, length-map, map-set, set-get_or, take_more, take_more_set}
use Rattle.roster_instance.specs.Rosters.{Row, Rows, row_of, with_row}

-- the first rows are another roster's, and one more once it is put in
pub one_row_more : (r other : Rows) (n : ℕ) (row : Row) → n < length r → n < length other → take n r ≡ take n other → row ≡ row_of other n
    → take (n + 1) (with_row r n row) ≡ take (n + 1) other
one_row_more r other n row within inside before is =
    take_more_set r n row within ∙ ap₂ (λ (rows : Rows) (last : Row). rows ++ last ∷ []) before is ∙ sym (take_more other n [] inside)

abbrev days : Row → ℕ
days row = length row

module _ (r other : Rows) (same : map (λ (row : Row). length row) r ≡ map (λ (row : Row). length row) other) where
  -- rosters with the same days have the same number of nurses
  pub same_nurses : length r ≡ length other
  same_nurses = sym (length-map r days) ∙ ap (λ (ns : List ℕ). length ns) same ∙ length-map other days

  -- and each nurse has the same number of days
  pub same_days : (n : ℕ) → n < length other → length (row_of other n) ≡ length (row_of r n)
  same_days n inside =
      sym (get_or-map days other n [] 0 inside) ∙ ap (λ (ns : List ℕ). get_or ns n 0) (sym same) ∙ get_or-map days r n [] 0 (omega (arith, same_nurses))

-- a row with the same number of days leaves the numbers of days unchanged
pub days-with_row : (r : Rows) (n : ℕ) (row : Row) → n < length r → length row ≡ length (row_of r n) → map (λ (own : Row). length own) (with_row r n row) ≡ map (λ (own : Row). length own) r
days-with_row r n row within as_many =
    map-set days r n row ∙ ap (λ (k : ℕ). set (map days r) n k) (as_many ∙ sym (get_or-map days r n [] 0 within)) ∙ set-get_or (map days r) n 0
