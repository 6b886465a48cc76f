-- A roster that fits the case still fits it after one row is replaced by a row of the case.
use Rattle.std.proofs.Common.{◌≡◌, ◌∙◌, ◌==◌, ℕ, true, length, length-set}
use Rattle.std.specs.List.{list_all}
use Rattle.std.proofs.lemmas.Bool.{and_from, and_parts, eq-eqb, eqb-true}
use Rattle.std.proofs.lemmas.List.Elements.{All-set}
use Rattle.std.proofs.lemmas.List.Sums.{AllPass-from_list_all, list_all-from_AllPass}
use Rattle.roster_instance.specs.Meaning.{Meaning, nurse_count}
use Rattle.roster_instance.specs.Rosters.{Row, Rows, fits_case, is_row_of, with_row}

pub fits-with_row : (c : Meaning) (r : Rows) (n : ℕ) (row : Row) → fits_case c r ≡ true → is_row_of c row ≡ true → fits_case c (with_row r n row) ≡ true
fits-with_row c r n row fitting is =
    let parts = and_parts (length r == nurse_count c) (list_all (is_row_of c) r) fitting in
    let same : length (with_row r n row) ≡ nurse_count c = length-set r n row ∙ eqb-true (length r) (nurse_count c) parts.0 in
    and_from (length (with_row r n row) == nurse_count c) (list_all (is_row_of c) (with_row r n row)) (eq-eqb (length (with_row r n row)) (nurse_count c) same)
    (list_all-from_AllPass (is_row_of c) (with_row r n row) (All-set (λ own. is_row_of c own ≡ true) r n row is (AllPass-from_list_all (is_row_of c) r parts.1)))
