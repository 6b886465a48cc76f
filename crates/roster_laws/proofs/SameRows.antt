-- The test whether two rosters have the same rows passes exactly if they are equal.
use Rattle.std.proofs.Common.{◌≡◌, ◌∙◌, ◌==◌, true, ap, ap₂, sym, refl, [], ◌∷◌}
use Rattle.std.proofs.lemmas.Bool.{and_from, and_parts, eq-eqb, eqb-true, true≢false}
use Rattle.roster_instance.specs.declared.choice.Choice.{Choice}
use Rattle.roster_instance.specs.declared.choice.Choice.TheVariants.{Off, Work}
use Rattle.roster_instance.specs.Choices.{same_choice}
use Rattle.roster_rules.specs.Improver.{same_row, same_rows}
use Rattle.roster_instance.specs.Meaning.{shift_at, skill_at}
use Rattle.roster_instance.specs.Rosters.{Row, Rows}

pub same_choice_is : (a b : Choice) → same_choice a b ≡ true → a ≡ b
same_choice_is Off Off e = refl
same_choice_is Off (Work s k) e = elim (true≢false (sym e)) [ ]
same_choice_is (Work s k) Off e = elim (true≢false (sym e)) [ ]
same_choice_is (Work s k) (Work t l) e =
    let parts = and_parts (s.0 == t.0) (k.0 == l.0) e in
    ap₂ (λ x y. Work (shift_at x) (skill_at y)) (eqb-true s.0 t.0 parts.0) (eqb-true k.0 l.0 parts.1)

pub same_choice_self : (a : Choice) → same_choice a a ≡ true
same_choice_self Off = refl
same_choice_self (Work s k) = and_from (s.0 == s.0) (k.0 == k.0) (eq-eqb s.0 s.0 refl) (eq-eqb k.0 k.0 refl)

pub same_row_is : (a b : Row) → same_row a b ≡ true → a ≡ b
same_row_is [] [] e = refl
same_row_is [] (y ∷ ys) e = elim (true≢false (sym e)) [ ]
same_row_is (x ∷ xs) [] e = elim (true≢false (sym e)) [ ]
same_row_is (x ∷ xs) (y ∷ ys) e =
    let parts = and_parts (same_choice x y) (same_row xs ys) e in
    ap₂ (λ a b. a ∷ b) (same_choice_is x y parts.0) (same_row_is xs ys parts.1)

pub same_row_self : (a : Row) → same_row a a ≡ true
same_row_self [] = refl
same_row_self (x ∷ xs) = and_from (same_choice x x) (same_row xs xs) (same_choice_self x) (same_row_self xs)

pub same_rows_is : (a b : Rows) → same_rows a b ≡ true → a ≡ b
same_rows_is [] [] e = refl
same_rows_is [] (y ∷ ys) e = elim (true≢false (sym e)) [ ]
same_rows_is (x ∷ xs) [] e = elim (true≢false (sym e)) [ ]
same_rows_is (x ∷ xs) (y ∷ ys) e =
    let parts = and_parts (same_row x y) (same_rows xs ys) e in
    ap₂ (λ a b. a ∷ b) (same_row_is x y parts.0) (same_rows_is xs ys parts.1)

pub same_rows_self : (a : Rows) → same_rows a a ≡ true
same_rows_self [] = refl
same_rows_self (x ∷ xs) = and_from (same_row x x) (same_rows xs xs) (same_row_self x) (same_rows_self xs)

pub same_rows_of : (a b : Rows) → a ≡ b → same_rows a b ≡ true
same_rows_of a b e = ap (λ x. same_rows a x) (sym e) ∙ same_rows_self a
