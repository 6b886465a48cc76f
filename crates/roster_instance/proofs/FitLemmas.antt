-- The roster that the solutions of a bundle describe fits the case.
use Rattle.std.proofs.Common.{◌≡◌, ◌∙◌, ◌+◌, ◌*◌, ◌/◌, ◌%◌, ◌<◌, ◌&&◌, ℕ, zero, suc, Bool, true, refl, ap, ap₂, eq-eqb, lt-ltb, List, [], ◌∷◌, get_or, length, map, Option, Some, None}
use Rattle.std.specs.Prelude.{option_map, unwrap_or}
use Rattle.std.specs.List.{enumerate_from, flat_map, list_all, range_with_len}
use Rattle.std.proofs.lemmas.List.{length-map}
use Rattle.std.proofs.lemmas.List.FromFn.{length-range_with_len}
use Rattle.roster_bundle.specs.declared.bundle.Assignment.{Assignment}
use Rattle.roster_bundle.specs.declared.bundle.Bundle.{Bundle}
use Rattle.roster_bundle.specs.declared.bundle.Solution.{Solution}
use Rattle.roster_bundle.specs.declared.token.Token.{Token}
use Rattle.roster_instance.specs.declared.choice.Choice.{Choice}
use Rattle.roster_instance.specs.declared.choice.Choice.TheVariants.{Off}
use Rattle.roster_instance.specs.Bundles.{choice_meant, index_of_line, row_meant, rows_of, solution_meant, work_meant}
use Rattle.roster_instance.specs.Meaning.{Meaning, day_count, nurse_count, shift_count, skill_count, week_count}
use Rattle.roster_instance.specs.Names.{found, name_number}
use Rattle.roster_instance.specs.Refusals.{Known, known_by, roster_faults, solution_faults}
use Rattle.roster_instance.specs.Rosters.{fits_case, is_choice_of, is_row_of}
use Rattle.roster_instance.specs.Tables.{item_at, table_of}
use Rattle.roster_instance.proofs.NameLemmas.{found-within}

-- a test that each item's image passes
all_of_map : {X Y : Type 0} (p : Y → Bool) (f : X → Y) (xs : List X) → ((x : X) → p (f x) ≡ true) → list_all p (map f xs) ≡ true
all_of_map p f [] each = refl
all_of_map p f (x ∷ xs) each = ap₂ (λ a b. a && b) (each x) (all_of_map p f xs each)

pub get_or_of_map : {X Y : Type 0} (P : Y → Type 0) (f : X → Y) (d : Y) (xs : List X) (i : ℕ) → P d → ((x : X) → P (f x)) → P (get_or (map f xs) i d)
get_or_of_map P f d [] i none each = none
get_or_of_map P f d (x ∷ xs) zero none each = each x
get_or_of_map P f d (x ∷ xs) (suc i) none each = get_or_of_map P f d xs i none each

pub name_number-within : (source : List ℕ) (names : List (List ℕ)) (t : Token) → 0 < length names → name_number source names t < length names
name_number-within source names t some = go (found source names t) refl
  where
    go : (o : Option ℕ) → found source names t ≡ o → unwrap_or o 0 < length names
    go None is = some
    go (Some n) is = found-within source names t n is

module _ (source : List ℕ) (c : Meaning) (some_shifts : 0 < shift_count c) (some_skills : 0 < skill_count c) where
  -- a cell is empty, or has a shift and a skill of the case
  abbrev IsOfCase : Option Choice → Type 0
  IsOfCase cell = is_choice_of c (unwrap_or cell Off) ≡ true

  abbrev table : Solution → List (Option Choice)
  table s = solution_meant source c.nurse_names c.shift_names c.skill_names s

  line_fits : (o : Option Assignment) → IsOfCase (option_map (work_meant source c.shift_names c.skill_names) o)
  line_fits None = refl
  line_fits (Some a) = ap₂ (λ x y. x && y)
      (lt-ltb (name_number source c.shift_names a.shift) (shift_count c) (name_number-within source c.shift_names a.shift some_shifts))
      (lt-ltb (name_number source c.skill_names a.skill) (skill_count c) (name_number-within source c.skill_names a.skill some_skills))

  cell_fits : (s : Solution) (k : ℕ) → IsOfCase (get_or (table s) k None)
  unfolding table_of
  cell_fits s k = get_or_of_map IsOfCase (λ p. option_map (work_meant source c.shift_names c.skill_names) (item_at (index_of_line source c.nurse_names) p s.assignments.items)) None
      (range_with_len 0 (7 * length c.nurse_names)) k refl (λ p. line_fits (item_at (index_of_line source c.nurse_names) p s.assignments.items))

  choice_of_case : (solutions : List Solution) (n d : ℕ) → is_choice_of c (choice_meant (map table solutions) n d) ≡ true
  choice_of_case solutions n d = get_or_of_map (λ cells. IsOfCase (get_or cells (7 * n + d % 7) None)) table [] solutions (d / 7) refl (λ s. cell_fits s (7 * n + d % 7))

  row_of_case : (solutions : List Solution) → length solutions ≡ week_count c → (n : ℕ) → is_row_of c (row_meant (map table solutions) n) ≡ true
  row_of_case solutions weeks n =
      let tables = map table solutions in
      let days : length (row_meant tables n) ≡ day_count c =
      length-map (range_with_len 0 (7 * length tables)) (choice_meant tables n) ∙ length-range_with_len 0 (7 * length tables)
      ∙ ap (λ k. 7 * k) (length-map solutions table ∙ weeks) in
      ap₂ (λ a b. a && b) (eq-eqb (length (row_meant tables n)) (day_count c) days)
      (all_of_map (is_choice_of c) (choice_meant tables n) (range_with_len 0 (7 * length tables)) (choice_of_case solutions n))

  pub rows-fit : (b : Bundle) → length b.solutions ≡ week_count c → fits_case c (rows_of source c b) ≡ true
  unfolding rows_of
  rows-fit b weeks =
      let tables = map table b.solutions in
      let nurses : length (map (row_meant tables) (range_with_len 0 (nurse_count c))) ≡ nurse_count c =
      length-map (range_with_len 0 (nurse_count c)) (row_meant tables) ∙ length-range_with_len 0 (nurse_count c) in
      ap₂ (λ a b. a && b) (eq-eqb _ (nurse_count c) nurses)
      (all_of_map (is_row_of c) (row_meant tables) (range_with_len 0 (nurse_count c)) (row_of_case b.solutions weeks))

-- rows and faults by names that are equal to those of the case
module _ (source name : List ℕ) (nurses shifts skills : List (List ℕ)) (c : Meaning) (name_is : name ≡ c.name) (nurses_are : nurses ≡ c.nurse_names) (shifts_are : shifts ≡ c.shift_names)
    (skills_are : skills ≡ c.skill_names) (b : Bundle) where
  pub rows_same : map (row_meant (map (solution_meant source nurses shifts skills) b.solutions)) (range_with_len 0 (nurse_count c)) ≡ rows_of source c b
  unfolding rows_of
  rows_same = λ i. map (row_meant (map (solution_meant source (nurses_are i) (shifts_are i) (skills_are i)) b.solutions)) (range_with_len 0 (nurse_count c))

  abbrev given : Known
  given = record { source = source; name = name; nurses = nurses; shifts = shifts; skills = skills }

  known_same : given ≡ known_by source c
  known_same = λ i. record {
    source = source;
    name = name_is i;
    nurses = nurses_are i;
    shifts = shifts_are i;
    skills = skills_are i;
  }

  pub faults_same : flat_map (solution_faults given) (enumerate_from 0 b.solutions) ≡ roster_faults source c b
  unfolding roster_faults
  faults_same = ap (λ known. flat_map (solution_faults known) (enumerate_from 0 b.solutions)) known_same
