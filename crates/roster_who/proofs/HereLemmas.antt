-- A roster from which the work of absent nurses is taken out still fits the case.
use Rattle.std.proofs.Common.{◌≡◌, ◌∙◌, ◌<◌, ◌==◌, ℕ, Bool, true, false, ap, arith, cond, eq-eqb, length, map, refl}
use Rattle.std.specs.List.{list_all, range_with_len}
use Rattle.std.proofs.lemmas.Bool.{and_from}
use Rattle.std.proofs.lemmas.List.FromFn.{get_or-map-range_with_len, length-map-range_with_len}
use Rattle.std.proofs.lemmas.List.Sums.{list_all-from_AllPass}
use Rattle.roster_instance.specs.declared.choice.Choice.TheVariants.{Off}
use Rattle.roster_instance.specs.Meaning.{Meaning, day_count, is_absent, nurse_count}
use Rattle.roster_instance.specs.Rosters.{Row, Rows, choice_on, fits_case, is_choice_of, is_row_of, row_of}
use Rattle.roster_who.specs.Who.{here_choice, without_absent_work}
use Rattle.roster_who.proofs.SlotLemmas.{own_fits}

-- a test that f passes at each number below n passes on the whole list
all_made : {X : Type 0} (p : X → Bool) (f : ℕ → X) (n : ℕ) → ((k : ℕ) → k < n → p (f k) ≡ true) → list_all p (map f (range_with_len 0 n)) ≡ true
all_made p f n each =
    list_all-from_AllPass p (map f (range_with_len 0 n))
    (λ k d h. let inside : k < n = omega (arith, h, length-map-range_with_len f 0 n) in ap p (get_or-map-range_with_len f 0 n k k d inside (omega arith)) ∙ each k inside)

module _ (c : Meaning) (r : Rows) (fits : fits_case c r ≡ true) where
  choice_fits : (n d : ℕ) → n < nurse_count c → is_choice_of c (here_choice c r n d) ≡ true
  choice_fits n d inside = go (is_absent c n d)
    where
      go : (b : Bool) → is_choice_of c (cond b Off (choice_on (row_of r n) d)) ≡ true
      go true = refl
      go false = own_fits c r n d fits inside

  row_fits : (n : ℕ) → n < nurse_count c → is_row_of c (map (here_choice c r n) (range_with_len 0 (day_count c))) ≡ true
  row_fits n inside =
      and_from (length (map (here_choice c r n) (range_with_len 0 (day_count c))) == day_count c) (list_all (is_choice_of c) (map (here_choice c r n) (range_with_len 0 (day_count c)))) (eq-eqb _ _ (length-map-range_with_len (here_choice c r n) 0 (day_count c)))
      (all_made (is_choice_of c) (here_choice c r n) (day_count c) (λ d h. choice_fits n d inside))

  pub here_fits : fits_case c (without_absent_work c r) ≡ true
  here_fits =
      let of_nurse : ℕ → Row = λ n. map (here_choice c r n) (range_with_len 0 (day_count c)) in
      and_from (length (map of_nurse (range_with_len 0 (nurse_count c))) == nurse_count c) (list_all (is_row_of c) (map of_nurse (range_with_len 0 (nurse_count c)))) (eq-eqb _ _ (length-map-range_with_len of_nurse 0 (nurse_count c)))
      (all_made (is_row_of c) of_nurse (nurse_count c) row_fits)
