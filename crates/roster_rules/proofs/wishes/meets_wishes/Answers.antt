use Rattle.std.proofs.Common.{Bool, ◌≡◌, ◌∙◌, ◌<◌, ◌&&◌, ◌||◌, ℕ, ap, arith, false, inl, inr, is_some, not, slice_index_or, suc, sym, true, zero}
use Rattle.std.proofs.Math.Bool.{and-false}
use Rattle.std.proofs.lemmas.Bool.{cases_lt}
use Rattle.roster_instance.specs.Counting.{all_below}
use Rattle.roster_instance.specs.Days.{is_shift}
use Rattle.roster_instance.specs.Meaning.{has_wish, has_wish_for_any, shift_count}
use Rattle.roster_rules.proofs.wishes.meets_wishes.Goals as goal

-- if one test fails, not all pass
one_fails : (n i : ℕ) (p : ℕ → Bool) → i < n → p i ≡ false → all_below n p ≡ false
one_fails zero i p below fails = absurd (omega (arith, below))
one_fails (suc n) i p below fails = elim (cases_lt i n) [
  | inl earlier ↦ ap (λ b. b && p n) (one_fails n i p earlier fails)
  | inr not_earlier ↦
      let last : n ≡ i = omega (arith, below, not_earlier) in
      ap (λ b. all_below n p && b) (ap p last ∙ fails) ∙ and-false (all_below n p)
]

unmet : (wish met : Bool) → wish ≡ true → met ≡ false → (not wish || met) ≡ false
unmet wish met wished missed = rw (wished, missed)

pub returns-then-not-is_shift : goal.returns-then-not-is_shift
returns-then-not-is_shift c =
    let case = c.args.case.now in
    let nurse = c.args.nurse in
    let day = c.args.day in
    let number = c.loop-number.number in
    let wished : has_wish case nurse day number ≡ true = ap (λ w. slice_index_or w.shifts number false) (sym c.wishes-wishes.ensures) ∙ sym c.names.ensures ∙ c.if-names.true in
    let missed : is_shift number c.args.shift ≡ false = sym c.is_shift.ensures ∙ c.if-not-is_shift.true in
    let all = λ (s : ℕ). not (has_wish case nurse day s) || is_shift s c.args.shift in
    let inside : number < shift_count case = omega (arith, c.loop-number-test.true, c.shifts-number-end.ensures.count) in
    let any = not (has_wish_for_any case nurse day) || is_some c.args.shift in
    sym (ap (λ b. any && b) (one_fails (shift_count case) number all inside (unmet _ _ wished missed)) ∙ and-false any)
