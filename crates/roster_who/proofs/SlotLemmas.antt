-- No slot loses a nurse whom it needs exactly if the nurse stays where she is needed.
use Rattle.std.proofs.Common.{◌≡◌, ◌∙◌, ◌+◌, ◌<◌, ◌≤◌, ◌&&◌, ◌||◌, ◌==◌, ℕ, Bool, true, false, not, [], ap, ap₂, arith, refl, sym, length, min, nat_le, nat_lt}
use Rattle.std.proofs.lemmas.Bool.{and_from, and_parts, eqb-true, lt-ltb}
use Rattle.roster_instance.proofs.RosterFacts.{works-of_case}
use Rattle.std.proofs.lemmas.List.{set-get_or}
use Rattle.roster_instance.specs.declared.choice.Choice.{Choice}
use Rattle.roster_instance.specs.declared.choice.Choice.TheVariants.{Off, Work}
use Rattle.roster_instance.specs.Choices.{same_choice}
use Rattle.roster_instance.specs.Counting.{all_below, one_if}
use Rattle.roster_instance.specs.Meaning.{Meaning, minimum, nurse_count, shift_at, shift_count, skill_at, skill_count}
use Rattle.roster_instance.specs.Rosters.{Rows, choice_on, cover, fits_case, is_choice_of, row_of}
use Rattle.roster_laws.specs.OneRow.{others}
use Rattle.roster_laws.specs.Staffing.{with_choice}
use Rattle.roster_rules.proofs.AllBelow.{all_fails}
use Rattle.roster_laws.proofs.Below.{all_true}
use Rattle.roster_laws.proofs.OneRow.{cover-with_row}
use Rattle.roster_laws.proofs.SameRows.{same_choice_is, same_choice_self}
use Rattle.roster_who.specs.Offers.{is_needed, keeps_slots}

-- the test of two numbers passes if the first is at most the second
le_true : (a b : ℕ) → a ≤ b → nat_le a b ≡ true
le_true a b h = grind (arith, h)

le_false : (a b : ℕ) → b < a → nat_le a b ≡ false
le_false a b h = grind (arith, h)

not_needed : (have m : ℕ) → nat_le have m ≡ false → m < have
not_needed have m e = grind (arith, e)

needs : (have m : ℕ) → nat_le have m ≡ true → have ≤ m
needs have m e = grind (arith, e)

one_of : (b : Bool) → b ≡ true → one_if b ≡ 1
one_of b e = ap one_if e

none_of : (b : Bool) → b ≡ false → one_if b ≡ 0
none_of b e = ap one_if e

module _ (c : Meaning) (r : Rows) (n d : ℕ) (within : n < length r) where
  abbrev own : Choice
  own = choice_on (row_of r n) d

  abbrev at : Choice → ℕ → ℕ → Bool
  at x s k = same_choice x (Work (shift_at s) (skill_at k))

  -- the cover of a slot is that by the other nurses, and one more where this nurse works
  pub cover_is : (s k : ℕ) → cover r d s k ≡ others r n d s k + one_if (at own s k)
  cover_is s k = ap (λ rows. cover rows d s k) (sym (set-get_or r n [])) ∙ cover-with_row r n within (row_of r n) d s k

  abbrev test : Choice → ℕ → ℕ → Bool
  test x s k = nat_le (min (minimum c d s k) (cover r d s k)) (with_choice (others r n d) x s k)

  -- a slot in which she doesn't work is short by no more
  elsewhere : (x : Choice) (s k : ℕ) → at own s k ≡ false → test x s k ≡ true
  elsewhere x s k e =
      let none = none_of (at own s k) e in
      le_true (min (minimum c d s k) (cover r d s k)) (with_choice (others r n d) x s k) (omega (arith, cover_is s k, none))

  -- nor does hers, if it has more nurses than its minimum
  spared : (x : Choice) (s k : ℕ) → minimum c d s k < cover r d s k → test x s k ≡ true
  spared x s k more = le_true (min (minimum c d s k) (cover r d s k)) (with_choice (others r n d) x s k) (omega (arith, cover_is s k, more, one_below (at own s k)))
    where
      one_below : (b : Bool) → one_if b ≤ 1
      one_below true = omega arith
      one_below false = omega arith

  -- nor does any, if she stays
  stayed : (s k : ℕ) → test own s k ≡ true
  stayed s k = le_true (min (minimum c d s k) (cover r d s k)) (with_choice (others r n d) own s k) (omega (arith, cover_is s k))

  all_pass : (x : Choice) → ((s k : ℕ) → test x s k ≡ true) → keeps_slots c r n d x ≡ true
  all_pass x each = all_true (shift_count c) (λ s. all_below (skill_count c) (test x s)) (λ s h. all_true (skill_count c) (test x s) (λ k l. each s k))

  -- her slot is short by one more if she is needed there and leaves
  left : (x : Choice) (s k : ℕ) → s < shift_count c → k < skill_count c → at own s k ≡ true → at x s k ≡ false → cover r d s k ≤ minimum c d s k → keeps_slots c r n d x ≡ false
  left x s k shift_in skill_in mine not_there few =
      let one = one_of (at own s k) mine in
      let none = none_of (at x s k) not_there in
      all_fails (shift_count c) (λ t. all_below (skill_count c) (test x t)) s shift_in
      (all_fails (skill_count c) (test x s) k skill_in (le_false (min (minimum c d s k) (cover r d s k)) (with_choice (others r n d) x s k) (omega (arith, cover_is s k, one, none, few))))

  -- a choice is of one slot alone
  slot_of : (t l s k : ℕ) → ((t == s) && (l == k)) ≡ true → (t ≡ s) × (l ≡ k)
  slot_of t l s k e = let parts = and_parts (t == s) (l == k) e in (eqb-true t s parts.0, eqb-true l k parts.1)

  pub stays_where_needed : (x : Choice) → is_choice_of c own ≡ true → keeps_slots c r n d x ≡ (not (is_needed c r d own) || same_choice x own)
  stays_where_needed x fits = go own refl fits
    where
      apart : (y : Choice) (b : Bool) → own ≡ y → at y 0 0 ≡ b → at own 0 0 ≡ b
      apart y b is e = ap (λ z. at z 0 0) is ∙ e

      go : (y : Choice) → own ≡ y → is_choice_of c y ≡ true → keeps_slots c r n d x ≡ (not (is_needed c r d y) || same_choice x y)
      go Off is in_case = all_pass x (λ s k. elsewhere x s k (ap (λ z. at z s k) is))
      go (Work t l) is in_case = by (nat_le (cover r d t.0 l.0) (minimum c d t.0 l.0)) refl (same_choice x (Work t l)) refl
        where
          parts : (nat_lt t.0 (shift_count c) ≡ true) × (nat_lt l.0 (skill_count c) ≡ true)
          parts = and_parts (nat_lt t.0 (shift_count c)) (nat_lt l.0 (skill_count c)) in_case

          shift_in : t.0 < shift_count c
          shift_in = grind (arith, parts)

          skill_in : l.0 < skill_count c
          skill_in = grind (arith, parts)

          free : minimum c d t.0 l.0 < cover r d t.0 l.0 → (s k : ℕ) → test x s k ≡ true
          free more s k = at_slot ((t.0 == s) && (l.0 == k)) refl
            where
              at_slot : (b : Bool) → ((t.0 == s) && (l.0 == k)) ≡ b → test x s k ≡ true
              at_slot false e = elsewhere x s k (ap (λ z. at z s k) is ∙ e)
              at_slot true e =
                  let same = slot_of t.0 l.0 s k e in
                  spared x s k (omega (arith, more, ap₂ (minimum c d) same.0 same.1, ap₂ (cover r d) same.0 same.1))

          by : (needed : Bool) → nat_le (cover r d t.0 l.0) (minimum c d t.0 l.0) ≡ needed → (stays : Bool) → same_choice x (Work t l) ≡ stays → keeps_slots c r n d x ≡ (not needed || stays)
          by false e stays s_is = all_pass x (free (not_needed (cover r d t.0 l.0) (minimum c d t.0 l.0) e))
          by true e true s_is = ap (keeps_slots c r n d) (same_choice_is x (Work t l) s_is ∙ sym is) ∙ all_pass own stayed
          by true e false s_is =
              left x t.0 l.0 shift_in skill_in (ap (λ z. at z t.0 l.0) is ∙ same_choice_self (Work t l)) s_is (needs (cover r d t.0 l.0) (minimum c d t.0 l.0) e)

-- a nurse's choice in a roster that fits the case is one of the case's
pub own_fits : (c : Meaning) (r : Rows) (n d : ℕ) → fits_case c r ≡ true → n < nurse_count c → is_choice_of c (choice_on (row_of r n) d) ≡ true
own_fits c r n d fits inside = go (choice_on (row_of r n) d) refl
  where
    go : (x : Choice) → choice_on (row_of r n) d ≡ x → is_choice_of c x ≡ true
    go Off is = refl
    go (Work s k) is = let within = works-of_case c r n fits inside d s k is in and_from (nat_lt s.0 (shift_count c)) (nat_lt k.0 (skill_count c)) (lt-ltb s.0 (shift_count c) within.0) (lt-ltb k.0 (skill_count c) within.1)
