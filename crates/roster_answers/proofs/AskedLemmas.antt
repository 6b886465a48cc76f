-- The number of a name among others.
use Rattle.std.proofs.Common.{◌≡◌, ◌∙◌, ◌<◌, [], ℕ, List, None, Option, Some, ap, arith, cond, false, if◌then◌else◌, is_some, length, nat_lt, option_map, refl, slice_index_or, sym, true, Bool}
use Rattle.std.specs.Option.{option_or}
use Rattle.std.specs.Prelude.{bytes_eq, option_and_then}
use Rattle.std.proofs.lemmas.Bool.{le-ltb, lt-ltb}
use Rattle.std.proofs.lemmas.List.Sums.{position_or_len_is}
use Rattle.roster_instance.specs.Meaning.{Meaning, shift_at}
use Rattle.roster_instance.specs.Names.{find_name}
use Rattle.roster_reports.specs.Lines.{Text}
use Rattle.roster_answers.specs.Answer.{AskedNames, day_names, unknown_among, unknown_asked}
use Rattle.roster_answers.specs.declared.fault.Thing.{Thing}
use Rattle.roster_answers.specs.declared.fault.Thing.TheVariants as thing

-- the number is that of the first name that equals this text
pub found_at : (names : List Text) (name : Text) (number : ℕ) → number < length names → ((k : ℕ) → k < number → bytes_eq name (slice_index_or names k []) ≡ false) → bytes_eq name (slice_index_or names number []) ≡ true
    → Some number ≡ find_name names name
found_at names name number inside none is =
    let first = position_or_len_is (bytes_eq name) names number [] (omega (arith, inside)) none (λ _. is) in
    sym (ap (λ k. cond (nat_lt k (length names)) (Some k) None) first ∙ ap (λ b. cond b (Some number) None) (lt-ltb number (length names) inside))

-- or there is none
pub none_found : (names : List Text) (name : Text) → ((k : ℕ) → k < length names → bytes_eq name (slice_index_or names k []) ≡ false) → None ≡ find_name names name
none_found names name none =
    let end = position_or_len_is (bytes_eq name) names (length names) [] (omega arith) none (λ below. absurd (omega (arith, below))) in
    sym (ap (λ k. cond (nat_lt k (length names)) (Some k) None) end ∙ ap (λ b. cond b (Some (length names)) None) (le-ltb (length names) (length names) (omega arith)))

-- ---- what is asked for by names

-- if no thing of a name is found, the name has no number
is_missing : {A : Type 0} (f : ℕ → A) (o : Option ℕ) → None ≡ option_map f o → is_some o ≡ false
is_missing f None e = refl
is_missing f (Some n) e = absurd cc

-- the fault of a name, if it isn't known
abbrev unknown_unless : Thing → Text → Bool → Option (Thing × Text)
unknown_unless thing name known = if known then None else Some (thing, name)

module _ (c : Meaning) (names : AskedNames) where
  abbrev of_skill : Option (Thing × Text)
  of_skill = option_and_then (unknown_among thing.Skill c.skill_names) names.skill

  abbrev of_shift : Option (Thing × Text)
  of_shift = option_or (unknown_among thing.Shift c.shift_names names.shift) of_skill

  pub day_missing : None ≡ find_name (day_names c) names.day → unknown_asked c names ≡ Some (thing.Day, names.day)
  day_missing e = ap (λ (o : Option ℕ). option_or (unknown_unless thing.Day names.day (is_some o)) of_shift) (sym e)

  module _ (d : ℕ) (day : Some d ≡ find_name (day_names c) names.day) where
    day_known : unknown_asked c names ≡ of_shift
    day_known = ap (λ (o : Option ℕ). option_or (unknown_unless thing.Day names.day (is_some o)) of_shift) (sym day)

    pub shift_missing : None ≡ option_map shift_at (find_name c.shift_names names.shift) → unknown_asked c names ≡ Some (thing.Shift, names.shift)
    shift_missing e = day_known ∙ ap (λ b. option_or (unknown_unless thing.Shift names.shift b) of_skill) (is_missing shift_at (find_name c.shift_names names.shift) e)
