-- The lines of a solution that is shown: their chunks, and what they say once they are read.
use Rattle.std.proofs.Common.{◌≡◌, inl, ℕ, zero, suc, ◌+◌, ◌<◌, true, false, Some, None, List, [], ◌∷◌, ◌++◌, length, map, codes, refl, ◌∙◌, ap, arith, append_assoc, option_map}
use Rattle.std.proofs.lemmas.Bool.{and_parts}
use Rattle.std.specs.Prelude.{IsTrue, not, ◌&&◌, nat_lt}
use Rattle.std.specs.List.{AllByRecursion, cons_option, filter_map, flat_map, list_all, range_with_len}
use Rattle.roster_bundle.specs.declared.bundle.Assignment.{Assignment}
use Rattle.roster_bundle.specs.declared.bundle.Day.{Day}
use Rattle.roster_bundle.specs.declared.bundle.Day.TheVariants as days
use Rattle.roster_bundle.specs.declared.token.Token.{Token}
use Rattle.roster_bundle.specs.Canonical.{Shown, assignment_on, assignments, assignment_line, nurse_assignments, weekday_text}
use Rattle.roster_bundle.specs.Canonical.{Assignment as ShownAssignment}
use Rattle.roster_text.specs.Grammar as grammar
use Rattle.roster_text.specs.Grammar.{Spelled, is_name}
use Rattle.roster_bundle.specs.Weekdays.{short}
use Rattle.roster_text.specs.ReadBack.{HasWords, said}
use Rattle.roster_bundle.specs.Weekdays.{weekday}
use Rattle.roster_bundle.specs.Token.{all_seen, is_mark, is_separator, is_word, is_word_byte, text_of}
use Rattle.roster_text.proofs.Chunks.{Chunk, chunk, IsGap, IsChunk, word_chunk, bytes, texts}
use Rattle.roster_text.proofs.TokenLemmas.{is_mark-word_byte}

-- ---- days

-- the day with this number
pub record IsDay (n : ℕ) : Type 0 where
  pub day : Day
  pub number : weekday day ≡ n
  pub text : weekday_text n ≡ short day
  pub word : IsTrue (is_word (weekday_text n))

pub is_day : (n : ℕ) → n < 7 → IsDay n
unfolding is_word is_word_byte is_separator is_mark
is_day zero h = record { day = days.Monday; number = refl; text = refl; word = refl }
is_day (suc zero) h = record { day = days.Tuesday; number = refl; text = refl; word = refl }
is_day (suc (suc zero)) h = record { day = days.Wednesday; number = refl; text = refl; word = refl }
is_day (suc (suc (suc zero))) h = record { day = days.Thursday; number = refl; text = refl; word = refl }
is_day (suc (suc (suc (suc zero)))) h = record { day = days.Friday; number = refl; text = refl; word = refl }
is_day (suc (suc (suc (suc (suc zero))))) h = record { day = days.Saturday; number = refl; text = refl; word = refl }
is_day (suc (suc (suc (suc (suc (suc zero)))))) h = record { day = days.Sunday; number = refl; text = refl; word = refl }
is_day (suc (suc (suc (suc (suc (suc (suc n))))))) h = absurd (omega arith)

-- ---- the day of each assignment is one of a week

abbrev OnWeek : ShownAssignment → Type 0
OnWeek a = a.weekday < 7

AllByRecursion-append : {X : Type 0} (P : X → Type 0) (xs ys : List X) → AllByRecursion P xs → AllByRecursion P ys → AllByRecursion P (xs ++ ys)
AllByRecursion-append P [] ys all more = more
AllByRecursion-append P (x ∷ xs) ys all more = (all.0, AllByRecursion-append P xs ys all.1 more)

AllByRecursion-flat_map : {X Y : Type 0} (P : Y → Type 0) (f : X → List Y) → ((x : X) → AllByRecursion P (f x)) → (xs : List X) → AllByRecursion P (flat_map f xs)
AllByRecursion-flat_map P f each [] = tt
AllByRecursion-flat_map P f each (x ∷ xs) = AllByRecursion-append P (f x) (flat_map f xs) (each x) (AllByRecursion-flat_map P f each xs)

on_week : (s : Shown) (n i m : ℕ) → i + m < 8 → AllByRecursion OnWeek (filter_map (assignment_on s n) (range_with_len i m))
on_week s n i zero low = tt
on_week s n i (suc m) low =
    let rest = on_week s n (i + 1) m (omega arith) in
    elim (s.on n i) as (λ o. AllByRecursion OnWeek (cons_option (option_map (λ work. record { nurse = s.nurse n; weekday = i; shift = work.0; skill = work.1 }) o) (filter_map (assignment_on s n) (range_with_len (i + 1) m)))) [
      | None ↦ rest
      | Some work ↦ (omega arith, rest)
    ]

pub all_on_week : (s : Shown) → AllByRecursion OnWeek (assignments s)
unfolding assignments nurse_assignments
all_on_week s = AllByRecursion-flat_map OnWeek (nurse_assignments s) (λ n. on_week s n 0 7 (omega arith)) (range_with_len 0 s.nurses)

-- an assignment that can be read: its names are words and its day is one of a week
pub record IsLine (a : ShownAssignment) : Type 0 where
  pub words : HasWords a
  pub day : IsDay a.weekday

pub all_lines : (xs : List ShownAssignment) → AllByRecursion HasWords xs → AllByRecursion OnWeek xs → AllByRecursion IsLine xs
all_lines [] words week = tt
all_lines (a ∷ xs) words week = (record { words = words.0; day = is_day a.weekday week.0 }, all_lines xs words.1 week.1)

-- ---- the chunks of a line

pub blank : IsGap (codes " ")
unfolding is_separator
blank = record { some = omega arith; separators = refl }

pub feed : IsGap (codes "\n")
unfolding is_separator
feed = record { some = omega arith; separators = refl }

abbrev pub line_chunks : ShownAssignment → List Chunk
line_chunks a = chunk a.nurse (codes " ") ∷ chunk (weekday_text a.weekday) (codes " ") ∷ chunk a.shift (codes " ") ∷ chunk a.skill (codes "\n") ∷ []

pub lines_bytes : (xs : List ShownAssignment) → bytes (flat_map line_chunks xs) ≡ flat_map assignment_line xs
unfolding assignment_line
lines_bytes [] = refl
lines_bytes (a ∷ xs) = joined a.nurse (weekday_text a.weekday) a.shift a.skill (codes " ") (codes "\n") _ _ (lines_bytes xs)
  where
    joined : (nurse day shift skill gap end rest others : List ℕ) → rest ≡ others
        → (nurse ++ gap) ++ ((day ++ gap) ++ ((shift ++ gap) ++ ((skill ++ end) ++ rest))) ≡ (nurse ++ gap ++ day ++ gap ++ shift ++ gap ++ skill ++ end) ++ others
    joined nurse day shift skill gap end rest others e = rw e (simp append_assoc)

pub lines_are_chunks : (xs : List ShownAssignment) → AllByRecursion IsLine xs → AllByRecursion IsChunk (flat_map line_chunks xs)
lines_are_chunks [] all = tt
lines_are_chunks (a ∷ xs) all =
    let words = all.0.words in
    (word_chunk _ _ words.nurse blank, (word_chunk _ _ all.0.day.word blank, (word_chunk _ _ words.shift blank, (word_chunk _ _ words.skill feed, lines_are_chunks xs all.1))))

-- ---- the lines as they are read

-- a word is a name
pub word_is_name : (w : List ℕ) → IsTrue (is_word w) → is_name w ≡ true
unfolding is_word
word_is_name [] word = let none : false ≡ true = word in absurd cc
word_is_name (b ∷ w) word =
    let all : (is_word_byte b && list_all is_word_byte w) ≡ true = (and_parts (nat_lt 0 (length (b ∷ w))) (list_all is_word_byte (b ∷ w)) word).1 in
    ap not (is_mark-word_byte b (and_parts (is_word_byte b) (list_all is_word_byte w) all).0)

pub name_reads : (w read : List ℕ) → read ≡ w → IsTrue (is_word w) → is_name read ≡ true
name_reads w read e word = ap is_name e ∙ word_is_name w word

-- the tokens spell assignments that say what is shown
pub record LinesRead (source : List ℕ) (ts : List Token) (xs : List ShownAssignment) : Type 0 where
  pub items : List Assignment
  pub spelled : Spelled (flat_map grammar.assignment items) (all_seen source ts)
  pub says : map (said source) items ≡ xs

pub lines_read : (source : List ℕ) (xs : List ShownAssignment) → AllByRecursion IsLine xs → (ts : List Token) → map (text_of source) ts ≡ texts (flat_map line_chunks xs) → LinesRead source ts xs
lines_read source [] all [] e = record { items = []; spelled = tt; says = refl }
lines_read source [] all (t ∷ ts) e = absurd cc
lines_read source (a ∷ xs) all [] e = absurd cc
lines_read source (a ∷ xs) all (n ∷ []) e = absurd cc
lines_read source (a ∷ xs) all (n ∷ d ∷ []) e = absurd cc
lines_read source (a ∷ xs) all (n ∷ d ∷ f ∷ []) e = absurd cc
lines_read source (a ∷ xs) all (n ∷ d ∷ f ∷ k ∷ ts) e =
    let nurse : text_of source n ≡ a.nurse = cc in
    let day : text_of source d ≡ weekday_text a.weekday = cc in
    let shift : text_of source f ≡ a.shift = cc in
    let skill : text_of source k ≡ a.skill = cc in
    let after : map (text_of source) ts ≡ texts (flat_map line_chunks xs) = cc in
    let words = all.0.words in
    let on = all.0.day in
    let rest = lines_read source xs all.1 ts after in
    record {
      items = record { nurse = n; day = on.day; shift = f; skill = k } ∷ rest.items;
      spelled = ((name_reads _ _ nurse words.nurse, refl), (inl (day ∙ on.text), ((name_reads _ _ shift words.shift, refl), ((name_reads _ _ skill words.skill, refl), rest.spelled))));
      says = λ i. record { nurse = nurse i; weekday = on.number i; shift = shift i; skill = skill i } ∷ rest.says i;
    }
