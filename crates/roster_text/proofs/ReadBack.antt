-- The canonical text of a solution is read back.
use Rattle.std.proofs.Common.{◌≡◌, ℕ, ◌^◌, ◌<◌, ◌≤◌, true, List, [], ◌∷◌, ◌++◌, length, map, codes, decimal, refl, sym, subst, ◌∙◌, ap, arith, append_assoc}
use Rattle.std.proofs.lemmas.Bool.{and_from, lt-ltb}
use Rattle.std.proofs.lemmas.Fmt.{decimal_is_IsNumeral}
use Rattle.std.proofs.lemmas.List.{append-nil, length-map}
use Rattle.std.proofs.lemmas.List.Elements.{recursion_from_All}
use Rattle.std.proofs.lemmas.Str.Parse.{digit_from_value}
use Rattle.std.specs.Char.{is_ascii_digit}
use Rattle.std.specs.Prelude.{IsTrue}
use Rattle.std.specs.List.{AllByRecursion, flat_map, list_all}
use Rattle.std.specs.Str.Parse.{AllDigits, digits_value}
use Rattle.roster_bundle.specs.declared.bundle.Solution.{Solution}
use Rattle.roster_bundle.specs.declared.token.Token.{Token}
use Rattle.roster_bundle.specs.Canonical.{Shown, assignments, canonical, heading}
use Rattle.roster_text.specs.Grammar as grammar
use Rattle.roster_text.specs.Grammar.{Pattern, Spelled, is_number, solution}
use Rattle.roster_text.specs.ReadBack.{HasWords, IsReadBack, IsWritable, Says, said}
use Rattle.roster_text.specs.Reading.{solution_at}
use Rattle.roster_bundle.specs.Token.{Seen, all_seen, is_mark, is_separator, is_word, is_word_byte, text_of, tokens_of}
use Rattle.roster_text.proofs.GrammarReaders.{solution_reader}
use Rattle.roster_text.proofs.Chunks.{Chunk, chunk, IsGap, IsMarkAlone, IsChunk, word_chunk, mark_chunk, bytes, texts, chunks_read}
use Rattle.roster_text.proofs.Readers.{same_value}
use Rattle.roster_text.proofs.ShownLines.{IsLine, LinesRead, all_lines, all_on_week, blank, feed, line_chunks, lines_are_chunks, lines_bytes, lines_read, name_reads, word_is_name}

-- ---- a number in decimal

digit_is : (c : ℕ) → (48 ≤ c) × (c ≤ 57) → (is_ascii_digit c ≡ true) × (is_word_byte c ≡ true)
unfolding is_word_byte is_separator is_mark
digit_is c range = (grind arith, grind arith)

digits_are : (ds : List ℕ) → AllDigits 10 ds → (list_all is_ascii_digit ds ≡ true) × (list_all is_word_byte ds ≡ true)
digits_are [] all = (refl, refl)
digits_are (c ∷ cs) all =
    let here = digit_is c (digit_from_value c all.0) in
    let rest = digits_are cs all.1 in
    (and_from _ _ here.0 rest.0, and_from _ _ here.1 rest.1)

record IsDecimal (n : ℕ) (text : List ℕ) : Type 0 where
  word : IsTrue (is_word text)
  number : is_number text ≡ true
  value : digits_value 10 text ≡ n

decimal_is : (n : ℕ) → n < 2 ^ 64 → IsDecimal n (decimal n)
unfolding is_word
decimal_is n small =
    let numeral = decimal_is_IsNumeral n small in
    let digits = digits_are (decimal n) numeral.0.1 in
    let word = and_from _ _ (lt-ltb 0 (length (decimal n)) numeral.0.0) digits.1 in
    record {
      word = word;
      number = and_from _ _ (word_is_name (decimal n) word) digits.0;
      value = numeral.1;
    }

-- ---- the chunks of the text

abbrev heading_chunks : List ℕ → List ℕ → List ℕ → List Chunk → List Chunk
heading_chunks week name count rest =
    chunk (codes "SOLUTION") (codes "\n") ∷ chunk week (codes " ") ∷ chunk name (codes "\n\n")
    ∷ chunk (codes "ASSIGNMENTS") (codes " ") ∷ chunk (codes "=") (codes " ") ∷ chunk count (codes "\n") ∷ rest

abbrev chunks_of : Shown → List Chunk
chunks_of s = heading_chunks (decimal s.week) s.name (decimal (length (assignments s))) (flat_map line_chunks (assignments s))

feeds : IsGap (codes "\n\n")
unfolding is_separator
feeds = record { some = omega arith; separators = refl }

solution_word : IsTrue (is_word (codes "SOLUTION"))
unfolding is_word is_word_byte is_separator is_mark
solution_word = refl

assignments_word : IsTrue (is_word (codes "ASSIGNMENTS"))
unfolding is_word is_word_byte is_separator is_mark
assignments_word = refl

equals_mark : IsMarkAlone (codes "=")
unfolding is_mark
equals_mark = record { byte = 61; mark = refl; is = refl }

heading_joined : (first key equals week name count gap end ends rest others : List ℕ) → rest ≡ others
    → (first ++ end) ++ ((week ++ gap) ++ ((name ++ ends) ++ ((key ++ gap) ++ ((equals ++ gap) ++ ((count ++ end) ++ rest)))))
    ≡ ((first ++ end) ++ week ++ gap ++ name ++ (ends ++ (key ++ (gap ++ (equals ++ gap)))) ++ count ++ end) ++ others
heading_joined first key equals week name count gap end ends rest others same = rw same (simp append_assoc)

chunks_bytes : (s : Shown) → bytes (chunks_of s) ≡ canonical s
unfolding canonical heading
chunks_bytes s = heading_joined (codes "SOLUTION") (codes "ASSIGNMENTS") (codes "=") (decimal s.week) s.name (decimal (length (assignments s))) (codes " ") (codes "\n") (codes "\n\n") _ _ (lines_bytes (assignments s))

-- what makes a solution readable, line by line
record IsReadable (s : Shown) : Type 0 where
  week : IsDecimal s.week (decimal s.week)
  count : IsDecimal (length (assignments s)) (decimal (length (assignments s)))
  lines : AllByRecursion IsLine (assignments s)

readable : (s : Shown) → IsWritable s → IsReadable s
readable s w = record {
  week = decimal_is s.week (omega (arith, w.week));
  count = decimal_is (length (assignments s)) (omega (arith, w.count));
  lines = all_lines (assignments s) (recursion_from_All HasWords (assignments s) w.words) (all_on_week s);
}

chunks_are : (s : Shown) → IsWritable s → IsReadable s → AllByRecursion IsChunk (chunks_of s)
chunks_are s w r =
    (word_chunk _ _ solution_word feed, (word_chunk _ _ r.week.word blank, (word_chunk _ _ w.name feeds, (word_chunk _ _ assignments_word blank, (mark_chunk _ _ equals_mark blank, (word_chunk _ _ r.count.word feed, lines_are_chunks (assignments s) r.lines))))))

texts_read : (s : Shown) → IsWritable s → IsReadable s → map (text_of (canonical s)) (tokens_of (canonical s)) ≡ texts (chunks_of s)
texts_read s w r = subst (λ (text : List ℕ). map (text_of text) (tokens_of text) ≡ texts (chunks_of s)) (chunks_bytes s) (chunks_read (chunks_of s) (chunks_are s w r))

-- ---- the solution

-- the tokens spell a solution that says what is shown
record SolutionRead (source : List ℕ) (ts : List Token) (s : Shown) : Type 0 where
  value : Solution
  spelled : Spelled (solution value) (all_seen source ts)
  says : Says source value s

-- a number's token fits its pattern
number_fits : (n : ℕ) (text read : List ℕ) → read ≡ text → IsDecimal n text → (is_number read ≡ true) × (digits_value 10 read ≡ n)
number_fits n text read e d = (ap is_number e ∙ d.number, ap (digits_value 10) e ∙ d.value)

-- the heading's tokens, and those of the lines after them
solution_of : (source : List ℕ) (s : Shown) → IsWritable s → IsReadable s → (a b c d e f : Token) (ts : List Token)
    → text_of source a ≡ codes "SOLUTION" → text_of source b ≡ decimal s.week → text_of source c ≡ s.name
    → text_of source d ≡ codes "ASSIGNMENTS" → text_of source e ≡ codes "=" → text_of source f ≡ decimal (length (assignments s))
    → LinesRead source ts (assignments s) → SolutionRead source (a ∷ b ∷ c ∷ d ∷ e ∷ f ∷ ts) s
solution_of source s w r a b c d e f ts first week name key equals count lines =
    let many : length lines.items ≡ length (assignments s) = sym (length-map lines.items (said source)) ∙ ap length lines.says in
    let number = number_fits s.week (decimal s.week) (text_of source b) week r.week in
    let counted = number_fits (length (assignments s)) (decimal (length (assignments s))) (text_of source f) count r.count in
    let all : Spelled ((flat_map grammar.assignment lines.items ++ []) ++ []) (all_seen source ts) =
    subst (λ (ps : List Pattern). Spelled ps (all_seen source ts)) (sym (append-nil (flat_map grammar.assignment lines.items ++ []) ∙ append-nil (flat_map grammar.assignment lines.items))) lines.spelled in
    record {
      value = record { week = record { token = b; value = s.week }; scenario = c; assignments = record { count = f; items = lines.items } };
      spelled = (first, ((number.0, number.1, w.week, refl), ((name_reads _ _ name w.name, refl), (key, (equals, ((counted.0, counted.1 ∙ sym many, omega (arith, many, w.count), refl), all))))));
      says = record { week = refl; scenario = name; lines = lines.says };
    }

solution_read : (source : List ℕ) (s : Shown) → IsWritable s → IsReadable s → (ts : List Token) → map (text_of source) ts ≡ texts (chunks_of s) → SolutionRead source ts s
solution_read source s w r [] e = absurd cc
solution_read source s w r (a ∷ []) e = absurd cc
solution_read source s w r (a ∷ b ∷ []) e = absurd cc
solution_read source s w r (a ∷ b ∷ c ∷ []) e = absurd cc
solution_read source s w r (a ∷ b ∷ c ∷ d ∷ []) e = absurd cc
solution_read source s w r (a ∷ b ∷ c ∷ d ∷ q ∷ []) e = absurd cc
solution_read source s w r (a ∷ b ∷ c ∷ d ∷ q ∷ f ∷ ts) e =
    let after : map (text_of source) ts ≡ texts (flat_map line_chunks (assignments s)) = cc in
    solution_of source s w r a b c d q f ts (cc) (cc) (cc) (cc) (cc) (cc) (lines_read source (assignments s) r.lines ts after)

-- tokens spell one solution at most
spelled_once : (ts : List Seen) (v w : Solution) → Spelled (solution v) ts → Spelled (solution w) ts → v ≡ w
spelled_once ts v w s t =
    same_value v w [] [] (solution_at (ts ++ [])) (solution_reader.whole v ts [] tt s) (solution_reader.whole w ts [] tt t)

pub is_read_back : (s : Shown) → IsWritable s → IsReadBack s
is_read_back s w =
    let r = readable s w in
    let read = solution_read (canonical s) s w r (tokens_of (canonical s)) (texts_read s w r) in
    record {
      value = read.value;
      spelled = read.spelled;
      only = λ v spelled. spelled_once (all_seen (canonical s) (tokens_of (canonical s))) v read.value spelled read.spelled;
      says = read.says;
    }
