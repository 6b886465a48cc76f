-- The tokens of a text that consists of words and marks, each followed by separators.
use Rattle.std.proofs.Common.{◌≡◌, ◌⊎◌, inl, inr, ℕ, ◌+◌, ◌-◌, ◌<◌, ◌≤◌, Bool, true, List, [], ◌∷◌, ◌++◌, length, map, get_or, take, drop, refl, sym, subst, ◌∙◌, ap, arith, ⊎_elim, append_assoc, length-append, length-drop}
use Rattle.std.proofs.lemmas.Bool.{and_parts, ltb-true}
use Rattle.std.proofs.lemmas.List.{get_or-drop, get_or_append_left, drop-drop, drop_at, take_at}
use Rattle.std.proofs.lemmas.List.Sums.{AllPass-from_list_all}
use Rattle.std.specs.Prelude.{IsTrue}
use Rattle.std.specs.List.{AllByRecursion, flat_map, list_all, prefix_len}
use Rattle.roster_text.proofs.TokenLemmas.{is_word_byte-separator, token_at-separator, tokens_from-over, tokens_from-end, tokens_from-mark, tokens_from-word, word_end_from, IsBetweenTokens-after, IsBetweenTokens-start}
use Rattle.roster_bundle.specs.Token.{is_separator, is_mark, is_word_byte, is_word, line_at, tokens_from, tokens_of, text_of, IsBetweenTokens}

-- the text of a token, and the separators after it
pub record Chunk : Type 0 where
  pub text : List ℕ
  pub gap : List ℕ

abbrev pub chunk : List ℕ → List ℕ → Chunk
chunk text gap = record { text = text; gap = gap }

-- a word, or a mark alone
pub record IsMarkAlone (text : List ℕ) : Type 0 where
  pub byte : ℕ
  pub mark : IsTrue (is_mark byte)
  pub is : text ≡ byte ∷ []

pub record IsGap (gap : List ℕ) : Type 0 where
  pub some : 0 < length gap
  pub separators : list_all is_separator gap ≡ true

pub record IsChunk (p : Chunk) : Type 0 where
  pub text : IsTrue (is_word p.text) ⊎ IsMarkAlone p.text
  pub gap : IsGap p.gap

pub word_chunk : (text gap : List ℕ) → IsTrue (is_word text) → IsGap gap → IsChunk (chunk text gap)
word_chunk text gap word is_gap = record { text = inl word; gap = is_gap }

pub mark_chunk : (text gap : List ℕ) → IsMarkAlone text → IsGap gap → IsChunk (chunk text gap)
mark_chunk text gap mark is_gap = record { text = inr mark; gap = is_gap }

abbrev pub bytes : List Chunk → List ℕ
bytes ps = flat_map (λ p. p.text ++ p.gap) ps

abbrev pub texts : List Chunk → List (List ℕ)
texts ps = map (λ p. p.text) ps

-- ---- the text from a position on

pub record Stands (text : List ℕ) (i : ℕ) (rest : List ℕ) : Type 0 where
  pub inside : i ≤ length text
  pub is : drop i text ≡ rest

stands_length : (text : List ℕ) (i : ℕ) (rest : List ℕ) → Stands text i rest → length text ≡ i + length rest
stands_length text i rest s = omega (arith, length-drop i text, ap length s.is, s.inside)

stands_after : (text : List ℕ) (i : ℕ) (front rest : List ℕ) → Stands text i (front ++ rest) → Stands text (i + length front) rest
stands_after text i front rest s = record {
  inside = omega (arith, stands_length text i (front ++ rest) s, length-append front rest);
  is = sym (drop-drop (length front) i text) ∙ ap (drop (length front)) s.is ∙ drop_at front rest (length front) refl;
}

byte_at : (text : List ℕ) (i : ℕ) (front rest : List ℕ) → Stands text i (front ++ rest) → (k : ℕ) → i ≤ k → k < i + length front → get_or text k 0 ≡ get_or front (k - i) 0
byte_at text i front rest s k low high =
    let position : i + (k - i) ≡ k = omega arith in
    ap (λ j. get_or text j 0) (sym position) ∙ sym (get_or-drop i text (k - i) 0) ∙ ap (λ l. get_or l (k - i) 0) s.is
    ∙ get_or_append_left front rest 0 (k - i) (omega arith)

-- each byte of a prefix passes the test
passes : (p : ℕ → Bool) (text : List ℕ) (i : ℕ) (front rest : List ℕ) → list_all p front ≡ true → Stands text i (front ++ rest) → (k : ℕ) → i ≤ k → k < i + length front → p (get_or text k 0) ≡ true
passes p text i front rest all s k low high =
    ap p (byte_at text i front rest s k low high) ∙ AllPass-from_list_all p front all (k - i) 0 (omega arith)

-- ---- separators

gap_over : (text : List ℕ) (i : ℕ) (gap rest : List ℕ) → IsGap gap → Stands text i (gap ++ rest) → tokens_from text i ≡ tokens_from text (i + length gap)
gap_over text i gap rest g s =
    tokens_from-over text i (length gap) (omega (arith, stands_length text i (gap ++ rest) s, length-append gap rest))
    (λ k low high. token_at-separator text k (passes is_separator text i gap rest g.separators s k low high))

gap_between : (text : List ℕ) (i : ℕ) (gap rest : List ℕ) → IsGap gap → Stands text i (gap ++ rest) → IsBetweenTokens text (i + length gap)
gap_between text i gap rest g s =
    let some : 0 < length gap = g.some in
    IsBetweenTokens-after text (i + length gap - 1) (i + length gap) (omega arith)
    (is_word_byte-separator _ (passes is_separator text i gap rest g.separators s (i + length gap - 1) (omega arith) (omega arith)))

-- ---- a word

-- a word goes on up to the separators after it
word_len : (w gap rest : List ℕ) → list_all is_word_byte w ≡ true → IsGap gap → prefix_len is_word_byte (w ++ (gap ++ rest)) ≡ length w
word_len [] [] rest all g = let none = g.some in absurd (omega arith)
word_len [] (b ∷ gap) rest all g = rw (is_word_byte-separator b (and_parts _ _ g.separators).0) refl
word_len (b ∷ w) gap rest all g =
    let parts = and_parts (is_word_byte b) (list_all is_word_byte w) all in
    rw (parts.0) (omega (arith, word_len w gap rest parts.1 g))

word_front : (w : List ℕ) → IsTrue (is_word w) → (0 < length w) × (list_all is_word_byte w ≡ true)
unfolding is_word
word_front w word = let parts = and_parts _ _ word in (ltb-true 0 (length w) parts.0, parts.1)

-- the first token from a position on, and what is after it
record Reads (text : List ℕ) (i j : ℕ) (bytes : List ℕ) : Type 0 where
  end : ℕ
  first : tokens_from text i ≡ record { start = i; end = end; line = line_at text i } ∷ tokens_from text j
  says : take (end - i) (drop i text) ≡ bytes

first_bytes : (text : List ℕ) (i : ℕ) (front rest : List ℕ) → Stands text i (front ++ rest) → take (i + length front - i) (drop i text) ≡ front
first_bytes text i front rest s =
    let n : i + length front - i ≡ length front = omega arith in
    ap (λ m. take m (drop i text)) n ∙ ap (take (length front)) s.is ∙ take_at front rest (length front) refl

word_read : (text : List ℕ) (i : ℕ) (w gap rest : List ℕ) → IsTrue (is_word w) → IsGap gap → Stands text i (w ++ (gap ++ rest)) → IsBetweenTokens text i → Reads text i (i + length w + length gap) w
word_read text i w gap rest word g s between =
    let front = word_front w word in
    let some : 0 < length w = front.0 in
    let inside : i < length text = omega (arith, stands_length text i (w ++ (gap ++ rest)) s, length-append w (gap ++ rest)) in
    let here = passes is_word_byte text i w (gap ++ rest) front.1 s i (omega arith) (omega arith) in
    let ends : word_end_from text i ≡ i + length w = ap (λ l. i + prefix_len is_word_byte l) s.is ∙ ap (λ n. i + n) (word_len w gap rest front.1 g) in
    record {
      end = i + length w;
      first = tokens_from-word text i inside here between
          ∙ ap (λ e. record { start = i; end = e; line = line_at text i } ∷ tokens_from text e) ends
          ∙ ap (λ ts. record { start = i; end = i + length w; line = line_at text i } ∷ ts) (gap_over text (i + length w) gap rest g (stands_after text i w (gap ++ rest) s));
      says = first_bytes text i w (gap ++ rest) s;
    }

mark_read : (text : List ℕ) (i b : ℕ) (gap rest : List ℕ) → IsTrue (is_mark b) → IsGap gap → Stands text i ((b ∷ []) ++ (gap ++ rest)) → Reads text i (i + length (b ∷ []) + length gap) (b ∷ [])
mark_read text i b gap rest mark g s =
    let inside : i < length text = omega (arith, stands_length text i ((b ∷ []) ++ (gap ++ rest)) s) in
    let position : i - i ≡ 0 = omega arith in
    let here : get_or text i 0 ≡ b = byte_at text i (b ∷ []) (gap ++ rest) s i (omega arith) (omega arith) ∙ ap (λ k. get_or (b ∷ []) k 0) position in
    record {
      end = i + 1;
      first = tokens_from-mark text i inside (ap is_mark here ∙ mark)
          ∙ ap (λ ts. record { start = i; end = i + 1; line = line_at text i } ∷ ts) (gap_over text (i + 1) gap rest g (stands_after text i (b ∷ []) (gap ++ rest) s));
      says = first_bytes text i (b ∷ []) (gap ++ rest) s;
    }

chunk_read : (text : List ℕ) (i : ℕ) (p : Chunk) (rest : List ℕ) → IsChunk p → Stands text i (p.text ++ (p.gap ++ rest)) → IsBetweenTokens text i → Reads text i (i + length p.text + length p.gap) p.text
chunk_read text i p rest is s between =
    ⊎_elim
    (λ word. word_read text i p.text p.gap rest word is.gap s between)
    (λ mark. subst (λ (w : List ℕ). Stands text i (w ++ (p.gap ++ rest)) → Reads text i (i + length w + length p.gap) w) (sym mark.is)
    (mark_read text i mark.byte p.gap rest mark.mark is.gap) s)
    is.text

-- ---- chunk after chunk

chunks_from : (text : List ℕ) (ps : List Chunk) (i : ℕ) → AllByRecursion IsChunk ps → Stands text i (bytes ps) → IsBetweenTokens text i → map (text_of text) (tokens_from text i) ≡ texts ps
chunks_from text [] i all s between = ap (map (text_of text)) (tokens_from-end text i (omega (arith, stands_length text i [] s)))
chunks_from text (p ∷ ps) i all s between =
    let here : Stands text i (p.text ++ (p.gap ++ bytes ps)) = record { inside = s.inside; is = s.is ∙ append_assoc p.text p.gap (bytes ps) } in
    let read = chunk_read text i p (bytes ps) all.0 here between in
    let after = stands_after text i p.text (p.gap ++ bytes ps) here in
    let rest = chunks_from text ps (i + length p.text + length p.gap) all.1 (stands_after text (i + length p.text) p.gap (bytes ps) after) (gap_between text (i + length p.text) p.gap (bytes ps) all.0.gap after) in
    ap (map (text_of text)) read.first ∙ (λ k. read.says k ∷ rest k)

-- the tokens have the texts of the chunks
pub chunks_read : (ps : List Chunk) → AllByRecursion IsChunk ps → map (text_of (bytes ps)) (tokens_of (bytes ps)) ≡ texts ps
chunks_read ps all = chunks_from (bytes ps) ps 0 all (record { inside = omega arith; is = refl }) (IsBetweenTokens-start (bytes ps))
