-- The tokens from a position on, as the position moves over separators, a mark or a word.
use Rattle.std.proofs.Common.{◌≡◌, ℕ, zero, suc, ◌+◌, ◌-◌, ◌<◌, ◌≤◌, Bool, true, false, Some, None, List, [], ◌∷◌, length, get_or, drop, refl, sym, subst, ◌∙◌, ap, arith, ⊎_elim}
use Rattle.std.proofs.lemmas.Bool.{cases_Bool, both_ways, or_left, or_right, or_from, or_parts, and_from, and_right, not-true, not_from_true, not_from_false, lt-ltb, cond-true, cond-false}
use Rattle.std.proofs.lemmas.List.{get_or-drop, length-drop}
use Rattle.std.proofs.lemmas.List.Sums.{prefix_len_passes, prefix_len_stops, prefix_len-le-length, prefix_len-drop_yes}
use Rattle.std.specs.Prelude.{IsTrue, IsFalse}
use Rattle.std.specs.List.{cons_option, prefix_len}
use Rattle.roster_text.proofs.TokenLines.{line_at-other, line_at-over}
use Rattle.roster_bundle.specs.Token.{is_separator, is_mark, is_word_byte, follows_word_byte, begins_at, end_from, line_at, token_at, tokens_from, IsBetweenTokens}

-- ---- each byte is of one class

pub is_mark-word_byte : (b : ℕ) → IsTrue (is_word_byte b) → IsFalse (is_mark b)
unfolding is_word_byte
is_mark-word_byte b word = (or_parts _ _ (not-true _ word)).1

pub is_word_byte-separator : (b : ℕ) → IsTrue (is_separator b) → IsFalse (is_word_byte b)
unfolding is_word_byte
is_word_byte-separator b separator = not_from_true _ (or_left _ _ separator)

pub is_word_byte-mark : (b : ℕ) → IsTrue (is_mark b) → IsFalse (is_word_byte b)
unfolding is_word_byte
is_word_byte-mark b mark = not_from_true _ (or_right _ _ mark)

pub is_mark-separator : (b : ℕ) → IsTrue (is_separator b) → IsFalse (is_mark b)
unfolding is_separator is_mark
is_mark-separator b separator = grind arith

pub word_byte_from : (b : ℕ) → IsFalse (is_separator b) → IsFalse (is_mark b) → IsTrue (is_word_byte b)
unfolding is_word_byte
word_byte_from b no_separator no_mark = not_from_false _ (or_from _ _ no_separator no_mark)

-- ---- what begins at a position

pub token_at-mark : (text : List ℕ) (i : ℕ) → IsTrue (is_mark (get_or text i 0)) → token_at text i ≡ Some (record { start = i; end = i + 1; line = line_at text i })
unfolding token_at begins_at end_from
token_at-mark text i mark = rw (mark) refl

pub token_at-word : (text : List ℕ) (i : ℕ) → IsTrue (is_word_byte (get_or text i 0)) → IsFalse (follows_word_byte text i) → token_at text i ≡ Some (record { start = i; end = i + prefix_len is_word_byte (drop i text); line = line_at text i })
unfolding token_at begins_at end_from
token_at-word text i word first = rw (is_mark-word_byte _ word, word, first) refl

pub token_at-separator : (text : List ℕ) (i : ℕ) → IsTrue (is_separator (get_or text i 0)) → token_at text i ≡ None
unfolding token_at begins_at end_from
token_at-separator text i separator = rw (is_mark-separator _ separator, is_word_byte-separator _ separator) refl

pub token_at-in_word : (text : List ℕ) (i : ℕ) → IsTrue (is_word_byte (get_or text i 0)) → IsTrue (follows_word_byte text i) → token_at text i ≡ None
unfolding token_at begins_at end_from
token_at-in_word text i word follows = rw (is_mark-word_byte _ word, word, follows) refl

-- ---- the tokens from a position on

pub tokens_from-more : (text : List ℕ) (i : ℕ) → i < length text → tokens_from text i ≡ cons_option (token_at text i) (tokens_from text (i + 1))
unfolding tokens_from
tokens_from-more text i inside =
    let one_less : length text - i ≡ suc (length text - (i + 1)) = omega arith in
    rw one_less refl

pub tokens_from-end : (text : List ℕ) (i : ℕ) → length text ≤ i → tokens_from text i ≡ []
unfolding tokens_from
tokens_from-end text i outside =
    let none_left : length text - i ≡ 0 = omega arith in
    rw none_left refl

-- positions at which no token begins
pub tokens_from-over : (text : List ℕ) (i n : ℕ) → i + n ≤ length text → ((k : ℕ) → i ≤ k → k < i + n → token_at text k ≡ None) → tokens_from text i ≡ tokens_from text (i + n)
tokens_from-over text i zero inside none = ap (tokens_from text) (omega arith)
tokens_from-over text i (suc n) inside none =
    let next : i + n + 1 ≡ i + suc n = omega arith in
    tokens_from-over text i n (omega arith) (λ k low high. none k low (omega arith))
    ∙ tokens_from-more text (i + n) (omega arith)
    ∙ ap (λ t. cons_option t (tokens_from text (i + n + 1))) (none (i + n) (omega arith) (omega arith))
    ∙ ap (tokens_from text) next

-- what is known of a prefix of bytes, by position
pub passes_from : (p : ℕ → Bool) (text : List ℕ) (i k : ℕ) → i ≤ k → k < i + prefix_len p (drop i text) → p (get_or text k 0) ≡ true
passes_from p text i k low high =
    let position : i + (k - i) ≡ k = omega arith in
    ap p (sym (get_or-drop i text (k - i) 0 ∙ ap (λ j. get_or text j 0) position)) ∙ prefix_len_passes p (drop i text) (k - i) 0 (omega arith)

pub stops_after : (p : ℕ → Bool) (text : List ℕ) (i : ℕ) → i + prefix_len p (drop i text) < length text → p (get_or text (i + prefix_len p (drop i text)) 0) ≡ false
stops_after p text i inside =
    ap p (sym (get_or-drop i text _ 0)) ∙ prefix_len_stops p (drop i text) 0 (omega (arith, length-drop i text))

pub front_within : (p : ℕ → Bool) (text : List ℕ) (i : ℕ) → i ≤ length text → i + prefix_len p (drop i text) ≤ length text
front_within p text i inside = omega (arith, prefix_len-le-length p (drop i text), length-drop i text)

-- a position within a word, after its first byte
pub follows-in_word : (text : List ℕ) (i k : ℕ) → i < k → k ≤ i + prefix_len is_word_byte (drop i text) → IsTrue (follows_word_byte text k)
unfolding follows_word_byte
follows-in_word text i k low high =
    and_from _ _ (lt-ltb 0 k (omega arith)) (passes_from is_word_byte text i (k - 1) (omega arith) (omega arith))

-- ---- separators, a mark, a word

-- no word extends across a position after a byte that isn't a word byte
pub IsBetweenTokens-after : (text : List ℕ) (i j : ℕ) → j ≡ i + 1 → IsFalse (is_word_byte (get_or text i 0)) → IsBetweenTokens text j
unfolding follows_word_byte
IsBetweenTokens-after text i j next other inside word =
    let before : j - 1 ≡ i = omega arith in
    and_right _ _ (ap (λ k. is_word_byte (get_or text k 0)) before ∙ other)

pub IsBetweenTokens-start : (text : List ℕ) → IsBetweenTokens text 0
unfolding follows_word_byte
IsBetweenTokens-start text inside word = refl

pub tokens_from-separators : (text : List ℕ) (i : ℕ) → i ≤ length text → tokens_from text i ≡ tokens_from text (i + prefix_len is_separator (drop i text))
tokens_from-separators text i inside =
    tokens_from-over text i (prefix_len is_separator (drop i text)) (front_within is_separator text i inside)
    (λ k low high. token_at-separator text k (passes_from is_separator text i k low high))

pub IsBetweenTokens-separators : (text : List ℕ) (i n : ℕ) → n ≡ prefix_len is_separator (drop i text) → IsBetweenTokens text i → IsBetweenTokens text (i + n)
IsBetweenTokens-separators text i zero front between =
    let same : i ≡ i + zero = omega arith in
    subst (IsBetweenTokens text) same between
IsBetweenTokens-separators text i (suc n) front between =
    IsBetweenTokens-after text (i + n) (i + suc n) (omega arith)
    (is_word_byte-separator _ (passes_from is_separator text i (i + n) (omega arith) (omega arith)))

pub tokens_from-mark : (text : List ℕ) (i : ℕ) → i < length text → IsTrue (is_mark (get_or text i 0)) → tokens_from text i ≡ record { start = i; end = i + 1; line = line_at text i } ∷ tokens_from text (i + 1)
tokens_from-mark text i inside mark =
    tokens_from-more text i inside ∙ ap (λ t. cons_option t (tokens_from text (i + 1))) (token_at-mark text i mark)

-- the position at which the word ends
abbrev pub word_end_from : List ℕ → ℕ → ℕ
word_end_from text i = i + prefix_len is_word_byte (drop i text)

pub word_end-lt : (text : List ℕ) (i : ℕ) → i < length text → IsTrue (is_word_byte (get_or text i 0)) → i < word_end_from text i
word_end-lt text i inside word = omega (arith, prefix_len-drop_yes is_word_byte text i 0 inside word)

pub tokens_from-word : (text : List ℕ) (i : ℕ) → i < length text → IsTrue (is_word_byte (get_or text i 0)) → IsBetweenTokens text i → tokens_from text i ≡ record { start = i; end = word_end_from text i; line = line_at text i } ∷ tokens_from text (word_end_from text i)
tokens_from-word text i inside word between =
    let n = prefix_len is_word_byte (drop (i + 1) text) in
    let more : word_end_from text i ≡ i + 1 + n = omega (arith, prefix_len-drop_yes is_word_byte text i 0 inside word) in
    let in_word : (k : ℕ) → i + 1 ≤ k → k < i + 1 + n → token_at text k ≡ None =
    λ k low high. token_at-in_word text k (passes_from is_word_byte text i k (omega arith) (omega arith))
    (follows-in_word text i k (omega arith) (omega arith)) in
    tokens_from-more text i inside
    ∙ ap (λ t. cons_option t (tokens_from text (i + 1))) (token_at-word text i word (between inside word))
    ∙ ap (λ ts. record { start = i; end = word_end_from text i; line = line_at text i } ∷ ts)
    (tokens_from-over text (i + 1) n (omega (arith, front_within is_word_byte text (i + 1) (omega arith))) in_word ∙ ap (tokens_from text) (sym more))

-- ---- the two searches for the next token

-- the next token from `at` on begins at `start`, or no token is left from there on
pub record IsNextStart (text : List ℕ) (at start : ℕ) : Type 0 where
  pub within : start ≤ length text
  pub same : tokens_from text at ≡ tokens_from text start
  pub between : IsBetweenTokens text start
  pub stands : start < length text → IsFalse (is_separator (get_or text start 0))

pub next_start_is : (text : List ℕ) (at start : ℕ) → at ≤ length text → IsBetweenTokens text at → start ≡ at + prefix_len is_separator (drop at text) → IsNextStart text at start
next_start_is text at start inside between position = subst (IsNextStart text at) (sym position) (record {
  within = front_within is_separator text at inside;
  same = tokens_from-separators text at inside;
  between = IsBetweenTokens-separators text at _ refl between;
  stands = stops_after is_separator text at;
})

-- the token that begins at `start` ends at `end`
pub record IsNextEnd (text : List ℕ) (start end : ℕ) : Type 0 where
  pub above : start < end
  pub within : end ≤ length text
  pub first : tokens_from text start ≡ record { start = start; end = end; line = line_at text start } ∷ tokens_from text end
  pub between : IsBetweenTokens text end
  pub same_line : line_at text end ≡ line_at text start

-- a mark is no LF, nor is a word byte
is_mark-feed : (b : ℕ) → IsTrue (is_mark b) → b ≡ 10 → ⊥
unfolding is_mark
is_mark-feed b mark feed = grind arith

is_word_byte-feed : (b : ℕ) → IsTrue (is_word_byte b) → b ≡ 10 → ⊥
unfolding is_word_byte is_separator
is_word_byte-feed b word feed = grind arith

mark_end_is : (text : List ℕ) (start : ℕ) → start < length text → IsTrue (is_mark (get_or text start 0)) → IsNextEnd text start (start + 1)
mark_end_is text start inside mark = record {
  above = omega arith;
  within = omega arith;
  first = tokens_from-mark text start inside mark;
  between = IsBetweenTokens-after text start (start + 1) refl (is_word_byte-mark _ mark);
  same_line = line_at-other text start inside (is_mark-feed _ mark);
}

word_end_is : (text : List ℕ) (start : ℕ) → start < length text → IsTrue (is_word_byte (get_or text start 0)) → IsBetweenTokens text start → IsNextEnd text start (word_end_from text start)
word_end_is text start inside word between = record {
  above = word_end-lt text start inside word;
  within = front_within is_word_byte text start (omega arith);
  first = tokens_from-word text start inside word between;
  between = λ more next_word. absurd (both_ways _ (stops_after is_word_byte text start more) next_word);
  same_line = line_at-over text start _ (front_within is_word_byte text start (omega arith)) (λ k low high. is_word_byte-feed _ (passes_from is_word_byte text start k low high));
}

pub next_end_is : (text : List ℕ) (start end : ℕ) → start < length text → IsBetweenTokens text start → IsFalse (is_separator (get_or text start 0)) → end ≡ end_from text start → IsNextEnd text start end
unfolding end_from
next_end_is text start end inside between stands position =
    ⊎_elim
    (λ mark. subst (IsNextEnd text start) (sym (position ∙ cond-true _ _ _ mark)) (mark_end_is text start inside mark))
    (λ no_mark. subst (IsNextEnd text start) (sym (position ∙ cond-false _ _ _ no_mark)) (word_end_is text start inside (word_byte_from _ stands no_mark) between))
    (cases_Bool (is_mark (get_or text start 0)))
