-- Properties of a text's tokens.
use Rattle.std.proofs.Common.{◌≡◌, ℕ, zero, suc, ◌+◌, ◌-◌, ◌<◌, ◌≤◌, true, Option, Some, None, List, length, get_or, take, drop, refl, sym, subst, ◌∙◌, ap, arith, ⊎_elim, inl, inr, ◌⊎◌}
use Rattle.std.proofs.lemmas.Bool.{cases_Bool, cases_lt, both_ways, and_parts, and_from, lt-ltb}
use Rattle.std.proofs.lemmas.List.{get_or-drop, get_or-take, length-drop, length-take-le}
use Rattle.std.proofs.lemmas.List.Elements.{All-nil, All-cons, All-from_get_or}
use Rattle.std.proofs.lemmas.List.Kept.{AllPairs-cons}
use Rattle.std.proofs.lemmas.List.Sums.{list_all-from_AllPass}
use Rattle.std.specs.Prelude.{IsTrue, IsFalse, IfSome, All, Any, AllPairs}
use Rattle.std.specs.List.{cons_option}
use Rattle.roster_text.proofs.TokenLemmas.{word_byte_from, token_at-mark, token_at-word, token_at-separator, token_at-in_word, tokens_from-more, tokens_from-end, passes_from, stops_after, front_within, follows-in_word, word_end_from, word_end-lt}
use Rattle.roster_bundle.specs.declared.token.Token.{Token}
use Rattle.roster_bundle.specs.Token.{is_separator, is_mark, is_word_byte, is_word, follows_word_byte, line_at, token_at, tokens_from, tokens_of, text_of, IsWithin, IsMark, IsWholeWord, IsMarkOrWord, Covers, AreTokensOf}

-- the token of a mark, and the token of a word
abbrev mark_at : List ℕ → ℕ → Token
mark_at text i = record { start = i; end = i + 1; line = line_at text i }

abbrev word_at : List ℕ → ℕ → Token
word_at text i = record { start = i; end = word_end_from text i; line = line_at text i }

-- what holds of a mark and of a word holds of each token that begins here
IfSome-token_at : (P : Token → Type 0) (text : List ℕ) (i : ℕ) → (IsTrue (is_mark (get_or text i 0)) → P (mark_at text i)) → (IsTrue (is_word_byte (get_or text i 0)) → IsFalse (follows_word_byte text i) → P (word_at text i)) → IfSome (token_at text i) P
IfSome-token_at P text i at_mark at_word =
    ⊎_elim
    (λ mark. subst (λ o. IfSome o P) (sym (token_at-mark text i mark)) (at_mark mark))
    (λ no_mark. ⊎_elim
    (λ separator. subst (λ o. IfSome o P) (sym (token_at-separator text i separator)) tt)
    (λ no_separator. let word = word_byte_from _ no_separator no_mark in ⊎_elim
    (λ follows. subst (λ o. IfSome o P) (sym (token_at-in_word text i word follows)) tt)
    (λ first. subst (λ o. IfSome o P) (sym (token_at-word text i word first)) (at_word word first))
    (cases_Bool (follows_word_byte text i)))
    (cases_Bool (is_separator (get_or text i 0))))
    (cases_Bool (is_mark (get_or text i 0)))

-- ---- each token

All-cons_option : (P : Token → Type 0) (o : Option Token) (ts : List Token) → IfSome o P → All P ts → All P (cons_option o ts)
All-cons_option P None ts here rest = rest
All-cons_option P (Some t) ts here rest = All-cons P t ts here rest

All-tokens_from : (P : Token → Type 0) (text : List ℕ) (i n : ℕ) → length text ≤ i + n → ((k : ℕ) → i ≤ k → k < length text → IfSome (token_at text k) P) → All P (tokens_from text i)
All-tokens_from P text i zero reach each = rw (tokens_from-end text i (omega arith)) (All-nil P)
All-tokens_from P text i (suc n) reach each =
    ⊎_elim
    (λ inside. subst (All P) (sym (tokens_from-more text i inside))
    (All-cons_option P _ _ (each i (omega arith) inside) (All-tokens_from P text (i + 1) n (omega arith) (λ k low high. each k (omega arith) high))))
    (λ outside. subst (All P) (sym (tokens_from-end text i outside)) (All-nil P))
    (cases_lt i (length text))

All-tokens_of : (P : Token → Type 0) (text : List ℕ) → ((k : ℕ) → k < length text → IfSome (token_at text k) P) → All P (tokens_of text)
All-tokens_of P text each = All-tokens_from P text 0 (length text) (omega arith) (λ k low high. each k high)

-- ---- a word's bytes

word_text : (text : List ℕ) (i : ℕ) → i < length text → IsTrue (is_word_byte (get_or text i 0)) → IsTrue (is_word (text_of text (word_at text i)))
unfolding is_word
word_text text i inside word =
    let n = word_end_from text i - i in
    let within = front_within is_word_byte text i (omega arith) in
    let long : length (take n (drop i text)) ≡ n = length-take-le n (drop i text) (omega (arith, length-drop i text)) in
    and_from _ _
    (lt-ltb 0 _ (omega (arith, word_end-lt text i inside word)))
    (list_all-from_AllPass is_word_byte _ (All-from_get_or (λ b. is_word_byte b ≡ true) _ 0 (λ k below.
    ap is_word_byte (get_or-take n (drop i text) k 0 (omega arith) ∙ get_or-drop i text k 0)
    ∙ passes_from is_word_byte text i (i + k) (omega arith) (omega arith))))

mark_alone : (text : List ℕ) (i : ℕ) → IsTrue (is_mark (get_or text i 0)) → IsMark text (mark_at text i)
mark_alone text i mark = record { mark = mark; alone = refl }

whole_word : (text : List ℕ) (i : ℕ) → i < length text → IsTrue (is_word_byte (get_or text i 0)) → IsFalse (follows_word_byte text i) → IsWholeWord text (word_at text i)
whole_word text i inside word first = record {
  word = word_text text i inside word;
  none_before = first;
  none_after = stops_after is_word_byte text i;
}

-- ---- the order of tokens

-- the next token begins where this one ends, or later
after_token : (text : List ℕ) (i : ℕ) → i < length text → IfSome (token_at text i) (λ t. (k : ℕ) → i < k → k < length text → IfSome (token_at text k) (λ u. t.end ≤ u.start))
after_token text i inside = IfSome-token_at _ text i
    (λ mark k above below. IfSome-token_at _ text k (λ _. omega arith) (λ _ _. omega arith))
    (λ word first k above below. ⊎_elim
    (λ in_word. subst (λ o. IfSome o (λ u. word_end_from text i ≤ u.start))
    (sym (token_at-in_word text k (passes_from is_word_byte text i k (omega arith) in_word) (follows-in_word text i k above (omega arith)))) tt)
    (λ following. IfSome-token_at _ text k (λ _. following) (λ _ _. following))
    (cases_lt k (word_end_from text i)))

abbrev InOrder : Token → Token → Type 0
InOrder t u = t.end ≤ u.start

AllPairs-cons_option : (o : Option Token) (ts : List Token) → IfSome o (λ t. All (InOrder t) ts) → AllPairs InOrder ts → AllPairs InOrder (cons_option o ts)
AllPairs-cons_option None ts here rest = rest
AllPairs-cons_option (Some t) ts here rest = AllPairs-cons InOrder t ts here rest

IfSome-weaker : (P Q : Token → Type 0) (o : Option Token) → ((t : Token) → P t → Q t) → IfSome o P → IfSome o Q
IfSome-weaker P Q None weaker here = tt
IfSome-weaker P Q (Some t) weaker here = weaker t here

AllPairs-tokens_from : (text : List ℕ) (i n : ℕ) → length text ≤ i + n → AllPairs InOrder (tokens_from text i)
AllPairs-tokens_from text i zero reach = subst (AllPairs InOrder) (sym (tokens_from-end text i (omega arith))) (λ j k d below inside. absurd (omega arith))
AllPairs-tokens_from text i (suc n) reach =
    ⊎_elim
    (λ inside. subst (AllPairs InOrder) (sym (tokens_from-more text i inside))
    (AllPairs-cons_option _ _
    (IfSome-weaker _ _ _ (λ t after. All-tokens_from (InOrder t) text (i + 1) n (omega arith) (λ k low high. after k (omega arith) high)) (after_token text i inside))
    (AllPairs-tokens_from text (i + 1) n (omega arith))))
    (λ outside. subst (AllPairs InOrder) (sym (tokens_from-end text i outside)) (λ j k d below inside. absurd (omega arith)))
    (cases_lt i (length text))

-- ---- the bytes outside tokens

-- a token that begins at a position is among the tokens
Any-cons_option : (P : Token → Type 0) (o : Option Token) (ts : List Token) → Any P ts → Any P (cons_option o ts)
Any-cons_option P None ts any = any
Any-cons_option P (Some t) ts any = (suc any.0, any.1, omega (arith, any.2), any.3, any.4)

Any-tokens_from : (P : Token → Type 0) (text : List ℕ) (i n s : ℕ) (t : Token) → i + n ≡ s → s < length text → token_at text s ≡ Some t → P t → Any P (tokens_from text i)
Any-tokens_from P text i zero s t position inside is holds =
    let here : i ≡ s = omega arith in
    subst (Any P) (sym (tokens_from-more text i (omega arith) ∙ ap (λ o. cons_option o (tokens_from text (i + 1))) (ap (token_at text) here ∙ is)))
    (zero, t, omega arith, refl, holds)
Any-tokens_from P text i (suc n) s t position inside is holds =
    subst (Any P) (sym (tokens_from-more text i (omega arith)))
    (Any-cons_option P _ _ (Any-tokens_from P text (i + 1) n s t (omega arith) inside is holds))

-- where the word of a word byte begins
record WordAround (text : List ℕ) (k : ℕ) : Type 0 where
  start : ℕ
  before : start ≤ k
  word : IsTrue (is_word_byte (get_or text start 0))
  first : IsFalse (follows_word_byte text start)
  after : k < word_end_from text start

word_around : (text : List ℕ) (k : ℕ) → k < length text → IsTrue (is_word_byte (get_or text k 0)) → WordAround text k
unfolding follows_word_byte
word_around text zero inside word = record { start = 0; before = omega arith; word = word; first = refl; after = word_end-lt text 0 inside word }
word_around text (suc k) inside word =
    let one_less : suc k - 1 ≡ k = omega arith in
    ⊎_elim
    (λ follows.
    let last : IsTrue (is_word_byte (get_or text k 0)) = ap (λ j. is_word_byte (get_or text j 0)) (sym one_less) ∙ (and_parts _ _ follows).1 in
    let around = word_around text k (omega arith) last in
    let further : suc k < word_end_from text around.start = ⊎_elim (λ below. below) (λ reached.
    let ends_here : word_end_from text around.start ≡ suc k = omega (arith, around.after) in
    absurd (both_ways _ (ap (λ j. is_word_byte (get_or text j 0)) (sym ends_here) ∙ stops_after is_word_byte text around.start (omega arith)) word))
    (cases_lt (suc k) (word_end_from text around.start)) in
    record { start = around.start; before = omega (arith, around.before); word = around.word; first = around.first; after = further })
    (λ first. record { start = suc k; before = omega arith; word = word; first = first; after = word_end-lt text (suc k) inside word })
    (cases_Bool (follows_word_byte text (suc k)))

separator_or_covered : (text : List ℕ) (k : ℕ) → k < length text → IsTrue (is_separator (get_or text k 0)) ⊎ Any (Covers k) (tokens_of text)
separator_or_covered text k inside =
    ⊎_elim
    (λ separator. inl separator)
    (λ no_separator. inr (⊎_elim
    (λ mark. Any-tokens_from (Covers k) text 0 k k (mark_at text k) (omega arith) inside (token_at-mark text k mark) (omega arith, omega arith))
    (λ no_mark.
    let around = word_around text k inside (word_byte_from _ no_separator no_mark) in
    Any-tokens_from (Covers k) text 0 around.start around.start (word_at text around.start) (omega arith) (omega (arith, around.before)) (token_at-word text around.start around.word around.first) (around.before, around.after))
    (cases_Bool (is_mark (get_or text k 0)))))
    (cases_Bool (is_separator (get_or text k 0)))

-- ---- all of these together

pub tokens_are : (text : List ℕ) → AreTokensOf text (tokens_of text)
tokens_are text = record {
  within = All-tokens_of (IsWithin (length text)) text (λ k inside. IfSome-token_at _ text k
      (λ mark. (omega arith, omega arith))
      (λ word first. (word_end-lt text k inside word, front_within is_word_byte text k (omega arith))));
  in_order = AllPairs-tokens_from text 0 (length text) (omega arith);
  marks_and_words = All-tokens_of (IsMarkOrWord text) text (λ k inside. IfSome-token_at _ text k
      (λ mark. inl (mark_alone text k mark))
      (λ word first. inr (whole_word text k inside word first)));
  separators_outside = separator_or_covered text;
  lines = All-tokens_of (λ t. t.line ≡ line_at text t.start) text (λ k inside. IfSome-token_at _ text k (λ mark. refl) (λ word first. refl));
}
