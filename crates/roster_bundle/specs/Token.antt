-- The tokens of a text, byte by byte.
use Rattle.std.specs.Prelude.{◌≡◌, ℕ, ◌+◌, ◌-◌, ◌<◌, ◌≤◌, ◌⊎◌, Bool, not, ◌&&◌, ◌||◌, ◌==◌, nat_lt, if◌then◌else◌, IsTrue, IsFalse, Option, Some, None, List, All, Any, AllPairs, length, map, drop, slice_index, slice_range, count_by, take}
use Rattle.std.specs.List.{filter_map, list_all, prefix_len, range_with_len}
use Rattle.roster_bundle.specs.declared.token.Token.{Token}

-- a blank, a tab, an LF or a CR
unfoldable pub is_separator : ℕ → Bool
is_separator b = b == 32 || b == 9 || b == 10 || b == 13

-- `(`, `)`, `,` or `=`
unfoldable pub is_mark : ℕ → Bool
is_mark b = b == 40 || b == 41 || b == 44 || b == 61

-- every other byte
unfoldable pub is_word_byte : ℕ → Bool
is_word_byte b = not (is_separator b || is_mark b)

-- a word byte stands right before this position
unfoldable pub follows_word_byte : List ℕ → ℕ → Bool
follows_word_byte text i = nat_lt 0 i && is_word_byte (slice_index text (i - 1))

-- a mark begins a token, and so does a word byte that doesn't follow another
unfoldable pub begins_at : List ℕ → ℕ → Bool
begins_at text i =
    is_mark (slice_index text i) || (is_word_byte (slice_index text i) && not (follows_word_byte text i))

-- where the token that begins here ends: a mark is one byte, and a word ends with its last word byte
unfoldable pub end_from : List ℕ → ℕ → ℕ
end_from text i = if is_mark (slice_index text i) then i + 1 else i + prefix_len is_word_byte (drop i text)

-- the number of LF bytes
unfoldable pub line_feeds : List ℕ → ℕ
line_feeds bytes = count_by (λ b. b == 10) bytes

-- the line of a position, from 1
abbrev pub line_at : List ℕ → ℕ → ℕ
line_at text i = 1 + line_feeds (take i text)

-- the line at the end of the text
abbrev pub line_at_end : List ℕ → ℕ
line_at_end text = 1 + line_feeds text

-- the token that begins at the position, if one does
unfoldable pub token_at : List ℕ → ℕ → Option Token
token_at text i =
    if begins_at text i
    then Some (record { start = i; end = end_from text i; line = line_at text i }) else None

-- the tokens that begin at the position or after it, in order
unfoldable pub tokens_from : List ℕ → ℕ → List Token
tokens_from text i = filter_map (token_at text) (range_with_len i (length text - i))

-- no token extends across the position
abbrev pub IsBetweenTokens : List ℕ → ℕ → Type 0
IsBetweenTokens text i =
    i < length text → IsTrue (is_word_byte (slice_index text i)) → IsFalse (follows_word_byte text i)

-- the tokens of a text
abbrev pub tokens_of : List ℕ → List Token
tokens_of text = tokens_from text 0

-- the bytes of a token
abbrev pub text_of : List ℕ → Token → List ℕ
text_of source t = slice_range source t.start t.end

-- a token with its text
pub record Seen : Type 0 where
  pub token : Token
  pub text : List ℕ

abbrev pub seen : List ℕ → Token → Seen
seen source t = record { token = t; text = text_of source t }

-- tokens with their texts in a source
abbrev pub all_seen : List ℕ → List Token → List Seen
all_seen source ts = map (seen source) ts

-- a word: at least one byte, and each a word byte
unfoldable pub is_word : List ℕ → Bool
is_word bytes = nat_lt 0 (length bytes) && list_all is_word_byte bytes

-- the token has at least one byte, and ends within a text of n bytes
abbrev pub IsWithin : ℕ → Token → Type 0
IsWithin n t = (t.start < t.end) × (t.end ≤ n)

-- the token is a mark alone
pub record IsMark (text : List ℕ) (t : Token) : Type 0 where
  pub mark : IsTrue (is_mark (slice_index text t.start))
  pub alone : t.end ≡ t.start + 1

-- the token is a whole word, with no word byte next to it
pub record IsWholeWord (text : List ℕ) (t : Token) : Type 0 where
  pub word : IsTrue (is_word (text_of text t))
  pub none_before : IsFalse (follows_word_byte text t.start)
  pub none_after : t.end < length text → IsFalse (is_word_byte (slice_index text t.end))

abbrev pub IsMarkOrWord : List ℕ → Token → Type 0
IsMarkOrWord text t = IsMark text t ⊎ IsWholeWord text t

-- position k is in the token
abbrev pub Covers : ℕ → Token → Type 0
Covers k t = (t.start ≤ k) × (k < t.end)

-- these are the tokens of the text: marks and whole words, in order, with nothing but separators outside them
pub record AreTokensOf (text : List ℕ) (ts : List Token) : Type 0 where
  pub within : All (IsWithin (length text)) ts
  pub in_order : AllPairs (λ t u. t.end ≤ u.start) ts
  pub marks_and_words : All (IsMarkOrWord text) ts
  pub separators_outside : (k : ℕ) → k < length text
      → IsTrue (is_separator (slice_index text k)) ⊎ Any (Covers k) ts
  pub lines : All (λ t. t.line ≡ line_at text t.start) ts
