-- The line of a position, as the position moves on.
use Rattle.std.proofs.Common.{◌≡◌, ℕ, zero, suc, ◌+◌, ◌<◌, ◌≤◌, List, length, get_or, take, ap, ◌∙◌, arith}
use Rattle.std.proofs.lemmas.Bool.{eq-eqb, ne_eqb}
use Rattle.std.proofs.lemmas.List.{length-take-le}
use Rattle.std.proofs.lemmas.List.Sums.{count_by_more_yes, count_by_more_no, count_by-le-length}
use Rattle.std.specs.Prelude.{◌==◌}
use Rattle.roster_bundle.specs.Token.{line_feeds, line_at}

-- after an LF the line is one more
pub line_at-feed : (text : List ℕ) (i : ℕ) → i < length text → get_or text i 0 ≡ 10 → line_at text (i + 1) ≡ line_at text i + 1
unfolding line_feeds
line_at-feed text i inside feed = omega (arith, count_by_more_yes (λ b. b == 10) text i 0 inside (eq-eqb _ 10 feed))

-- after another byte it is the same
pub line_at-other : (text : List ℕ) (i : ℕ) → i < length text → (get_or text i 0 ≡ 10 → ⊥) → line_at text (i + 1) ≡ line_at text i
unfolding line_feeds
line_at-other text i inside other = omega (arith, count_by_more_no (λ b. b == 10) text i 0 inside (ne_eqb _ 10 other))

-- the line is at most one more than the number of bytes
pub line_at-le : (text : List ℕ) (i : ℕ) → i ≤ length text → line_at text i ≤ i + 1
unfolding line_feeds
line_at-le text i inside = omega (arith, count_by-le-length (λ b. b == 10) (take i text), length-take-le i text inside)

-- the line stays over positions without an LF
pub line_at-over : (text : List ℕ) (i n : ℕ) → i + n ≤ length text → ((k : ℕ) → i ≤ k → k < i + n → get_or text k 0 ≡ 10 → ⊥) → line_at text (i + n) ≡ line_at text i
line_at-over text i zero inside other = ap (line_at text) (omega arith)
line_at-over text i (suc n) inside other =
    let next : i + suc n ≡ i + n + 1 = omega arith in
    ap (line_at text) next
    ∙ line_at-other text (i + n) (omega arith) (other (i + n) (omega arith) (omega arith))
    ∙ line_at-over text i n (omega arith) (λ k low high. other k low (omega arith))
