-- A line that is written piece by piece.
use Rattle.std.proofs.Common.{◌≡◌, ◌∙◌, ◌+◌, ◌-◌, ◌*◌, ◌<◌, ℕ, ap, ap₂, arith, sym, ◌++◌, append_assoc, codes, decimal, flat_map, min}
use Rattle.std.proofs.Math.Nat.{min-eq_left}
use Rattle.std.specs.List.{range_with_len}
use Rattle.roster_text.proofs.Texts.{flat_map-range_split}
use Rattle.roster_instance.specs.Meaning.{Meaning, day_count, nurse_count, nurse_name}
use Rattle.roster_rules.specs.Penalties.{total_cost}
use Rattle.roster_rules.specs.PenaltyBounds.{penalty_limit}
use Rattle.roster_instance.specs.Sizes.{choice_count, state_count}
use Rattle.roster_rules.specs.declared.penalties.Costs.{Costs}
use Rattle.roster_reports.specs.Lines.{Text, costs_text, missing_line, nurse_day_line, search_line, sizes_line, sizes_text}

-- what is expected on a line
pub expected-line : (line what : Text) → codes "line " ++ (line ++ (codes ": expected " ++ (what ++ codes "\n"))) ≡ codes "line " ++ line ++ codes ": expected " ++ what ++ codes "\n"
expected-line line what = simp append_assoc

-- the thirteen pieces of a line
pub missing-line : (a week b day c shift d skill e have f need end : Text)
    → a ++ (week ++ (b ++ (day ++ (c ++ (shift ++ (d ++ (skill ++ (e ++ (have ++ (f ++ (need ++ end))))))))))) ≡ a ++ week ++ b ++ day ++ c ++ shift ++ d ++ skill ++ e ++ have ++ f ++ need ++ end
missing-line a week b day c shift d skill e have f need end = simp append_assoc

-- the eight pieces of a line
pub nurse_day-line : (rule a week b day c nurse end : Text) → rule ++ (a ++ (week ++ (b ++ (day ++ (c ++ (nurse ++ end)))))) ≡ rule ++ a ++ week ++ b ++ day ++ c ++ nurse ++ end
nurse_day-line rule a week b day c nurse end = simp append_assoc

-- these lines after other text
pub missing-after : (before : Text) (week : ℕ) (day shift skill : Text) (have need : ℕ)
    → before ++ (codes "H2 week " ++ (decimal week ++ (codes " " ++ (day ++ (codes " " ++ (shift ++ (codes " " ++ (skill ++ (codes ": " ++ (decimal have ++ (codes " of " ++ (decimal need ++ codes "\n"))))))))))))
    ≡ before ++ missing_line week day shift skill have need
missing-after before week day shift skill have need =
    ap (λ text. before ++ text)
    (missing-line (codes "H2 week ") (decimal week) (codes " ") day (codes " ") shift (codes " ") skill (codes ": ") (decimal have) (codes " of ") (decimal need) (codes "\n"))

pub nurse_day-after : (before rule : Text) (week : ℕ) (day nurse : Text)
    → before ++ (rule ++ (codes " week " ++ (decimal week ++ (codes " " ++ (day ++ (codes " " ++ (nurse ++ codes "\n"))))))) ≡ before ++ nurse_day_line rule week day nurse
nurse_day-after before rule week day nurse =
    ap (λ text. before ++ text) (nurse_day-line rule (codes " week ") (decimal week) (codes " ") day (codes " ") nurse (codes "\n"))

-- ---- the report of `cost`

-- nine lines, each a word and a number
lines_joined : (blank end s1 a s2 b s3 c s4 d s5 e s6 f s7 g s8 h s9 i : Text)
    → s1 ++ (blank ++ (a ++ (end ++ (s2 ++ (blank ++ (b ++ (end ++ (s3 ++ (blank ++ (c ++ (end ++ (s4 ++ (blank ++ (d ++ (end ++ (s5 ++ (blank ++ (e
    ++ (end ++ (s6 ++ (blank ++ (f ++ (end ++ (s7 ++ (blank ++ (g ++ (end ++ (s8 ++ (blank ++ (h
    ++ (end ++ (s9 ++ (blank ++ (i ++ end))))))))))))))))))))))))))))))))))
    ≡ (s1 ++ blank ++ a ++ end) ++ (s2 ++ blank ++ b ++ end) ++ (s3 ++ blank ++ c ++ end) ++ (s4 ++ blank ++ d ++ end)
    ++ (s5 ++ blank ++ e ++ end) ++ (s6 ++ blank ++ f ++ end) ++ (s7 ++ blank ++ g ++ end) ++ (s8 ++ blank ++ h ++ end)
    ++ (s9 ++ blank ++ i ++ end)
lines_joined blank end s1 a s2 b s3 c s4 d s5 e s6 f s7 g s8 h s9 i = simp append_assoc

-- its pieces
abbrev pub cost_pieces : Costs → ℕ → Text
cost_pieces k total =
    codes "S1 " ++ (decimal k.s1 ++ (codes "\nS2 " ++ (decimal k.s2 ++ (codes "\nS3 " ++ (decimal k.s3 ++ (codes "\nS4 " ++ (decimal k.s4 ++ (codes "\nS5 " ++ (decimal k.s5
    ++ (codes "\nS6 " ++ (decimal k.s6 ++ (codes "\nS7 " ++ (decimal k.s7 ++ (codes "\nS8 " ++ (decimal k.s8
    ++ (codes "\ntotal " ++ (decimal total ++ codes "\n")))))))))))))))))

-- the pieces are the report, if the total is small enough
pub cost_pieces-are : (k : Costs) (total : ℕ) → total ≡ min (total_cost k) 18446744073709551615 → total_cost k < penalty_limit → cost_pieces k total ≡ costs_text k
unfolding costs_text
cost_pieces-are k total is within =
    let sum : total ≡ total_cost k = is ∙ min-eq_left (omega (arith, within)) in
    ap (cost_pieces k) sum
    ∙ lines_joined (codes " ") (codes "\n") (codes "S1") (decimal k.s1) (codes "S2") (decimal k.s2) (codes "S3") (decimal k.s3) (codes "S4") (decimal k.s4)
    (codes "S5") (decimal k.s5) (codes "S6") (decimal k.s6) (codes "S7") (decimal k.s7) (codes "S8") (decimal k.s8) (codes "total") (decimal (total_cost k))

-- ---- the report of `sizes`

-- the ten pieces of a line
abbrev pub search_pieces : Text → ℕ → ℕ → ℕ → Text
search_pieces name states days choices =
    name ++ (codes " " ++ (decimal states ++ (codes " " ++ (decimal (2 * states) ++ (codes " " ++ (decimal (states * days) ++ (codes " " ++ (decimal (states * days * choices) ++ codes "\n"))))))))

search_pieces-are : (name : Text) (states days choices : ℕ) → search_pieces name states days choices ≡ search_line name states days choices
search_pieces-are name states days choices = simp append_assoc

-- the pieces of a nurse are the nurse's line
pub sizes_pieces-are : (c : Meaning) (n : ℕ) (name : Text) (states days choices : ℕ) → name ≡ nurse_name c n → states ≡ state_count c n → days ≡ day_count c → choices ≡ choice_count c n
    → search_pieces name states days choices ≡ sizes_line c n
sizes_pieces-are c n name states days choices name_is states_are days_are choices_are =
    search_pieces-are name states days choices ∙ ap (λ x. search_line x states days choices) name_is ∙ ap (λ k. search_line (nurse_name c n) k days choices) states_are
    ∙ ap₂ (search_line (nurse_name c n) (state_count c n)) days_are choices_are

-- the lines of the nurses up to one, the next line, and those after it
pub sizes_text-split : (c : Meaning) (i n : ℕ) → i < n → n ≡ nurse_count c
    → sizes_text c ≡ (flat_map (sizes_line c) (range_with_len 0 i) ++ sizes_line c i) ++ flat_map (sizes_line c) (range_with_len (i + 1) (n - (i + 1)))
unfolding sizes_text
sizes_text-split c i n within is = ap (λ m. flat_map (sizes_line c) (range_with_len 0 m)) (sym is) ∙ flat_map-range_split (sizes_line c) i n within

pub sizes_text-all : (c : Meaning) (n : ℕ) → n ≡ nurse_count c → flat_map (sizes_line c) (range_with_len 0 n) ≡ sizes_text c
unfolding sizes_text
sizes_text-all c n is = ap (λ m. flat_map (sizes_line c) (range_with_len 0 m)) is
