-- Dual prices that are held in fine units, in parts of a point.
use Rattle.std.proofs.Common.{◌≡◌, ◌∙◌, ◌+◌, ◌*◌, ◌/◌, ◌%◌, ◌<◌, ◌≤◌, ◌⊎◌, ℕ, All, Bool, List, true, false, ap, arith, get_or, if◌then◌else◌, inl, inr, length, lit<, refl}
use Rattle.std.proofs.lemmas.Bool.{cases_lt}
use Rattle.std.proofs.lemmas.List.{get_or_past}
use Rattle.std.proofs.lemmas.List.Elements.{All-get_or}
use Rattle.std.proofs.lemmas.Nat.{div-mul-add, mul-le}
use Rattle.roster_instance.specs.Meaning.{Meaning, day_count, shift_count, skill_count}
use Rattle.roster_offers.specs.Lists.{most_scale}
use Rattle.roster_slots.specs.Slots.{asks_for_nurses, even_dual_prices, most_dual_price}
use Rattle.roster_slots.specs.Tables.{fine_per_point, most_fine, rounded}

-- a whole number of points is a whole number of parts
pub rounded_points : (scale points : ℕ) → rounded scale (fine_per_point * points) ≡ scale * points
rounded_points scale points = ap (λ fine. (fine + 8192) / 16384) parts ∙ div-mul-add (scale * points) 16384 8192 (lit< tt)
  where
    parts : scale * (16384 * points) ≡ scale * points * 16384
    parts = omega arith

-- no price is above the greatest
pub rounded_within : (scale fine : ℕ) → fine ≤ most_fine → rounded scale fine ≤ scale * most_dual_price
rounded_within scale fine within = omega (arith, mul-le scale fine scale 3276800000 (omega arith) within)

-- nor at any index, also past the end
pub price_within : (scale : ℕ) (held : List ℕ) (at : ℕ) → All (λ fine. fine ≤ most_fine) held → rounded scale (get_or held at 0) ≤ scale * most_dual_price
price_within scale held at within = rounded_within scale (get_or held at 0) (go (cases_lt at (length held)))
  where
    go : (at < length held) ⊎ (length held ≤ at) → get_or held at 0 ≤ most_fine
    go (inl inside) = All-get_or (λ fine. fine ≤ most_fine) held at 0 inside within
    go (inr past) = omega (arith, get_or_past held at 0 past)

-- before it is rounded it is at most that of the greatest scale
pub parts_low : (scale fine : ℕ) → scale ≤ most_scale → fine ≤ most_fine → scale * fine ≤ 419430400000
parts_low scale fine few within = mul-le scale fine 128 3276800000 few within

-- the same price for each slot that asks for nurses, in parts
pub even_parts : (scale points : ℕ) (asks : Bool) → scale * (if asks then points else 0) ≡ (if asks then scale * points else 0)
even_parts scale points true = refl
even_parts scale points false = omega arith

pub even_at : (c : Meaning) (scale points : ℕ) (held : List ℕ) → shift_count c ≤ 8 → skill_count c ≤ 8
    → ((at : ℕ) → at < 64 * day_count c → get_or held at 0 ≡ fine_per_point * even_dual_prices c points (at / 64) (at % 64 / 8) (at % 8))
    → (d s k : ℕ) → d < day_count c → s < shift_count c → k < skill_count c → rounded scale (get_or held (64 * d + 8 * s + k) 0) ≡ even_dual_prices c (scale * points) d s k
even_at c scale points held few_shifts few_skills each d s k in_days in_shifts in_skills =
    ap (rounded scale) (each (64 * d + 8 * s + k) inside ∙ (λ i. fine_per_point * even_dual_prices c points (day i) (shift i) (skill i)))
    ∙ rounded_points scale (even_dual_prices c points d s k)
    ∙ even_parts scale points (asks_for_nurses c d s k)
  where
    inside : 64 * d + 8 * s + k < 64 * day_count c
    inside = omega (arith, in_days, in_shifts, in_skills, few_shifts, few_skills)

    day : (64 * d + 8 * s + k) / 64 ≡ d
    day = omega (arith, in_shifts, in_skills, few_shifts, few_skills)

    shift : (64 * d + 8 * s + k) % 64 / 8 ≡ s
    shift = omega (arith, in_shifts, in_skills, few_shifts, few_skills)

    skill : (64 * d + 8 * s + k) % 8 ≡ k
    skill = omega (arith, in_shifts, in_skills, few_shifts, few_skills)
