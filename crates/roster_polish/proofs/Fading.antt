-- Rows that are faded, and faded further, by searches that were made.
use Rattle.std.proofs.Common.{◌≡◌, ◌∙◌, ◌+◌, ◌-◌, ◌*◌, ◌<◌, ◌≤◌, ℕ, ap, arith, mul_assoc, refl, suc, sym, zero}
use Rattle.roster_instance.specs.Meaning.{Meaning, day_count, nurse_count}
use Rattle.roster_prices.specs.declared.offers.Base.{Base}
use Rattle.roster_polish.specs.declared.kick.Kicking.{Kicking}
use Rattle.roster_polish.specs.declared.space.PolishSpace.{PolishSpace}
use Rattle.roster_polish.specs.Fades.{AreFaded, AreMade}
use Rattle.roster_polish.proofs.Steps.{both_of, one_and_rest, spent_both}

pub some_left : (left : ℕ) → (left ≡ 0 → ⊥) → 0 < left
some_left zero some = absurd (some refl)
some_left (suc left) some = omega arith

-- one search
pub made_one : (c : Meaning) (meter new left : ℕ) → 0 < left → meter + day_count c ≤ new → AreMade c meter left new (left - 1)
made_one c meter new left some more =
    let is : left ≡ left - 1 + 1 = omega (arith, some) in
    omega (arith, more, ap (λ m. m * day_count c) is, one_and_rest (left - 1) (day_count c))

pub made_both : (c : Meaning) (meter left meter2 left2 meter3 left3 : ℕ) → AreMade c meter left meter2 left2 → AreMade c meter2 left2 meter3 left3 → AreMade c meter left meter3 left3
made_both c meter left meter2 left2 meter3 left3 first later = omega (arith, first, later)

-- a round over all nurses
pub made_round : (c : Meaning) (meter new left : ℕ) → nurse_count c ≤ left → meter + nurse_count c * day_count c ≤ new → AreMade c meter left new (left - nurse_count c)
made_round c meter new left enough made =
    let is : left ≡ left - nurse_count c + nurse_count c = omega (arith, enough) in
    omega (arith, made, ap (λ m. m * day_count c) is, both_of (left - nurse_count c) (nurse_count c) (day_count c))

pub faded_then : {T K : Type 0} {base : Base} {kicking kicking2 kicking3 : Kicking K} {space space2 space3 : PolishSpace T} {meter meter2 meter3 : ℕ}
    → AreFaded base kicking kicking2 space space2 meter meter2 → AreFaded base kicking2 kicking3 space2 space3 meter2 meter3 → AreFaded base kicking kicking3 space space3 meter meter3
faded_then {base} {kicking} {kicking2} {kicking3} {space} {space2} {space3} {meter} {meter2} {meter3} first later = record {
  kept = later.kept ∙ first.kept;
  best = later.best ∙ first.best;
  frozen = later.frozen;
  passes = later.passes ∙ first.passes;
  ends = later.ends ∙ first.ends;
  made = made_both base.case.now meter kicking.searches.left meter2 kicking2.searches.left meter3 kicking3.searches.left first.made later.made;
  spends = spent_both base.case.now meter kicking.searches.left meter2 kicking2.searches.left meter3 kicking3.searches.left first.spends later.spends;
  recalls = later.recalls;
  fits = later.fits;
}
