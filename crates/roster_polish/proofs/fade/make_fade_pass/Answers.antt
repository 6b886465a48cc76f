use Rattle.std.proofs.Common.{◌≡◌, ◌∙◌, ◌+◌, ◌-◌, ◌*◌, ◌<◌, ◌≤◌, ◌⊎◌, ℕ, Bool, false, true, ap, arith, get_or, inl, inr, length, refl, subst, sym}
use Rattle.std.proofs.lemmas.Bool.{cases_eq, eq-eqb}
use Rattle.std.proofs.lemmas.List.Elements.{All-get_or}
use Rattle.roster_instance.specs.Counting.{one_if}
use Rattle.roster_instance.specs.Meaning.{Meaning, day_count, nurse_count}
use Rattle.roster_laws.specs.Greatest.{extension_count}
use Rattle.roster_polish.specs.Fades.{AreMade}
use Rattle.roster_polish.specs.Settled.{Spends}
use Rattle.roster_polish.proofs.Fading.{made_both, made_one, some_left}
use Rattle.roster_polish.proofs.Steps.{rest_fits_meter, search_fits_meter, spent, spent_both, spent_none}
use Rattle.roster_polish.proofs.fade.make_fade_pass.Goals as goal
use Rattle.roster_polish.proofs.fade.make_fade_pass.Goals.{After-index-nurse}

inside : (g : _) (c : After-index-nurse g) → c.index-nurse.result.now < nurse_count c.args.base.now.case.now
inside g c =
    let k = c.args.base.now.case.now in
    let l = c.loop-position in
    let order = l.space.order.items in
    let all : c.nurses-position-end.result ≡ nurse_count k = c.nurses-position-end.ensures.count in
    let within : l.position < length order = omega (arith, all, c.loop-position-test.true, l.invariant.faded.fits.count) in
    let one : get_or order l.position c.index-nurse.result.now < nurse_count k = All-get_or (λ n. n < nurse_count k) order l.position c.index-nurse.result.now within l.invariant.faded.fits.order in
    omega (arith, one, c.index-nurse.ensures)

-- a search, or none
module _ (c : Meaning) (n meter left new new_left : ℕ) (inside : n < nurse_count c) (some : 0 < left) where
  one_or_none : (searched : Bool) → new_left ≡ left - one_if searched → (searched ≡ true → meter + day_count c ≤ new) → (searched ≡ false → new ≡ meter) → new ≤ meter + extension_count c n → AreMade c meter left new new_left × Spends c meter left new new_left
  one_or_none true is each none counted =
      (subst (AreMade c meter left new) (sym is) (made_one c meter new left some (each refl)), spent c n meter left inside some new new_left is counted)
  one_or_none false is each none counted =
      let same : new_left ≡ left = omega (arith, is) in
      (omega (arith, none refl, ap (λ m. m * day_count c) same), subst (λ m. Spends c meter left m new_left) (sym (none refl)) (subst (Spends c meter left meter) (sym same) (spent_none c meter left)))

pub fade_nurse-searched-requires-clause-room : goal.fade_nurse-searched-requires-clause-room
fade_nurse-searched-requires-clause-room g c =
    let k = c.args.base.now.case.now in
    let l = c.loop-position in
    search_fits_meter k c.index-nurse.result.now l.meter l.kicking.searches.left (inside g (goal.at.fade_nurse-searched-requires-clause-room g c).After-index-nurse) (some_left l.kicking.searches.left c.if-kicking-eq0.false) 18446744073709551615
    (rest_fits_meter k c.args.meter.now c.args.kicking.now.searches.left l.meter l.kicking.searches.left 18446744073709551615 l.invariant.faded.spends c.requires.able.room)

pub loop-position-preserved : goal.loop-position-preserved
loop-position-preserved g c =
    let k = c.args.base.now.case.now in
    let n = c.index-nurse.result.now in
    let l = c.loop-position in
    let logged = c.fade_nurse-searched.ensures in
    let before = l.invariant.faded in
    let left = l.kicking.searches.left in
    let new_left = c.take_if.new.self.left in
    let some : 0 < left = some_left left c.if-kicking-eq0.false in
    let both = one_or_none k n l.meter left c.fade_nurse-searched.new.meter new_left (inside g (goal.at.loop-position-preserved g c).After-index-nurse) some c.fade_nurse-searched.result c.take_if.ensures.left logged.each_day logged.spared logged.counted in
    let spends = spent_both k c.args.meter.now c.args.kicking.now.searches.left l.meter left c.fade_nurse-searched.new.meter new_left before.spends both.1 in
    let all = c.args.kicking.now.searches.left in
    -- the first one is searched
    let fewer : 0 < all → (l.position ≡ 0) ⊎ (l.position ≡ 0 → ⊥) → new_left < all = λ any either. elim either [
      | inl first ↦ (
          let one : new_left ≡ left - 1 = c.take_if.ensures.left ∙ ap (λ b. left - one_if b) (logged.surely (eq-eqb l.position 0 first)) in
          omega (arith, one, some, before.spends.fewer))
      | inr later ↦ omega (arith, l.invariant.fewer (omega (arith, later)) any, both.1.fewer)
    ] in
    record {
      fewer = λ later any. fewer any (cases_eq l.position 0);
      faded = record {
        kept = logged.kept ∙ before.kept;
        best = logged.best ∙ before.best;
        frozen = logged.frozen;
        passes = before.passes;
        ends = c.take_if.ensures.ends ∙ before.ends;
        made = made_both k c.args.meter.now c.args.kicking.now.searches.left l.meter left c.fade_nurse-searched.new.meter new_left before.made both.0;
        spends = spends;
        recalls = logged.recalls;
        fits = logged.fits;
      };
    }
