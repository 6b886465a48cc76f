use Rattle.std.proofs.Common.{◌≡◌, ◌⊎◌, ◌<◌, ◌≤◌, ◌∙◌, ℕ, Bool, false, true, inl, inr, ap, arith, if◌then◌else◌, min, nat_lt, subst, sym}
use Rattle.std.proofs.lemmas.Bool.{cases_Bool, ltb-false, ltb-true}
use Rattle.roster_instance.specs.Rosters.{Rows}
use Rattle.roster_laws.specs.FrozenDays.{FrozenDaysStay}
use Rattle.roster_costs.specs.Minimums.{missing}
use Rattle.roster_polish.specs.Plans.{keeps_rows}
use Rattle.roster_polish.proofs.Fading.{made_both}
use Rattle.roster_polish.proofs.Keeping.{same_days}
use Rattle.roster_polish.specs.Fades.{AreMade}
use Rattle.roster_polish.specs.Settled.{extensions_of}
use Rattle.roster_polish.proofs.Steps.{rest_fits_meter, spent_both, spent_read}
use Rattle.roster_polish.proofs.plan.fade_until_kept.Goals as goal

-- what holds of both holds of either
of_either : (P : Rows → Type 0) (b : Bool) (one other it : Rows) → it ≡ (if b then one else other) → P one → P other → P it
of_either p true one other it same of_one of_other = subst p (sym same) of_one
of_either p false one other it same of_one of_other = subst p (sym same) of_other

-- the nearer of the two is kept: so the least is what it is short of, and that is no more than before
module _ (short_by : Rows → ℕ) (kept faded new : Rows) (least new_least : ℕ) (is : least ≡ short_by kept) (new_is : new ≡ (if nat_lt (short_by faded) least then faded else kept)) (least_is : new_least ≡ min least (short_by faded)) where
  abbrev both : Type 0
  both = (new_least ≡ short_by new) × (short_by new ≤ short_by kept)

  least_and_nearer : both
  least_and_nearer = go (cases_Bool (nat_lt (short_by faded) least))
    where
      go : (nat_lt (short_by faded) least ≡ true) ⊎ (nat_lt (short_by faded) least ≡ false) → both
      go (inl less) =
          let at : short_by new ≡ short_by faded = ap short_by (new_is ∙ ap (λ (b : Bool). if b then faded else kept) less) in
          let below : short_by faded < least = ltb-true (short_by faded) least less in
          (omega (arith, least_is, below, at), omega (arith, is, below, at))
      go (inr not_less) =
          let at : short_by new ≡ short_by kept = ap short_by (new_is ∙ ap (λ (b : Bool). if b then faded else kept) not_less) in
          let above : least ≤ short_by faded = ltb-false (short_by faded) least not_less in
          (omega (arith, is, least_is, above, at), omega (arith, at))

pub fade_and_repair-requires-clause-able : goal.fade_and_repair-requires-clause-able
fade_and_repair-requires-clause-able g c =
    let k = c.args.base.now.case.now in
    let l = c.fades in
    record {
      fits = l.invariant.fits;
      room = omega (arith, ap (extensions_of k) c.are_over.ensures.read.left, rest_fits_meter k c.args.meter.now c.args.kicking.now.searches.left l.meter l.kicking.searches.left 18446744073709551615 l.invariant.spends c.requires.able.room);
    }

pub put_rows-requires : goal.put_rows-requires
put_rows-requires g c = same_days c.args.base.now.case.now c.fade_and_repair.new.space.faded c.fade_and_repair.new.space.kept c.fade_and_repair.ensures.faded.fits.faded c.fade_and_repair.ensures.faded.fits.kept

pub fades-preserved : goal.fades-preserved
fades-preserved g c =
    let k = c.args.base.now.case.now in
    let given = c.args.base.now.given.now in
    let l = c.fades in
    let logged = c.fade_and_repair in
    let faded = logged.ensures.faded in
    let kept = c.keep_if_nearer-least in
    let stay : Rows → Type 0 = FrozenDaysStay k c.args.base.now.from given in
    let short_by : Rows → ℕ = missing k in
    let nearer_of = λ (rows : keeps_rows k given ≡ true). least_and_nearer short_by logged.new.space.kept logged.new.space.faded kept.new.space.kept l.least kept.result (l.invariant.least rows ∙ ap short_by (sym faded.kept)) kept.ensures.kept kept.ensures.least in
    record {
      least = λ rows. (nearer_of rows).0;
      nearer = λ rows. omega (arith, (nearer_of rows).1, ap short_by faded.kept, l.invariant.nearer rows);
      passes = omega (arith, c.passes_after-kicking.ensures, faded.passes, l.invariant.passes);
      ends = faded.ends ∙ c.are_over.ensures.read.ends ∙ l.invariant.ends;
      frozen = of_either stay (nat_lt (short_by logged.new.space.faded) l.least) logged.new.space.faded logged.new.space.kept kept.new.space.kept kept.ensures.kept faded.frozen (subst stay (sym faded.kept) l.invariant.frozen);
      made = made_both k c.args.meter.now c.args.kicking.now.searches.left l.meter l.kicking.searches.left logged.new.meter logged.new.kicking.searches.left l.invariant.made (subst (λ n. AreMade k l.meter n logged.new.meter logged.new.kicking.searches.left) c.are_over.ensures.read.left faded.made);
      spends = spent_both k c.args.meter.now c.args.kicking.now.searches.left l.meter l.kicking.searches.left logged.new.meter logged.new.kicking.searches.left l.invariant.spends (spent_read k l.meter l.kicking.searches.left c.are_over.new.self.left logged.new.meter logged.new.kicking.searches.left c.are_over.ensures.read.left faded.spends);
      fits = kept.ensures.fits;
    }
