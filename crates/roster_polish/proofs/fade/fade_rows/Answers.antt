use Rattle.std.proofs.Common.{◌∙◌, Option, ap, arith, is_some, not, refl, subst, sym}
use Rattle.std.proofs.lemmas.Bool.{false_from_ne_true, true≢false}
use Rattle.roster_rules.specs.HardRules.{keeps_hard}
use Rattle.roster_rules.specs.declared.fault.HardFault.{HardFault}
use Rattle.roster_laws.specs.FrozenDays.{FrozenDaysStay}
use Rattle.roster_laws.proofs.Frozen.{stays_self}
use Rattle.roster_polish.proofs.FadeRows.{kept_is_none}
use Rattle.roster_polish.proofs.Fading.{faded_then, some_left}
use Rattle.roster_polish.proofs.Memory.{fits_with}
use Rattle.roster_polish.proofs.Steps.{spent_none}
use Rattle.roster_polish.proofs.fade.fade_rows.Goals as goal

pub loop-pass-init : goal.loop-pass-init
loop-pass-init g c =
    let base = c.args.base.now in
    let begun = c.begin_fade.ensures in
    record {
      fewer = λ later. absurd (omega (arith, later));
      faded = record {
        kept = begun.kept;
        best = begun.best;
        frozen = subst (FrozenDaysStay base.case.now base.from base.given.now) (sym begun.faded) (stays_self base.case.now base.from base.given.now);
        passes = refl;
        ends = refl;
        made = omega arith;
        spends = spent_none base.case.now c.args.meter.now c.args.kicking.now.searches.left;
        recalls = begun.recalls base.scale;
        fits = begun.fits;
      };
    }

pub loop-pass-preserved : goal.loop-pass-preserved
loop-pass-preserved g c =
    let k = c.args.base.now.case.now in
    let l = c.loop-pass in
    let pass = c.make_fade_pass.ensures in
    let both = faded_then l.invariant.faded pass.faded in
    let space = c.make_fade_pass.new.space in
    record {
      fewer = λ later any. omega (arith, l.invariant.faded.spends.fewer, pass.fewer (some_left l.kicking.searches.left c.if-kicking-eq0.false));
      faded = record {
        kept = both.kept;
        best = both.best;
        frozen = both.frozen;
        passes = both.passes;
        ends = both.ends;
        made = both.made;
        spends = both.spends;
        recalls = both.recalls;
        fits = fits_with k space both.fits c.follow_cover.new.bounds space.last space.best c.follow_cover.ensures.fits both.fits.recalls both.fits.best;
      };
    }

-- rows without a breach keep the hard rules
pub returns-clause-breaks : goal.returns-clause-breaks
returns-clause-breaks g c broken =
    let k = c.args.base.now.case.now in
    let faded = c.loop-pass.space.faded in
    false_from_ne_true (keeps_hard k faded) (λ keeps. true≢false (sym (ap not broken) ∙ sym c.is_none.ensures ∙ ap (λ (o : Option HardFault). is_some o) (c.first_hard.ensures ∙ kept_is_none k faded keeps)))
