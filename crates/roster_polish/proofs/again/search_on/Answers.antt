use Rattle.std.proofs.Common.{◌≡◌, ◌∙◌, ◌≤◌, ◌⊎◌, arith, false, inl, inr, refl, subst, sym, true}
use Rattle.std.proofs.lemmas.Bool.{cases_Bool}
use Rattle.roster_instance.specs.Meaning.{Meaning}
use Rattle.roster_rules.specs.Penalties.{penalty}
use Rattle.roster_laws.specs.FrozenDays.{FrozenDaysStay}
use Rattle.roster_laws.proofs.Frozen.{stays_on, stays_self}
use Rattle.roster_polish.specs.Polished.{FitsPolish}
use Rattle.roster_polish.specs.Settled.{IsSettled, Spends}
use Rattle.roster_polish.proofs.Steps.{rest_fits_meter, spent_both, spent_none}
use Rattle.roster_polish.proofs.again.search_on.Goals as goal

pub loop-turn-init : goal.loop-turn-init
loop-turn-init g c =
    let k = c.args.held.now.case in
    record {
      goes_on = record {
        case = refl;
        kept = λ e. c.requires.kept;
        settled = λ e. c.requires.settled;
        frozen = stays_self k c.args.from c.args.held.now.roster;
        best = refl;
        spends = spent_none k c.args.meter.now c.args.searches.now.left;
        fits = c.requires.able.fits;
      };
      no_dearer = omega arith;
    }

pub try_near-requires-clause-able : goal.try_near-requires-clause-able
try_near-requires-clause-able g c =
    let k = c.args.held.now.case in
    let l = c.loop-turn in
    record {
      fits = subst (λ (m : Meaning). FitsPolish m l.space) (sym l.invariant.goes_on.case) l.invariant.goes_on.fits;
      room = rw l.invariant.goes_on.case (rest_fits_meter k c.args.meter.now c.args.searches.now.left l.meter l.searches.left 18446744073709551615 l.invariant.goes_on.spends c.requires.able.room);
    }

pub try_near-requires-clause-kept : goal.try_near-requires-clause-kept
try_near-requires-clause-kept g c = c.loop-turn.invariant.goes_on.kept refl

pub loop-turn-preserved : goal.loop-turn-preserved
loop-turn-preserved g c =
    let k = c.args.held.now.case in
    let from = c.args.from in
    let l = c.loop-turn in
    let i = l.invariant.goes_on in
    let tried = c.try_near.ensures.tried in
    let next = c.try_near.new.held.roster in
    let settled : (c.try_near.result ≡ true) ⊎ (c.try_near.result ≡ false) → IsSettled k from next = λ either. elim either [
      | inl stayed ↦ subst (λ (m : Meaning). IsSettled m from next) i.case (tried.stayed stayed)
      | inr back ↦ subst (IsSettled k from) (sym (tried.back back)) (i.settled refl)
    ] in
    let less : penalty k next ≤ penalty k l.held.roster = subst (λ (m : Meaning). penalty m next ≤ penalty m l.held.roster) i.case tried.no_dearer in
    record {
      goes_on = record {
        case = tried.case ∙ i.case;
        kept = λ e. tried.kept;
        settled = λ e. settled (cases_Bool c.try_near.result);
        frozen = stays_on k from c.args.held.now.roster l.held.roster next i.frozen (subst (λ (m : Meaning). FrozenDaysStay m from l.held.roster next) i.case tried.frozen);
        best = c.try_near.ensures.best ∙ i.best;
        spends = spent_both k c.args.meter.now c.args.searches.now.left l.meter l.searches.left c.try_near.new.meter c.try_near.new.searches.left i.spends
            (subst (λ (m : Meaning). Spends m l.meter l.searches.left c.try_near.new.meter c.try_near.new.searches.left) i.case tried.spends);
        fits = subst (λ (m : Meaning). FitsPolish m c.try_near.new.space) i.case tried.fits;
      };
      no_dearer = omega (arith, less, l.invariant.no_dearer);
    }

pub returns-after-loop-turn : goal.returns-after-loop-turn
returns-after-loop-turn g c = c.loop-turn.invariant
