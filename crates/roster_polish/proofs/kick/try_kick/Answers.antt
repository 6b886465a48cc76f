use Rattle.std.proofs.Common.{◌≡◌, ◌∙◌, ◌≤◌, subst, sym}
use Rattle.roster_instance.specs.Meaning.{Meaning}
use Rattle.roster_rules.specs.Penalties.{penalty}
use Rattle.roster_laws.specs.FrozenDays.{FrozenDaysStay}
use Rattle.roster_polish.specs.Descents.{StaysIfNoDearer}
use Rattle.roster_polish.specs.Polished.{FitsPolish}
use Rattle.roster_polish.specs.Settled.{IsSettled, Spends}
use Rattle.roster_polish.proofs.Steps.{rest_fits_meter, spent_both}
use Rattle.roster_polish.proofs.kick.try_kick.Goals as goal
use Rattle.roster_polish.proofs.kick.try_kick.Goals.{After-kick_nurses-first}

pub kick_nurses-first-requires : goal.kick_nurses-first-requires
kick_nurses-first-requires g c = record { able = c.requires.able }

-- the roster that was kept is the one before the kick
kept : (g : _) (c : After-kick_nurses-first g) → c.kick_nurses-first.new.space.kept ≡ c.args.held.now.roster
kept g c = c.kick_nurses-first.ensures.kicked.kept ∙ c.requires.kept

pub stay_if_no_dearer-requires : goal.stay_if_no_dearer-requires
stay_if_no_dearer-requires g c =
    let k = c.args.held.now.case in
    let first = c.kick_nurses-first in
    let logged = first.ensures.kicked in
    let kept = kept g (goal.at.stay_if_no_dearer-requires g c).After-kick_nurses-first in
    record {
      able = record {
        fits = subst (λ (m : Meaning). FitsPolish m first.new.space) (sym logged.case) logged.fits;
        room = rw logged.case (rest_fits_meter k c.args.meter.now c.args.kicking.now.searches.left first.new.meter first.new.kicking.searches.left 18446744073709551615 logged.spends c.requires.able.room);
      };
      keeps = rw (logged.case, kept) c.keeps_rules.ensures.keeps;
      penalty = c.total-penalty.ensures.total ∙ sym (λ i. penalty (logged.case i) (kept i));
      frozen = rw kept (subst (λ (m : Meaning). FrozenDaysStay m c.args.from c.args.held.now.roster first.new.held.roster) (sym logged.case) logged.frozen);
    }

pub returns : goal.returns
returns g c =
    let k = c.args.held.now.case in
    let week = c.args.from in
    let given = c.args.held.now.roster in
    let first = c.kick_nurses-first in
    let kicked = first.ensures.kicked in
    let last = c.stay_if_no_dearer in
    let tried = last.ensures.tried in
    let next = last.new.held.roster in
    let kept = kept g (goal.at.returns g c).After-kick_nurses-first in
    record {
      tried = record {
        case = tried.case ∙ kicked.case;
        kept = tried.kept;
        stayed = λ e. subst (λ (m : Meaning). IsSettled m week next) kicked.case (tried.stayed e);
        back = λ e. tried.back e ∙ kept;
        frozen = subst (λ r. FrozenDaysStay k week r next) kept (subst (λ (m : Meaning). FrozenDaysStay m week first.new.space.kept next) kicked.case tried.frozen);
        no_dearer = subst (λ r. penalty k next ≤ penalty k r) kept (subst (λ (m : Meaning). penalty m next ≤ penalty m first.new.space.kept) kicked.case tried.no_dearer);
        spends = spent_both k c.args.meter.now c.args.kicking.now.searches.left first.new.meter first.new.kicking.searches.left last.new.meter last.new.searches.left kicked.spends
            (subst (λ (m : Meaning). Spends m first.new.meter first.new.kicking.searches.left last.new.meter last.new.searches.left) kicked.case tried.spends);
        fits = subst (λ (m : Meaning). FitsPolish m last.new.space) kicked.case tried.fits;
      };
      decided = record {
        kicked = first.new.held.roster;
        frozen = kicked.frozen;
        stays = subst (λ n. StaysIfNoDearer k week n last.new.searches first.new.held.roster next last.result) c.total-penalty.ensures.total
            (subst (λ (m : Meaning). StaysIfNoDearer m week c.total-penalty.result last.new.searches first.new.held.roster next last.result) kicked.case last.ensures.decided);
      };
    }
