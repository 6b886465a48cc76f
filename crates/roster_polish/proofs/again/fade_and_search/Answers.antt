use Rattle.std.proofs.Common.{◌≤◌, subst, sym}
use Rattle.std.proofs.lemmas.Bool.{true≢false}
use Rattle.roster_instance.specs.Meaning.{Meaning}
use Rattle.roster_rules.specs.Penalties.{penalty}
use Rattle.roster_polish.specs.Descents.{IsFadedAnew}
use Rattle.roster_polish.proofs.Anew.{faded_later}
use Rattle.roster_polish.proofs.again.fade_and_search.Goals as goal

pub returns-then-not-fade_anew-clause-searched : goal.returns-then-not-fade_anew-clause-searched
returns-then-not-fade_anew-clause-searched g c =
    let fade = c.fade_anew in
    record {
      faded = fade.new.space.faded;
      reached = fade.new.held.roster;
      fades = subst (IsFadedAnew c.args.held.now.case c.args.from fade.new.kicking.searches c.args.held.now.roster fade.new.space.faded fade.new.held.roster) c.if-not-fade_anew.true fade.ensures.fades;
      no_dearer = λ e. absurd (true≢false (sym e));
    }

pub returns-clause-searched : goal.returns-clause-searched
returns-clause-searched g c =
    let k = c.args.held.now.case in
    let fade = c.fade_anew in
    let last = c.search_on.new.held.roster in
    record {
      faded = fade.new.space.faded;
      reached = fade.new.held.roster;
      fades = faded_later k c.args.from fade.new.kicking.searches c.search_on.new.searches c.args.held.now.roster fade.new.space.faded fade.new.held.roster
          (subst (IsFadedAnew k c.args.from fade.new.kicking.searches c.args.held.now.roster fade.new.space.faded fade.new.held.roster) c.if-not-fade_anew.false fade.ensures.fades);
      no_dearer = λ e. subst (λ (m : Meaning). penalty m last ≤ penalty m fade.new.held.roster) fade.ensures.goes_on.case c.search_on.ensures.no_dearer;
    }
