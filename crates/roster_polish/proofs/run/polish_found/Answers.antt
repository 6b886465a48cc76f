use Rattle.std.proofs.Common.{◌≡◌, ◌∙◌, ◌+◌, ◌++◌, ◌≤◌, None, Some, [], ap, arith, codes, decimal, refl, subst, sym, true}
use Rattle.std.proofs.lemmas.Nat.{mul-le}
use Rattle.std.proofs.lemmas.Bool.{true≢false}
use Rattle.std.proofs.lemmas.Result.{err_from_is_err_and}
use Rattle.roster_text.specs.Io.{BreaksIn, Sends}
use Rattle.roster_instance.specs.Meaning.{Meaning}
use Rattle.roster_instance.specs.Rosters.{fits_case}
use Rattle.roster_rules.specs.HardRules.{keeps_hard}
use Rattle.roster_rules.specs.Penalties.{penalty}
use Rattle.roster_laws.specs.FrozenDays.{FrozenDaysStay}
use Rattle.roster_laws.specs.Greatest.{greatest_extension_count}
use Rattle.roster_laws.proofs.Frozen.{stays_on}
use Rattle.roster_rounds.specs.PutIn.{IsAccepted}
use Rattle.roster_rules.specs.Improver.{line}
use Rattle.roster_polish.specs.Polished.{FitsPolish, IsFaded, IsReached, first_run, first_searches, kicks_text, last_line, descent_searches}
use Rattle.roster_polish.specs.Settled.{IsSettled, extensions_of}
use Rattle.roster_polish.specs.Shown.{IsShownIf, SawOnlyReported}
use Rattle.roster_polish.proofs.Keeping.{reached_by}
use Rattle.roster_polish.proofs.KickLogs.{cheaper_breaks, fade_breaks, no_dearer_than, underway_faded, end_breaks, ends, first_kept, first_text, start_breaks, underway_cheaper, reported_first, reported_now, underway_first, underway_no_dearer, underway_same}
use Rattle.roster_polish.proofs.Passes.{descent_few}
use Rattle.roster_polish.proofs.Showing.{saw_if, saw_none, saw_one}
use Rattle.roster_polish.proofs.Steps.{both_of}
use Rattle.roster_polish.proofs.run.polish_found.Given as given
use Rattle.roster_polish.proofs.run.polish_found.Goals as goal
use Rattle.roster_polish.proofs.run.polish_found.Goals.{After-show_if, After-total-total, After-try_fade, else-total-before, else-try_fade, then-total-before+in_ok-sent-3, then-try_fade+in_ok-sent-2}

pub returns-in_err-sent-clause-err : goal.returns-in_err-sent-clause-err
returns-in_err-sent-clause-err g c =
    let p = err_from_is_err_and c.from_residual.result c.from_residual.ensures.1 in
    let k = c.args.held.now.case in
    let given = c.args.held.now.roster in
    rw (p.1, p.2) (start_breaks k c.args.course.now.from given c.args.reporting.now.start c.args.course.now.kicks_alone g.W.Write.contents c.args.log.now c.args.course.now.searches c.log_start.new.log c.in_err-sent.field-0.0
    (c.keeps_rules.ensures.fits, c.keeps_rules.ensures.keeps)
    (subst (λ text. BreaksIn g.W.Write.contents c.args.log.now c.log_start.new.log 0 text c.in_err-sent.field-0.0) (first_text k c.case.result.now c.args.reporting.now.start c.case.ensures) c.in_err-sent.ensures.err))

pub returns-in_err-sent-clause-saved : goal.returns-in_err-sent-clause-saved
returns-in_err-sent-clause-saved g c = saw_none g.W.Write.contents g.S.Saves.Saw c.args.held.now.case c.args.course.now.from c.args.held.now.roster c.args.reporting.now.start c.args.log.now c.args.reporting.now.saver

-- ---- the first descent

pub begin-kicking-requires-clause-room : goal.begin-kicking-requires-clause-room
begin-kicking-requires-clause-room g c =
    let k = c.args.held.now.case in
    let given = c.args.held.now.roster in
    let logged = c.descend_first-settled.ensures in
    let descent = descent_searches k c.args.course.now.from given in
    rw logged.case (omega (
      arith,
      logged.counted,
      c.requires.room,
      both_of c.args.course.now.searches (first_searches k) (greatest_extension_count k),
      mul-le descent (greatest_extension_count k) (first_searches k) (greatest_extension_count k) (descent_few k c.args.course.now.from given) (omega arith),
    ))

-- ---- the fade

pub try_fade-requires-clause-able : goal.try_fade-requires-clause-able
try_fade-requires-clause-able g c =
    let k = c.args.held.now.case in
    let given = c.args.held.now.roster in
    let logged = c.descend_first-settled.ensures in
    let descent = descent_searches k c.args.course.now.from given in
    record {
      fits = c.begin-kicking.ensures.fits;
      room = rw logged.case (omega (
        arith,
        logged.counted,
        c.requires.room,
        c.begin-kicking.ensures.counted,
        ap (λ (m : Meaning). extensions_of m c.begin-kicking.result.searches.left) logged.case,
        ap (λ (m : Meaning). extensions_of m c.args.course.now.searches) logged.case,
        both_of c.args.course.now.searches (first_searches k) (greatest_extension_count k),
        mul-le descent (greatest_extension_count k) (first_searches k) (greatest_extension_count k) (descent_few k c.args.course.now.from given) (omega arith),
      ));
    }

-- the fade leaves the case, and what holds of its case holds of the given one
case_is : (g : given.Over) (c : After-try_fade g) → c.try_fade.new.held.case ≡ c.args.held.now.case
case_is g c = c.try_fade.ensures.tried.case ∙ c.descend_first-settled.ensures.case

at_given : (g : given.Over) (c : After-try_fade g) (P : Meaning → Type 0) → P c.descend_first-settled.new.held.case → P c.args.held.now.case
at_given g c P logged = subst P c.descend_first-settled.ensures.case logged

frozen : (g : given.Over) (c : After-try_fade g) → FrozenDaysStay c.args.held.now.case c.args.course.now.from c.args.held.now.roster c.try_fade.new.held.roster
frozen g c =
    let k = c.args.held.now.case in
    let from = c.args.course.now.from in
    let start = c.args.held.now.roster in
    let first = c.descend_first-settled.new.held.roster in
    let accepted : IsAccepted k start = (c.keeps_rules.ensures.fits, c.keeps_rules.ensures.keeps) in
    stays_on k from start first c.try_fade.new.held.roster (subst (FrozenDaysStay k from start) (sym c.descend_first-settled.ensures.roster) (first_kept k from start c.args.reporting.now.start c.args.course.now.kicks_alone accepted).stays)
    (at_given g c (λ (m : Meaning). FrozenDaysStay m from first c.try_fade.new.held.roster) c.try_fade.ensures.tried.frozen)

no_dearer : (g : given.Over) (c : After-try_fade g) → penalty c.args.held.now.case c.try_fade.new.held.roster ≤ penalty c.args.held.now.case (first_run c.args.held.now.case c.args.course.now.from c.args.held.now.roster).roster
no_dearer g c =
    let next = c.try_fade.new.held.roster in
    subst (λ r. penalty c.args.held.now.case next ≤ penalty c.args.held.now.case r) c.descend_first-settled.ensures.roster
    (at_given g c (λ (m : Meaning). penalty m next ≤ penalty m c.descend_first-settled.new.held.roster) c.try_fade.ensures.tried.no_dearer)

-- the log's first line is sent
begun_log : (g : given.Over) (c : After-try_fade g) → Sends g.W.Write.contents c.args.log.now c.log_start.new.log 0 c.in_ok-sent.sent (kicks_text c.args.held.now.case c.args.reporting.now.start None [])
begun_log g c = subst (Sends g.W.Write.contents c.args.log.now c.log_start.new.log 0 c.in_ok-sent.sent) (first_text c.args.held.now.case c.case.result.now c.args.reporting.now.start c.case.ensures) c.in_ok-sent.ensures.ok

-- the given roster was shown
shown_first : (g : given.Over) (c : After-try_fade g) → SawOnlyReported g.W.Write.contents g.S.Saves.Saw c.args.held.now.case c.args.course.now.from c.args.held.now.roster c.args.reporting.now.start c.args.log.now c.args.reporting.now.saver c.show.new.self
shown_first g c =
    let k = c.args.held.now.case in
    let given = c.args.held.now.roster in
    let saver = c.args.reporting.now.saver in
    saw_one g.W.Write.contents g.S.Saves.Saw k c.args.course.now.from given c.args.reporting.now.start c.args.log.now saver saver given c.show.new.self (saw_none g.W.Write.contents g.S.Saves.Saw k c.args.course.now.from given c.args.reporting.now.start c.args.log.now saver)
    (reported_first k c.args.course.now.from given c.args.reporting.now.start c.args.course.now.kicks_alone g.W.Write.contents c.args.log.now c.log_start.new.log c.in_ok-sent.sent (c.keeps_rules.ensures.fits, c.keeps_rules.ensures.keeps) (begun_log g c))
    c.show.ensures

pub returns-in_err-sent-2-clause-saved : goal.returns-in_err-sent-2-clause-saved
returns-in_err-sent-2-clause-saved g c = shown_first g (goal.at.returns-in_err-sent-2-clause-saved g c).After-try_fade

-- a fade that stayed was not ruled out, and its roster may be kept
fades : (g : given.Over) (c : After-try_fade g) → c.try_fade.result ≡ true → c.args.course.now.kicks_alone ≡ true → ⊥
fades g c stayed alone = true≢false (sym stayed ∙ c.try_fade.ensures.none (c.begin-kicking.ensures.fadeless alone))

faded : (g : given.Over) (c : After-try_fade g) → c.try_fade.result ≡ true → fits_case c.try_fade.new.held.case c.try_fade.new.held.roster ≡ true → keeps_hard c.try_fade.new.held.case c.try_fade.new.held.roster ≡ true
    → IsFaded c.args.held.now.case c.args.course.now.from c.args.held.now.roster (first_run c.args.held.now.case c.args.course.now.from c.args.held.now.roster).roster c.try_fade.new.held.roster
faded g c stayed fits keeps = record {
  reached = reached_by c.try_fade.new.held.case c.args.held.now.case c.args.course.now.from c.args.held.now.roster c.try_fade.new.held.roster (case_is g c) fits keeps (frozen g c);
  is_settled = at_given g c (λ (m : Meaning). IsSettled m c.args.course.now.from c.try_fade.new.held.roster) (c.try_fade.ensures.tried.stayed stayed);
  no_dearer = no_dearer g c;
}

pub returns-in_err-sent-2-clause-frozen : goal.returns-in_err-sent-2-clause-frozen
returns-in_err-sent-2-clause-frozen g c = frozen g (goal.at.returns-in_err-sent-2-clause-frozen g c).After-try_fade

pub returns-in_err-sent-2-clause-no_dearer : goal.returns-in_err-sent-2-clause-no_dearer
returns-in_err-sent-2-clause-no_dearer g c =
    let at = (goal.at.returns-in_err-sent-2-clause-no_dearer g c).After-try_fade in
    let next = c.try_fade.new.held.roster in
    no_dearer_than c.args.held.now.case c.args.course.now.from c.args.held.now.roster c.args.reporting.now.start c.args.course.now.kicks_alone (Some next) (faded g at c.if-try_fade.true c.keeps_rules-then-try_fade.ensures.fits c.keeps_rules-then-try_fade.ensures.keeps) [] next tt refl

pub returns-in_err-sent-2-clause-err : goal.returns-in_err-sent-2-clause-err
returns-in_err-sent-2-clause-err g c =
    let at = (goal.at.returns-in_err-sent-2-clause-err g c).After-try_fade in
    let p = err_from_is_err_and c.from_residual-in_err-sent-2.result c.from_residual-in_err-sent-2.ensures.1 in
    let k = c.args.held.now.case in
    let next = c.try_fade.new.held.roster in
    let total : c.total.result ≡ penalty k next = c.total.ensures.total ∙ ap (λ (m : Meaning). penalty m next) (case_is g at) in
    rw (p.1, p.2) (fade_breaks k c.args.course.now.from c.args.held.now.roster c.args.reporting.now.start c.args.course.now.kicks_alone g.W.Write.contents c.args.log.now c.log_start.new.log c.in_ok-sent.sent (begun_log g at) next (fades g at c.if-try_fade.true)
    (faded g at c.if-try_fade.true c.keeps_rules-then-try_fade.ensures.fits c.keeps_rules-then-try_fade.ensures.keeps) c.args.course.now.searches c.log_word.new.log c.in_err-sent-2.field-0.0
    (subst (λ n. BreaksIn g.W.Write.contents c.log_start.new.log c.log_word.new.log c.in_ok-sent.sent (line (codes "fade") n) c.in_err-sent-2.field-0.0) total c.in_err-sent-2.ensures.err))

pub loop-kicks_before-init : goal.loop-kicks_before-init
loop-kicks_before-init g c =
    let at = (goal.at.loop-kicks_before-init g c).After-try_fade in
    let k = c.args.held.now.case in
    let from = c.args.course.now.from in
    let start = c.args.held.now.roster in
    let alone = c.args.course.now.kicks_alone in
    let logged = c.descend_first-settled.ensures in
    let f = c.try_fade.ensures.tried in
    let next = c.try_fade.new.held.roster in
    record {
      case = case_is g at;
      kept = f.kept;
      frozen = frozen g at;
      going = elim c.if-try_fade.branch [
        | then-try_fade+in_ok-sent-2 w ↦ (
            let total : w.total.result ≡ penalty k next = w.total.ensures.total ∙ ap (λ (m : Meaning). penalty m next) (case_is g at) in
            rw (w.log-is, w.sent-is, w.settled-is, w.is_reported-is) (underway_faded k from start c.args.reporting.now.start alone g.W.Write.contents c.args.log.now c.log_start.new.log c.in_ok-sent.sent (begun_log g at) next (fades g at w.if-try_fade.true)
            (faded g at w.if-try_fade.true w.keeps_rules-then-try_fade.ensures.fits w.keeps_rules-then-try_fade.ensures.keeps) w.log_word.new.log w.in_ok-sent-2.sent
            (subst (λ n. Sends g.W.Write.contents c.log_start.new.log w.log_word.new.log c.in_ok-sent.sent w.in_ok-sent-2.sent (line (codes "fade") n)) total w.in_ok-sent-2.ensures.ok)))
        | else-try_fade w ↦
            rw (w.log-is, w.sent-is, w.settled-is, w.is_reported-is, f.back w.if-try_fade.false, logged.roster, logged.settled) (underway_first k from start c.args.reporting.now.start alone g.W.Write.contents c.args.log.now c.log_start.new.log c.in_ok-sent.sent (begun_log g at))
      ];
      saved = shown_first g at;
      counted = omega (
        arith,
        logged.counted,
        c.begin-kicking.ensures.counted,
        f.spends.counted,
        ap (λ (m : Meaning). extensions_of m c.try_fade.new.kicking.searches.left) logged.case,
        ap (λ (m : Meaning). extensions_of m c.begin-kicking.result.searches.left) logged.case,
        ap (λ (m : Meaning). extensions_of m c.args.course.now.searches) logged.case,
        both_of c.args.course.now.searches (descent_searches k from start) (greatest_extension_count k),
      );
      fits = subst (λ (m : Meaning). FitsPolish m c.try_fade.new.space) logged.case f.fits;
    }

-- ---- a kick

pub try_change-requires-clause-able : goal.try_change-requires-clause-able
try_change-requires-clause-able g c =
    let k = c.args.held.now.case in
    let given = c.args.held.now.roster in
    let l = c.loop-kicks_before in
    let descent = descent_searches k c.args.course.now.from given in
    rw l.invariant.case (record {
      fits = l.invariant.fits;
      room = omega (
        arith,
        l.invariant.counted,
        c.requires.room,
        both_of c.args.course.now.searches descent (greatest_extension_count k),
        both_of c.args.course.now.searches (first_searches k) (greatest_extension_count k),
        mul-le descent (greatest_extension_count k) (first_searches k) (greatest_extension_count k) (descent_few k c.args.course.now.from given) (omega arith),
      );
    })

-- the held roster was shown, if the log has reported it
shown_so_far : (g : given.Over) (c : After-show_if g) → SawOnlyReported g.W.Write.contents g.S.Saves.Saw c.args.held.now.case c.args.course.now.from c.args.held.now.roster c.args.reporting.now.start c.args.log.now c.args.reporting.now.saver c.show_if.new.saver
shown_so_far g c =
    let k = c.args.held.now.case in
    let from = c.args.course.now.from in
    let given = c.args.held.now.roster in
    let start = c.args.reporting.now.start in
    let l = c.loop-kicks_before in
    let i = l.invariant in
    saw_if g.W.Write.contents g.S.Saves.Saw k from given start c.args.log.now c.args.reporting.now.saver l.is_reported l.reporting.saver l.held.roster c.show_if.new.saver i.saved
    (λ e. reported_now k from given start c.args.course.now.kicks_alone g.W.Write.contents c.args.log.now l.log l.kicks_before l.sent l.settled l.is_reported l.held.roster i.going e
    (reached_by l.held.case k from given l.held.roster i.case c.show_if.ensures.accepted.0 c.show_if.ensures.accepted.1 i.frozen))
    (subst (λ (m : Meaning). IsShownIf g.S.Saves.Saw m l.held.roster l.is_reported l.reporting.saver c.show_if.new.saver) i.case c.show_if.ensures.shown)

pub returns-in_err-sent-3-clause-saved : goal.returns-in_err-sent-3-clause-saved
returns-in_err-sent-3-clause-saved g c = shown_so_far g (goal.at.returns-in_err-sent-3-clause-saved g c).After-show_if

pub returns-in_err-log_word-clause-saved : goal.returns-in_err-log_word-clause-saved
returns-in_err-log_word-clause-saved g c = c.loop-kicks_before.invariant.saved

pub returns-clause-saved : goal.returns-clause-saved
returns-clause-saved g c = c.loop-kicks_before.invariant.saved

pub loop-kicks_before-preserved-then-not-try_change : goal.loop-kicks_before-preserved-then-not-try_change
loop-kicks_before-preserved-then-not-try_change g c =
    let k = c.args.held.now.case in
    let l = c.loop-kicks_before in
    let i = l.invariant in
    let logged = c.try_change.ensures.tried in
    let back = logged.back c.if-not-try_change.true in
    record {
      case = logged.case ∙ i.case;
      kept = logged.kept;
      frozen = subst (FrozenDaysStay k c.args.course.now.from c.args.held.now.roster) (sym back) i.frozen;
      going = underway_same k c.args.course.now.from c.args.held.now.roster c.args.reporting.now.start c.args.course.now.kicks_alone g.W.Write.contents c.args.log.now l.log l.kicks_before l.sent l.settled l.is_reported l.held.roster i.going l.settled c.try_change.new.held.roster (ap (penalty k) back)
          (λ e. subst (IsSettled k c.args.course.now.from) (sym back) (i.going.is_settled e)) (λ e. e);
      saved = shown_so_far g (goal.at.loop-kicks_before-preserved-then-not-try_change g c).After-show_if;
      counted = omega (
        arith,
        i.counted,
        logged.spends.counted,
        ap (λ (m : Meaning). extensions_of m c.try_change.new.kicking.searches.left) i.case,
        ap (λ (m : Meaning). extensions_of m l.kicking.searches.left) i.case,
      );
      fits = subst (λ (m : Meaning). FitsPolish m c.try_change.new.space) i.case logged.fits;
    }

-- the roster after a kick that stayed is settled, and may be kept
kicked : (g : given.Over) (c : After-total-total g) → c.total-total.result ≡ penalty c.args.held.now.case c.try_change.new.held.roster
kicked g c = c.total-total.ensures.total ∙ ap (λ (m : Meaning). penalty m c.try_change.new.held.roster) (c.try_change.ensures.tried.case ∙ c.loop-kicks_before.invariant.case)

before_it : (g : given.Over) (c : After-total-total g) → c.total-before.result ≡ penalty c.args.held.now.case c.loop-kicks_before.held.roster
before_it g c = c.total-before.ensures.total ∙ ap (λ (m : Meaning). penalty m c.loop-kicks_before.held.roster) c.loop-kicks_before.invariant.case

stayed : (g : given.Over) (c : After-total-total g) → IsSettled c.args.held.now.case c.args.course.now.from c.try_change.new.held.roster
stayed g c =
    subst (λ (m : Meaning). IsSettled m c.args.course.now.from c.try_change.new.held.roster) c.loop-kicks_before.invariant.case (c.try_change.ensures.tried.stayed c.if-not-try_change.false)

reached : (g : given.Over) (c : After-total-total g) → IsReached c.args.held.now.case c.args.course.now.from c.args.held.now.roster c.try_change.new.held.roster
reached g c =
    let k = c.args.held.now.case in
    let from = c.args.course.now.from in
    let l = c.loop-kicks_before in
    let i = l.invariant in
    let next = c.try_change.new.held.roster in
    let stays = subst (λ (m : Meaning). FrozenDaysStay m from l.held.roster next) i.case c.try_change.ensures.tried.frozen in
    reached_by c.try_change.new.held.case k from c.args.held.now.roster next (c.try_change.ensures.tried.case ∙ i.case) c.keeps_rules-in-loop-kicks_before.ensures.fits c.keeps_rules-in-loop-kicks_before.ensures.keeps
    (stays_on k from c.args.held.now.roster l.held.roster next i.frozen stays)

pub returns-in_err-sent-3-clause-err : goal.returns-in_err-sent-3-clause-err
returns-in_err-sent-3-clause-err g c =
    let at = (goal.at.returns-in_err-sent-3-clause-err g c).After-total-total in
    let p = err_from_is_err_and c.from_residual-in_err-sent-3.result c.from_residual-in_err-sent-3.ensures.1 in
    let l = c.loop-kicks_before in
    rw (p.1, p.2) (cheaper_breaks c.args.held.now.case c.args.course.now.from c.args.held.now.roster c.args.reporting.now.start c.args.course.now.kicks_alone g.W.Write.contents c.args.log.now l.log l.kicks_before l.sent l.settled l.is_reported l.held.roster l.invariant.going c.try_change.new.held.roster
    (omega (arith, kicked g at, before_it g at, c.if-total-before.true)) (reached g at) (stayed g at) c.args.course.now.searches c.log_kick.new.log c.in_err-sent-3.field-0.0 c.loop-kicks_before-test.true
    (subst (λ n. BreaksIn g.W.Write.contents l.log c.log_kick.new.log l.sent (line (codes "kick " ++ decimal (l.kicks_before + 1)) n) c.in_err-sent-3.field-0.0) (kicked g at) c.in_err-sent-3.ensures.err))

pub loop-kicks_before-preserved : goal.loop-kicks_before-preserved
loop-kicks_before-preserved g c =
    let at = (goal.at.loop-kicks_before-preserved g c).After-total-total in
    let k = c.args.held.now.case in
    let from = c.args.course.now.from in
    let start = c.args.held.now.roster in
    let l = c.loop-kicks_before in
    let i = l.invariant in
    let logged = c.try_change.ensures.tried in
    let next = c.try_change.new.held.roster in
    let less : penalty k next ≤ penalty k l.held.roster = subst (λ (m : Meaning). penalty m next ≤ penalty m l.held.roster) i.case logged.no_dearer in
    record {
      case = logged.case ∙ i.case;
      kept = logged.kept;
      frozen = (reached g at).stays;
      going = elim c.if-total-before.branch [
        | then-total-before+in_ok-sent-3 w ↦
            rw (w.log-is, w.sent-is, w.is_reported-is) (underway_cheaper k from start c.args.reporting.now.start c.args.course.now.kicks_alone g.W.Write.contents c.args.log.now l.log l.kicks_before l.sent l.settled l.is_reported l.held.roster i.going next
            (omega (arith, kicked g at, before_it g at, w.if-total-before.true)) (reached g at) (stayed g at) w.log_kick.new.log w.in_ok-sent-3.sent
            (subst (λ n. Sends g.W.Write.contents l.log w.log_kick.new.log l.sent w.in_ok-sent-3.sent (line (codes "kick " ++ decimal (l.kicks_before + 1)) n)) (kicked g at) w.in_ok-sent-3.ensures.ok))
        | else-total-before w ↦
            rw (w.log-is, w.sent-is, w.is_reported-is) (underway_same k from start c.args.reporting.now.start c.args.course.now.kicks_alone g.W.Write.contents c.args.log.now l.log l.kicks_before l.sent l.settled l.is_reported l.held.roster i.going true next
            (omega (arith, kicked g at, before_it g at, less, w.if-total-before.false)) (λ e. stayed g at) (λ e. refl))
      ];
      saved = shown_so_far g (goal.at.loop-kicks_before-preserved g c).After-show_if;
      counted = omega (
        arith,
        i.counted,
        logged.spends.counted,
        ap (λ (m : Meaning). extensions_of m c.try_change.new.kicking.searches.left) i.case,
        ap (λ (m : Meaning). extensions_of m l.kicking.searches.left) i.case,
      );
      fits = subst (λ (m : Meaning). FitsPolish m c.try_change.new.space) i.case logged.fits;
    }

pub returns-in_err-sent-3-clause-no_dearer : goal.returns-in_err-sent-3-clause-no_dearer
returns-in_err-sent-3-clause-no_dearer g c =
    let k = c.args.held.now.case in
    let l = c.loop-kicks_before in
    let next = c.try_change.new.held.roster in
    let less : penalty k next ≤ penalty k l.held.roster = subst (λ (m : Meaning). penalty m next ≤ penalty m l.held.roster) l.invariant.case c.try_change.ensures.tried.no_dearer in
    omega (arith, less, underway_no_dearer k c.args.course.now.from c.args.held.now.roster c.args.reporting.now.start c.args.course.now.kicks_alone g.W.Write.contents c.args.log.now l.log l.kicks_before l.sent l.settled l.is_reported l.held.roster l.invariant.going)

-- ---- the end

pub returns-in_err-log_word-clause-no_dearer : goal.returns-in_err-log_word-clause-no_dearer
returns-in_err-log_word-clause-no_dearer g c =
    let l = c.loop-kicks_before in
    underway_no_dearer c.args.held.now.case c.args.course.now.from c.args.held.now.roster c.args.reporting.now.start c.args.course.now.kicks_alone g.W.Write.contents c.args.log.now l.log l.kicks_before l.sent l.settled l.is_reported l.held.roster l.invariant.going

pub returns-clause-no_dearer : goal.returns-clause-no_dearer
returns-clause-no_dearer g c =
    let l = c.loop-kicks_before in
    underway_no_dearer c.args.held.now.case c.args.course.now.from c.args.held.now.roster c.args.reporting.now.start c.args.course.now.kicks_alone g.W.Write.contents c.args.log.now l.log l.kicks_before l.sent l.settled l.is_reported l.held.roster l.invariant.going

pub returns-in_err-log_word-clause-err : goal.returns-in_err-log_word-clause-err
returns-in_err-log_word-clause-err g c =
    let p = err_from_is_err_and c.from_residual-in_err-log_word.result c.from_residual-in_err-log_word.ensures.1 in
    let k = c.args.held.now.case in
    let from = c.args.course.now.from in
    let given = c.args.held.now.roster in
    let l = c.loop-kicks_before in
    let i = l.invariant in
    let total : c.total-total-2.result ≡ penalty k l.held.roster = c.total-total-2.ensures.total ∙ ap (λ (m : Meaning). penalty m l.held.roster) i.case in
    let text : line c.end_word.result.now c.total-total-2.result ≡ last_line k l.settled l.held.roster = λ j. line (c.end_word.ensures j) (total j) in
    rw (p.1, p.2) (end_breaks k from given c.args.reporting.now.start c.args.course.now.kicks_alone g.W.Write.contents c.args.log.now l.log l.kicks_before l.sent l.settled l.is_reported l.held.roster i.going c.args.course.now.searches c.log_word-2.new.log c.in_err-log_word.field-0.0
    (omega (arith, l.auto.kicks_before-end)) (reached_by l.held.case k from given l.held.roster i.case c.keeps_rules-2.ensures.fits c.keeps_rules-2.ensures.keeps i.frozen)
    (subst (λ end. BreaksIn g.W.Write.contents l.log c.log_word-2.new.log l.sent end c.in_err-log_word.field-0.0) text c.in_err-log_word.ensures.err))

pub returns-clause-ok : goal.returns-clause-ok
returns-clause-ok g c =
    let k = c.args.held.now.case in
    let from = c.args.course.now.from in
    let given = c.args.held.now.roster in
    let l = c.loop-kicks_before in
    let i = l.invariant in
    let total : c.total-total-2.result ≡ penalty k l.held.roster = c.total-total-2.ensures.total ∙ ap (λ (m : Meaning). penalty m l.held.roster) i.case in
    let text : line c.end_word.result.now c.total-total-2.result ≡ last_line k l.settled l.held.roster = λ j. line (c.end_word.ensures j) (total j) in
    ends k from given c.args.reporting.now.start c.args.course.now.kicks_alone g.W.Write.contents c.args.log.now l.log l.kicks_before l.sent l.settled l.is_reported l.held.roster i.going c.args.course.now.searches c.log_word-2.new.log c.in_ok-log_word.field-0 (record { settled = l.settled; total = c.total-total-2.result })
    (omega (arith, l.auto.kicks_before-end)) (reached_by l.held.case k from given l.held.roster i.case c.keeps_rules-2.ensures.fits c.keeps_rules-2.ensures.keeps i.frozen) refl total
    (subst (Sends g.W.Write.contents l.log c.log_word-2.new.log l.sent c.in_ok-log_word.field-0) text c.in_ok-log_word.ensures.ok)
