use Rattle.std.proofs.Common.{◌≡◌, ◌∙◌, ◌+◌, ap, arith, refl, subst, sym}
use Rattle.std.proofs.lemmas.Result.{err_from_is_err_and}
use Rattle.roster_text.specs.Io.{BreaksIn, Sends}
use Rattle.roster_instance.specs.Meaning.{Meaning}
use Rattle.roster_rules.specs.AllowedRows.{best_row}
use Rattle.roster_rules.specs.Improver.{round_log}
use Rattle.roster_rules.specs.Penalties.{penalty}
use Rattle.roster_laws.specs.FrozenDays.{FrozenDaysStay}
use Rattle.roster_laws.proofs.Frozen.{stays_on, stays_self}
use Rattle.roster_rounds.specs.RunLogs.{BreaksAmong, RoundMade}
use Rattle.roster_offers.proofs.WorkspaceLaws.{same_after, same_self}
use Rattle.roster_rounds.proofs.Counts.{counted_within, round_counted, round_room, round_within}
use Rattle.roster_rounds.proofs.OneRound.{settled_line, start_line, stopped_line}
use Rattle.roster_rounds.proofs.RunSteps.{Going-round, Going-settled, Going-start, Going-stopped, round_breaks, settled_breaks, start_breaks, stopped_breaks}
use Rattle.roster_rounds.proofs.rounds.make_rounds.Given as given
use Rattle.roster_rounds.proofs.rounds.make_rounds.Goals as goal
use Rattle.roster_rounds.proofs.rounds.make_rounds.Goals.{After-make_round, In_ok-made}

-- what the round did, in terms of the case at the beginning
made_is : (g : given.Over) (c : In_ok-made g) → RoundMade g.W.Write.contents c.args.held.now.case (best_row c.args.held.now.case c.args.from) (c.loop-rounds_before.rounds_before + 1) c.loop-rounds_before.held.roster c.make_round.new.held.roster c.loop-rounds_before.log c.make_round.new.log c.loop-rounds_before.sent c.in_ok-made.made.sent c.in_ok-made.made.changes
made_is g c =
    let l = c.loop-rounds_before in
    let made = c.in_ok-made.made in
    subst (λ (m : Meaning). RoundMade g.W.Write.contents m (best_row m c.args.from) (l.rounds_before + 1) l.held.roster c.make_round.new.held.roster l.log c.make_round.new.log l.sent made.sent made.changes) l.invariant.case_is c.in_ok-made.ensures.ok

-- the frozen days after the round
stayed : (g : given.Over) (c : After-make_round g) → FrozenDaysStay c.args.held.now.case c.args.from c.args.held.now.roster c.make_round.new.held.roster
stayed g c =
    let l = c.loop-rounds_before in
    stays_on c.args.held.now.case c.args.from c.args.held.now.roster l.held.roster c.make_round.new.held.roster l.invariant.frozen
    (subst (λ (m : Meaning). FrozenDaysStay m c.args.from l.held.roster c.make_round.new.held.roster) l.invariant.case_is c.make_round.ensures.frozen)

-- the `Steps` value is ready for the next round
ready : (g : given.Over) (c : After-make_round g) → g.S.Steps.IsReady c.args.held.now.case c.make_round.new.steps
ready g c = subst (λ (m : Meaning). g.S.Steps.IsReady m c.make_round.new.steps) c.loop-rounds_before.invariant.case_is c.make_round.ensures.ready

pub returns-in_err-sent-clause-err : goal.returns-in_err-sent-clause-err
returns-in_err-sent-clause-err g c =
    let p = err_from_is_err_and c.from_residual.result c.from_residual.ensures.1 in
    let line = start_line c.args.held.now.case c.case.result.now c.args.held.now.roster c.total.result c.case.ensures c.total.ensures.total in
    rw (p.1, p.2) (start_breaks g.W.Write.contents c.args.held.now.case (best_row c.args.held.now.case c.args.from) c.args.rounds c.args.held.now.roster c.args.log.now c.log_start.new.log c.in_err-sent.field-0.0
    (subst (λ text. BreaksIn g.W.Write.contents c.args.log.now c.log_start.new.log 0 text c.in_err-sent.field-0.0) line c.in_err-sent.ensures.err))

pub loop-rounds_before-init : goal.loop-rounds_before-init
loop-rounds_before-init g c =
    let line = start_line c.args.held.now.case c.case.result.now c.args.held.now.roster c.total.result c.case.ensures c.total.ensures.total in
    record {
      case_is = refl;
      counted = omega arith;
      frozen = stays_self c.args.held.now.case c.args.from c.args.held.now.roster;
      same_capacity = same_self _;
      same_last = refl;
      ready = c.requires.ready;
      going = Going-start g.W.Write.contents c.args.held.now.case (best_row c.args.held.now.case c.args.from) c.args.rounds c.args.held.now.roster c.args.log.now c.log_start.new.log c.in_ok-sent.sent
          (subst (Sends g.W.Write.contents c.args.log.now c.log_start.new.log 0 c.in_ok-sent.sent) line c.in_ok-sent.ensures.ok);
    }

pub returns-in_err-made-clause-err : goal.returns-in_err-made-clause-err
returns-in_err-made-clause-err g c =
    let p = err_from_is_err_and c.from_residual-in_err-made.result c.from_residual-in_err-made.ensures.1 in
    let contents = g.W.Write.contents in
    let l = c.loop-rounds_before in
    let k = l.rounds_before + 1 in
    rw (p.1, p.2) (round_breaks contents c.args.held.now.case (best_row c.args.held.now.case c.args.from) c.args.rounds c.args.held.now.roster c.args.log.now l.held.roster c.make_round.new.held.roster l.log c.make_round.new.log l.sent
    l.changes l.rounds_before c.in_err-made.field-0.0 l.invariant.going c.loop-rounds_before-test.true
    (subst (λ (m : Meaning). BreaksAmong contents m (round_log m (best_row m c.args.from) k l.held.roster) c.make_round.new.held.roster l.log c.make_round.new.log l.sent c.in_err-made.field-0.0) l.invariant.case_is c.in_err-made.ensures.err))

pub returns-in_err-log_word-clause-err : goal.returns-in_err-log_word-clause-err
returns-in_err-log_word-clause-err g c =
    let p = err_from_is_err_and c.from_residual-in_err-log_word.result c.from_residual-in_err-log_word.ensures.1 in
    let contents = g.W.Write.contents in
    let case = c.args.held.now.case in
    let l = c.loop-rounds_before in
    let now = l.held.roster in
    let next = c.make_round.new.held.roster in
    let made = c.in_ok-made.made in
    let round = made_is g (goal.at.returns-in_err-log_word-clause-err g c).In_ok-made in
    let line = settled_line case next c.total-total.result (c.total-total.ensures.total ∙ ap (λ (m : Meaning). penalty m next) (c.make_round.ensures.case ∙ l.invariant.case_is)) in
    rw (p.1, p.2) (settled_breaks contents case (best_row case c.args.from) c.args.rounds c.args.held.now.roster c.args.log.now now next l.log c.make_round.new.log c.log_word.new.log l.sent made.sent l.changes l.rounds_before
    made.changes c.in_err-log_word.field-0.0 l.invariant.going c.loop-rounds_before-test.true round c.if-made-eq0.true
    (subst (λ text. BreaksIn contents c.make_round.new.log c.log_word.new.log made.sent text c.in_err-log_word.field-0.0) line c.in_err-log_word.ensures.err))

pub returns-then-made-eq0-clause-ok : goal.returns-then-made-eq0-clause-ok
returns-then-made-eq0-clause-ok g c =
    let contents = g.W.Write.contents in
    let case = c.args.held.now.case in
    let l = c.loop-rounds_before in
    let now = l.held.roster in
    let next = c.make_round.new.held.roster in
    let made = c.in_ok-made.made in
    let round = made_is g (goal.at.returns-then-made-eq0-clause-ok g c).In_ok-made in
    let total = c.total-total.ensures.total ∙ ap (λ (m : Meaning). penalty m next) (c.make_round.ensures.case ∙ l.invariant.case_is) in
    Going-settled contents case (best_row case c.args.from) c.args.rounds c.args.held.now.roster c.args.log.now now next l.log c.make_round.new.log c.log_word.new.log l.sent made.sent c.in_ok-log_word.field-0 l.changes
    l.rounds_before made.changes c.total-total.result l.invariant.going c.loop-rounds_before-test.true round c.if-made-eq0.true total
    (subst (Sends contents c.make_round.new.log c.log_word.new.log made.sent c.in_ok-log_word.field-0) (settled_line case next c.total-total.result total) c.in_ok-log_word.ensures.ok)

pub loop-rounds_before-preserved : goal.loop-rounds_before-preserved
loop-rounds_before-preserved g c =
    let contents = g.W.Write.contents in
    let case = c.args.held.now.case in
    let l = c.loop-rounds_before in
    let now = l.held.roster in
    let next = c.make_round.new.held.roster in
    let made = c.in_ok-made.made in
    let round = made_is g (goal.at.loop-rounds_before-preserved g c).In_ok-made in
    record {
      case_is = c.make_round.ensures.case ∙ l.invariant.case_is;
      counted = round_counted case l.held.case l.invariant.case_is l.rounds_before c.args.meter.now l.meter l.invariant.counted c.make_round.new.meter c.make_round.ensures.counted;
      frozen = stayed g (goal.at.loop-rounds_before-preserved g c).After-make_round;
      same_capacity = same_after _ _ _ l.invariant.same_capacity c.make_round.ensures.same_capacity;
      same_last = c.make_round.ensures.same_last ∙ l.invariant.same_last;
      ready = ready g (goal.at.loop-rounds_before-preserved g c).After-make_round;
      going = Going-round contents case (best_row case c.args.from) c.args.rounds c.args.held.now.roster c.args.log.now now next l.log c.make_round.new.log l.sent made.sent l.changes l.rounds_before made.changes l.invariant.going
          c.loop-rounds_before-test.true round (omega (arith, c.if-made-eq0.false));
    }

pub returns-in_err-log_word-2-clause-err : goal.returns-in_err-log_word-2-clause-err
returns-in_err-log_word-2-clause-err g c =
    let p = err_from_is_err_and c.from_residual-in_err-log_word-2.result c.from_residual-in_err-log_word-2.ensures.1 in
    let contents = g.W.Write.contents in
    let case = c.args.held.now.case in
    let l = c.loop-rounds_before in
    let now = l.held.roster in
    let all : l.rounds_before ≡ c.args.rounds = omega (arith, c.loop-rounds_before-test.false, l.auto.rounds_before-end) in
    let line = stopped_line case now c.total-total-2.result (c.total-total-2.ensures.total ∙ ap (λ (m : Meaning). penalty m now) l.invariant.case_is) in
    rw (p.1, p.2) (stopped_breaks contents case (best_row case c.args.from) c.args.rounds c.args.held.now.roster c.args.log.now now l.log c.log_word-2.new.log l.sent l.changes l.rounds_before c.in_err-log_word-2.field-0.0 l.invariant.going all
    (subst (λ text. BreaksIn contents l.log c.log_word-2.new.log l.sent text c.in_err-log_word-2.field-0.0) line c.in_err-log_word-2.ensures.err))

pub returns-clause-ok : goal.returns-clause-ok
returns-clause-ok g c =
    let contents = g.W.Write.contents in
    let case = c.args.held.now.case in
    let l = c.loop-rounds_before in
    let now = l.held.roster in
    let all : l.rounds_before ≡ c.args.rounds = omega (arith, c.loop-rounds_before-test.false, l.auto.rounds_before-end) in
    let total = c.total-total-2.ensures.total ∙ ap (λ (m : Meaning). penalty m now) l.invariant.case_is in
    Going-stopped contents case (best_row case c.args.from) c.args.rounds c.args.held.now.roster c.args.log.now now l.log c.log_word-2.new.log l.sent c.in_ok-log_word-2.field-0 l.changes l.rounds_before c.total-total-2.result l.invariant.going
    all total (subst (Sends contents l.log c.log_word-2.new.log l.sent c.in_ok-log_word-2.field-0) (stopped_line case now c.total-total-2.result total) c.in_ok-log_word-2.ensures.ok)

pub make_round-requires-clause-room : goal.make_round-requires-clause-room
make_round-requires-clause-room g c =
    let l = c.loop-rounds_before in
    round_room c.args.held.now.case l.held.case l.invariant.case_is l.rounds_before c.args.meter.now l.meter l.invariant.counted c.args.rounds 18446744073709551615 c.loop-rounds_before-test.true c.requires.room

pub make_round-requires-clause-ready : goal.make_round-requires-clause-ready
make_round-requires-clause-ready g c = subst (λ (m : Meaning). g.S.Steps.IsReady m c.loop-rounds_before.steps) (sym c.loop-rounds_before.invariant.case_is) c.loop-rounds_before.invariant.ready

pub returns-in_err-made-clause-case : goal.returns-in_err-made-clause-case
returns-in_err-made-clause-case g c = c.make_round.ensures.case ∙ c.loop-rounds_before.invariant.case_is

pub returns-in_err-made-clause-frozen : goal.returns-in_err-made-clause-frozen
returns-in_err-made-clause-frozen g c = stayed g (goal.at.returns-in_err-made-clause-frozen g c).After-make_round

pub returns-in_err-made-clause-counted : goal.returns-in_err-made-clause-counted
returns-in_err-made-clause-counted g c =
    let l = c.loop-rounds_before in
    round_within c.args.held.now.case l.held.case l.invariant.case_is l.rounds_before c.args.meter.now l.meter l.invariant.counted c.args.rounds c.make_round.new.meter c.loop-rounds_before-test.true c.make_round.ensures.counted

pub returns-in_err-made-clause-same_capacity : goal.returns-in_err-made-clause-same_capacity
returns-in_err-made-clause-same_capacity g c = same_after _ _ _ c.loop-rounds_before.invariant.same_capacity c.make_round.ensures.same_capacity

pub returns-in_err-made-clause-same_last : goal.returns-in_err-made-clause-same_last
returns-in_err-made-clause-same_last g c = c.make_round.ensures.same_last ∙ c.loop-rounds_before.invariant.same_last

pub returns-in_err-made-clause-ready : goal.returns-in_err-made-clause-ready
returns-in_err-made-clause-ready g c = ready g (goal.at.returns-in_err-made-clause-ready g c).After-make_round

pub returns-in_err-log_word-clause-case : goal.returns-in_err-log_word-clause-case
returns-in_err-log_word-clause-case g c = c.make_round.ensures.case ∙ c.loop-rounds_before.invariant.case_is

pub returns-in_err-log_word-clause-frozen : goal.returns-in_err-log_word-clause-frozen
returns-in_err-log_word-clause-frozen g c = stayed g (goal.at.returns-in_err-log_word-clause-frozen g c).After-make_round

pub returns-in_err-log_word-clause-counted : goal.returns-in_err-log_word-clause-counted
returns-in_err-log_word-clause-counted g c =
    let l = c.loop-rounds_before in
    round_within c.args.held.now.case l.held.case l.invariant.case_is l.rounds_before c.args.meter.now l.meter l.invariant.counted c.args.rounds c.make_round.new.meter c.loop-rounds_before-test.true c.make_round.ensures.counted

pub returns-in_err-log_word-clause-same_capacity : goal.returns-in_err-log_word-clause-same_capacity
returns-in_err-log_word-clause-same_capacity g c = same_after _ _ _ c.loop-rounds_before.invariant.same_capacity c.make_round.ensures.same_capacity

pub returns-in_err-log_word-clause-same_last : goal.returns-in_err-log_word-clause-same_last
returns-in_err-log_word-clause-same_last g c = c.make_round.ensures.same_last ∙ c.loop-rounds_before.invariant.same_last

pub returns-in_err-log_word-clause-ready : goal.returns-in_err-log_word-clause-ready
returns-in_err-log_word-clause-ready g c = ready g (goal.at.returns-in_err-log_word-clause-ready g c).After-make_round

pub returns-then-made-eq0-clause-case : goal.returns-then-made-eq0-clause-case
returns-then-made-eq0-clause-case g c = c.make_round.ensures.case ∙ c.loop-rounds_before.invariant.case_is

pub returns-then-made-eq0-clause-frozen : goal.returns-then-made-eq0-clause-frozen
returns-then-made-eq0-clause-frozen g c = stayed g (goal.at.returns-then-made-eq0-clause-frozen g c).After-make_round

pub returns-then-made-eq0-clause-counted : goal.returns-then-made-eq0-clause-counted
returns-then-made-eq0-clause-counted g c =
    let l = c.loop-rounds_before in
    round_within c.args.held.now.case l.held.case l.invariant.case_is l.rounds_before c.args.meter.now l.meter l.invariant.counted c.args.rounds c.make_round.new.meter c.loop-rounds_before-test.true c.make_round.ensures.counted

pub returns-then-made-eq0-clause-same_capacity : goal.returns-then-made-eq0-clause-same_capacity
returns-then-made-eq0-clause-same_capacity g c = same_after _ _ _ c.loop-rounds_before.invariant.same_capacity c.make_round.ensures.same_capacity

pub returns-then-made-eq0-clause-same_last : goal.returns-then-made-eq0-clause-same_last
returns-then-made-eq0-clause-same_last g c = c.make_round.ensures.same_last ∙ c.loop-rounds_before.invariant.same_last

pub returns-then-made-eq0-clause-ready : goal.returns-then-made-eq0-clause-ready
returns-then-made-eq0-clause-ready g c = ready g (goal.at.returns-then-made-eq0-clause-ready g c).After-make_round

pub returns-in_err-log_word-2-clause-frozen : goal.returns-in_err-log_word-2-clause-frozen
returns-in_err-log_word-2-clause-frozen g c = c.loop-rounds_before.invariant.frozen

pub returns-in_err-log_word-2-clause-counted : goal.returns-in_err-log_word-2-clause-counted
returns-in_err-log_word-2-clause-counted g c =
    let l = c.loop-rounds_before in
    counted_within c.args.held.now.case l.rounds_before c.args.rounds c.args.meter.now l.meter (omega (arith, l.auto.rounds_before-end)) l.invariant.counted

pub returns-in_err-log_word-2-clause-ready : goal.returns-in_err-log_word-2-clause-ready
returns-in_err-log_word-2-clause-ready g c = c.loop-rounds_before.invariant.ready

pub returns-clause-frozen : goal.returns-clause-frozen
returns-clause-frozen g c = c.loop-rounds_before.invariant.frozen

pub returns-clause-counted : goal.returns-clause-counted
returns-clause-counted g c =
    let l = c.loop-rounds_before in
    counted_within c.args.held.now.case l.rounds_before c.args.rounds c.args.meter.now l.meter (omega (arith, l.auto.rounds_before-end)) l.invariant.counted

pub returns-clause-ready : goal.returns-clause-ready
returns-clause-ready g c = c.loop-rounds_before.invariant.ready

pub returns-in_err-sent-clause-frozen : goal.returns-in_err-sent-clause-frozen
returns-in_err-sent-clause-frozen g c = stays_self c.args.held.now.case c.args.from c.args.held.now.roster
