use Rattle.std.proofs.Common.{◌≡◌, ◌∙◌, ◌+◌, ◌*◌, ◌<◌, ◌≤◌, ◌++◌, ap, arith, codes, decimal, subst, sym}
use Rattle.std.proofs.lemmas.Result.{err_from_is_err_and}
use Rattle.roster_text.specs.Io.{BreaksIn, Sends}
use Rattle.roster_instance.specs.Meaning.{Meaning, nurse_count, nurse_name}
use Rattle.roster_rules.specs.AllowedRows.{best_row}
use Rattle.roster_rules.specs.Improver.{changed, entry, line, line_of, step}
use Rattle.roster_rules.specs.Penalties.{penalty}
use Rattle.roster_laws.specs.Greatest.{greatest_extension_count}
use Rattle.roster_laws.specs.FrozenDays.{FrozenDaysStay}
use Rattle.roster_laws.proofs.Frozen.{stays_on}
use Rattle.roster_offers.proofs.WorkspaceLaws.{same_after}
use Rattle.roster_rounds.proofs.Counts.{step_counted, step_room, step_within}
use Rattle.roster_rounds.proofs.OneRound.{SoFar-breaks, SoFar-changed, SoFar-done, SoFar-done_breaks, SoFar-same, change_line, is_changed, round_line, unchanged}
use Rattle.roster_rounds.proofs.rounds.make_round.Goals as goal
use Rattle.roster_rounds.proofs.rounds.make_round.Goals.{After-loop-nurse, After-nurse_name, After-step-step, In-loop-nurse}

-- the nurse is one of the case's
inside : (g : _) (c : In-loop-nurse g) → c.loop-nurse.nurse < nurse_count c.args.held.now.case
inside g c = omega (arith, c.loop-nurse-test.true, c.nurses-nurse-end.ensures.count, ap (λ (m : Meaning). nurse_count m) c.case.ensures)

pub step-step-requires-clause-room : goal.step-step-requires-clause-room
step-step-requires-clause-room g c =
    step_room c.args.held.now.case c.loop-nurse.held.case c.loop-nurse.invariant.case_is c.loop-nurse.nurse c.args.meter.now c.loop-nurse.meter c.loop-nurse.invariant.counted (inside g (goal.at.step-step-requires-clause-room g c).In-loop-nurse) 18446744073709551615 c.requires.room

-- what the step does, in terms of the round's case
taken : (g : _) (c : After-step-step g) → c.step-step.new.held.roster ≡ step c.args.held.now.case (best_row c.args.held.now.case c.args.plan.from) c.loop-nurse.held.roster c.loop-nurse.nurse
taken g c = c.step-step.ensures.roster ∙ ap (λ (m : Meaning). step m (best_row m c.args.plan.from) c.loop-nurse.held.roster c.loop-nurse.nurse) c.loop-nurse.invariant.case_is

counted : (g : _) (c : After-step-step g) → c.loop-nurse.nurse < nurse_count c.args.held.now.case → c.step-step.new.meter ≤ c.args.meter.now + (c.loop-nurse.nurse + 1) * greatest_extension_count c.args.held.now.case
counted g c within =
    step_counted c.args.held.now.case c.loop-nurse.held.case c.loop-nurse.invariant.case_is c.loop-nurse.nurse c.args.meter.now c.loop-nurse.meter c.loop-nurse.invariant.counted within c.step-step.new.meter c.step-step.ensures.counted

pub step-step-requires-clause-ready : goal.step-step-requires-clause-ready
step-step-requires-clause-ready g c = subst (λ (m : Meaning). g.S.Steps.IsReady m c.loop-nurse.steps) (sym c.loop-nurse.invariant.case_is) c.loop-nurse.invariant.ready

-- the `Steps` value is ready for the next step
ready : (g : _) (c : After-step-step g) → g.S.Steps.IsReady c.args.held.now.case c.step-step.new.self
ready g c = subst (λ (m : Meaning). g.S.Steps.IsReady m c.step-step.new.self) c.loop-nurse.invariant.case_is c.step-step.ensures.ready

-- the frozen days after the step
stayed : (g : _) (c : After-step-step g) → FrozenDaysStay c.args.held.now.case c.args.plan.from c.args.held.now.roster c.step-step.new.held.roster
stayed g c =
    let l = c.loop-nurse in
    stays_on c.args.held.now.case c.args.plan.from c.args.held.now.roster l.held.roster c.step-step.new.held.roster l.invariant.frozen
    (subst (λ (m : Meaning). FrozenDaysStay m c.args.plan.from l.held.roster c.step-step.new.held.roster) l.invariant.case_is c.step-step.ensures.frozen)

pub loop-nurse-preserved-then-not-step : goal.loop-nurse-preserved-then-not-step
loop-nurse-preserved-then-not-step g c =
    let i = c.loop-nurse.invariant in
    let at = (goal.at.loop-nurse-preserved-then-not-step g c).After-step-step in
    record {
      case_is = c.step-step.ensures.case ∙ i.case_is;
      so_far = SoFar-same _ _ _ _ _ _ _ c.loop-nurse.held.roster c.step-step.new.held.roster _ _ _ c.loop-nurse.nurse i.so_far (taken g at) (unchanged c.step-step.result.changed _ c.step-step.ensures.changed c.if-not-step.true);
      counted = counted g at (inside g (goal.at.loop-nurse-preserved-then-not-step g c).In-loop-nurse);
      frozen = stayed g at;
      same_capacity = same_after _ _ _ i.same_capacity c.step-step.ensures.same_capacity;
      same_last = c.step-step.ensures.same_last ∙ i.same_last;
      ready = ready g at;
    }

-- the line of the nurse whose row was replaced
line_is : (g : _) (c : After-nurse_name g) → line (decimal c.args.plan.round ++ codes " " ++ c.nurse_name.result.now) c.step-step.result.after ≡ line_of c.args.held.now.case (entry (changed c.args.plan.round c.loop-nurse.nurse) c.step-step.new.held.roster)
line_is g c =
    let same = c.loop-nurse.invariant.case_is in
    change_line c.args.held.now.case c.args.plan.round c.loop-nurse.nurse c.step-step.new.held.roster c.nurse_name.result.now c.step-step.result.after
    (c.nurse_name.ensures ∙ ap (λ (m : Meaning). nurse_name m c.loop-nurse.nurse) (c.case-in-loop-nurse.ensures ∙ c.step-step.ensures.case ∙ same))
    (c.step-step.ensures.after ∙ ap (λ (m : Meaning). penalty m c.step-step.new.held.roster) same)

pub loop-nurse-preserved : goal.loop-nurse-preserved
loop-nurse-preserved g c =
    let i = c.loop-nurse.invariant in
    let at = (goal.at.loop-nurse-preserved g c).After-step-step in
    record {
      case_is = c.step-step.ensures.case ∙ i.case_is;
      so_far = SoFar-changed _ _ _ _ _ _ _ c.loop-nurse.held.roster c.step-step.new.held.roster _ _ _ _ _ c.loop-nurse.nurse i.so_far (taken g at) (is_changed c.step-step.result.changed _ c.step-step.ensures.changed c.if-not-step.false)
          (subst (Sends g.W.Write.contents c.loop-nurse.log c.log_change.new.log c.loop-nurse.sent c.in_ok-sent.sent) (line_is g (goal.at.loop-nurse-preserved g c).After-nurse_name) c.in_ok-sent.ensures.ok);
      counted = counted g at (inside g (goal.at.loop-nurse-preserved g c).In-loop-nurse);
      frozen = stayed g at;
      same_capacity = same_after _ _ _ i.same_capacity c.step-step.ensures.same_capacity;
      same_last = c.step-step.ensures.same_last ∙ i.same_last;
      ready = ready g at;
    }

pub returns-in_err-sent-clause-err : goal.returns-in_err-sent-clause-err
returns-in_err-sent-clause-err g c =
    let p = err_from_is_err_and c.from_residual.result c.from_residual.ensures.1 in
    let at = (goal.at.returns-in_err-sent-clause-err g c).After-step-step in
    rw (p.1, p.2) (SoFar-breaks _ _ _ _ _ _ _ c.loop-nurse.held.roster c.step-step.new.held.roster _ _ _ _ c.loop-nurse.nurse _ c.loop-nurse.invariant.so_far (inside g (goal.at.returns-in_err-sent-clause-err g c).In-loop-nurse) (taken g at)
    (is_changed c.step-step.result.changed _ c.step-step.ensures.changed c.if-not-step.false)
    (subst (λ text. BreaksIn g.W.Write.contents c.loop-nurse.log c.log_change.new.log c.loop-nurse.sent text c.in_err-sent.field-0.0) (line_is g (goal.at.returns-in_err-sent-clause-err g c).After-nurse_name) c.in_err-sent.ensures.err))

pub returns-in_err-sent-clause-counted : goal.returns-in_err-sent-clause-counted
returns-in_err-sent-clause-counted g c =
    let at = (goal.at.returns-in_err-sent-clause-counted g c).After-step-step in
    step_within c.args.held.now.case c.loop-nurse.held.case c.loop-nurse.invariant.case_is c.loop-nurse.nurse c.args.meter.now c.loop-nurse.meter c.loop-nurse.invariant.counted (inside g (goal.at.returns-in_err-sent-clause-counted g c).In-loop-nurse) c.step-step.new.meter c.step-step.ensures.counted

-- ---- after the last nurse

all_nurses : (g : _) (c : After-loop-nurse g) → c.loop-nurse.nurse ≡ nurse_count c.args.held.now.case
all_nurses g c = omega (arith, c.loop-nurse-test.false, c.loop-nurse.auto.nurse-end, c.nurses-nurse-end.ensures.count, ap (λ (m : Meaning). nurse_count m) c.case.ensures)

pub returns-in_err-sent-2-clause-err : goal.returns-in_err-sent-2-clause-err
returns-in_err-sent-2-clause-err g c =
    let p = err_from_is_err_and c.from_residual-in_err-sent-2.result c.from_residual-in_err-sent-2.ensures.1 in
    let case = c.args.held.now.case in
    let now = c.loop-nurse.held.roster in
    let last = round_line case c.args.plan.round now c.total.result (c.total.ensures.total ∙ ap (λ (m : Meaning). penalty m now) c.loop-nurse.invariant.case_is) in
    rw (p.1, p.2) (SoFar-done_breaks _ _ _ _ _ _ _ now _ _ _ _ c.loop-nurse.nurse _ c.loop-nurse.invariant.so_far (all_nurses g (goal.at.returns-in_err-sent-2-clause-err g c).After-loop-nurse)
    (subst (λ text. BreaksIn g.W.Write.contents c.loop-nurse.log c.log_round.new.log c.loop-nurse.sent text c.in_err-sent-2.field-0.0) last c.in_err-sent-2.ensures.err))

pub returns-clause-ok : goal.returns-clause-ok
returns-clause-ok g c =
    let case = c.args.held.now.case in
    let now = c.loop-nurse.held.roster in
    let last = round_line case c.args.plan.round now c.total.result (c.total.ensures.total ∙ ap (λ (m : Meaning). penalty m now) c.loop-nurse.invariant.case_is) in
    SoFar-done _ _ _ _ _ _ _ now _ _ _ _ _ c.loop-nurse.nurse c.loop-nurse.invariant.so_far (all_nurses g (goal.at.returns-clause-ok g c).After-loop-nurse) (omega (arith, c.loop-nurse-test.false, c.loop-nurse.auto.nurse-end, c.nurses-nurse-end.ensures.within))
    (subst (Sends g.W.Write.contents c.loop-nurse.log c.log_round.new.log c.loop-nurse.sent c.in_ok-sent-2.sent) last c.in_ok-sent-2.ensures.ok)
