use Rattle.std.proofs.Common.{◌≡◌, ◌∙◌, ◌≤◌, ℕ, arith, ap, refl, subst, true}
use Rattle.roster_instance.specs.Meaning.{Meaning, nurse_count}
use Rattle.roster_offers.specs.Workspaces.{fits_space}
use Rattle.roster_row.specs.Recalled.{RecallsSearches}
use Rattle.roster_laws.specs.FrozenDays.{FrozenDaysStay}
use Rattle.roster_laws.proofs.Frozen.{stays_on, stays_self}
use Rattle.roster_rules.specs.AllowedRows.{best_row}
use Rattle.roster_rules.specs.Improver.{step}
use Rattle.roster_polish.proofs.Passes.{is_pass, pass_begins, pass_differs, pass_is_round, pass_moves, pass_same, pass_stays}
use Rattle.roster_polish.proofs.Steps.{spent_both, spent_none, spent_read}
use Rattle.roster_polish.specs.declared.descend.Pass.TheVariants.{Changed, Stopped, Unchanged}
use Rattle.roster_polish.specs.Settled.{Spends}
use Rattle.roster_polish.proofs.descend.make_pass.Goals as goal
use Rattle.roster_polish.proofs.descend.make_pass.Goals.{then-step_within, else-step_within}

pub loop-nurse-init : goal.loop-nurse-init
loop-nurse-init g c = record {
  case = refl;
  pass = pass_begins c.args.held.now.case c.args.first.from c.args.held.now.roster c.args.first.nurse;
  frozen = stays_self c.args.held.now.case c.args.first.from c.args.held.now.roster;
  few = omega arith;
  ends = refl;
  spends = spent_none c.args.held.now.case c.args.meter.now c.args.searches.now.left;
  fits = c.requires.fits;
  recalls = c.requires.recalls;
}

pub loop-nurse-preserved : goal.loop-nurse-preserved
loop-nurse-preserved g c =
    let k = c.args.held.now.case in
    let from = c.args.first.from in
    let given = c.args.held.now.roster in
    let l = c.loop-nurse in
    let i = l.invariant in
    let logged = c.step_within.ensures in
    let next = c.step_within.new.held.roster in
    let steps : next ≡ step k (best_row k from) l.held.roster l.nurse = subst (λ (m : Meaning). next ≡ step m (best_row m from) l.held.roster l.nurse) i.case logged.roster in
    record {
      case = logged.case ∙ i.case;
      pass = elim c.if-step_within.branch [
        | then-step_within w ↦ rw (w.changed-is ∙ w.if-step_within.true) (pass_moves k from given c.args.first.nurse l.held.roster l.changed l.nurse i.pass next steps c.step_within.result logged.changed w.if-step_within.true)
        | else-step_within w ↦ rw w.changed-is (pass_stays k from given c.args.first.nurse l.held.roster l.changed l.nurse i.pass next steps c.step_within.result logged.changed w.if-step_within.false)
      ];
      frozen = stays_on k from given l.held.roster next i.frozen (subst (λ (m : Meaning). FrozenDaysStay m from l.held.roster next) i.case logged.frozen);
      few = omega (arith, i.few, logged.one, c.are_over.ensures.read.left);
      ends = logged.ends ∙ c.are_over.ensures.read.ends ∙ i.ends;
      spends = spent_both k c.args.meter.now c.args.searches.now.left l.meter l.searches.left c.step_within.new.meter c.step_within.new.searches.left i.spends (spent_read k l.meter l.searches.left c.are_over.new.self.left c.step_within.new.meter c.step_within.new.searches.left c.are_over.ensures.read.left (subst (λ (m : Meaning). Spends m l.meter c.are_over.new.self.left c.step_within.new.meter c.step_within.new.searches.left) i.case logged.spends));
      fits = subst (λ (m : Meaning). fits_space m c.step_within.new.workspace ≡ true) i.case logged.fits;
      recalls = subst (λ (m : Meaning). RecallsSearches m c.step_within.new.last) i.case logged.recalls;
    }

-- ---- no search is left, or no time

pub returns-then-are_over-clause-steps : goal.returns-then-are_over-clause-steps
returns-then-are_over-clause-steps g c =
    is_pass c.args.held.now.case c.args.first.from c.args.held.now.roster c.args.first.nurse c.loop-nurse.held.roster c.loop-nurse.changed c.loop-nurse.nurse c.loop-nurse.invariant.pass Stopped (λ none going. absurd (going refl))

-- ---- a whole round

all_made : (first n end count : ℕ) → first ≡ 0 → (first ≤ end → n ≤ end) → end ≤ n → end ≡ count → n ≡ count
all_made first n end count none within over is =
    let below : n ≤ end = within (omega (arith, none)) in
    omega (arith, below, over, is)

pub returns-then-changed-clause-round : goal.returns-then-changed-clause-round
returns-then-changed-clause-round g c = λ none enough forever.
    let i = c.loop-nurse.invariant in
    pass_is_round c.args.held.now.case c.args.first.from c.args.held.now.roster c.args.first.nurse c.loop-nurse.held.roster c.loop-nurse.changed c.loop-nurse.nurse i.pass none
    (all_made c.args.first.nurse c.loop-nurse.nurse c.nurses-nurse-end.result (nurse_count c.args.held.now.case) none c.loop-nurse.auto.nurse-end c.loop-nurse-test.false (c.nurses-nurse-end.ensures.count ∙ ap nurse_count c.case.ensures))

pub returns-then-changed-clause-steps : goal.returns-then-changed-clause-steps
returns-then-changed-clause-steps g c =
    is_pass c.args.held.now.case c.args.first.from c.args.held.now.roster c.args.first.nurse c.loop-nurse.held.roster c.loop-nurse.changed c.loop-nurse.nurse c.loop-nurse.invariant.pass Changed
    (λ none going. all_made c.args.first.nurse c.loop-nurse.nurse c.nurses-nurse-end.result (nurse_count c.args.held.now.case) none c.loop-nurse.auto.nurse-end c.loop-nurse-test.false (c.nurses-nurse-end.ensures.count ∙ ap nurse_count c.case.ensures))

pub returns-then-changed-clause-end : goal.returns-then-changed-clause-end
returns-then-changed-clause-end g c = λ none enough forever.
    rw (pass_differs c.args.held.now.case c.args.first.from c.args.held.now.roster c.args.first.nurse c.loop-nurse.held.roster c.loop-nurse.changed c.loop-nurse.nurse c.loop-nurse.invariant.pass c.if-changed.true) refl

pub returns-then-changed-clause-few : goal.returns-then-changed-clause-few
returns-then-changed-clause-few g c = λ none.
    omega (arith, none, c.loop-nurse.invariant.few, all_made c.args.first.nurse c.loop-nurse.nurse c.nurses-nurse-end.result (nurse_count c.args.held.now.case) none c.loop-nurse.auto.nurse-end c.loop-nurse-test.false (c.nurses-nurse-end.ensures.count ∙ ap nurse_count c.case.ensures))

pub returns-else-changed-clause-round : goal.returns-else-changed-clause-round
returns-else-changed-clause-round g c = λ none enough forever.
    let i = c.loop-nurse.invariant in
    pass_is_round c.args.held.now.case c.args.first.from c.args.held.now.roster c.args.first.nurse c.loop-nurse.held.roster c.loop-nurse.changed c.loop-nurse.nurse i.pass none
    (all_made c.args.first.nurse c.loop-nurse.nurse c.nurses-nurse-end.result (nurse_count c.args.held.now.case) none c.loop-nurse.auto.nurse-end c.loop-nurse-test.false (c.nurses-nurse-end.ensures.count ∙ ap nurse_count c.case.ensures))

pub returns-else-changed-clause-steps : goal.returns-else-changed-clause-steps
returns-else-changed-clause-steps g c =
    is_pass c.args.held.now.case c.args.first.from c.args.held.now.roster c.args.first.nurse c.loop-nurse.held.roster c.loop-nurse.changed c.loop-nurse.nurse c.loop-nurse.invariant.pass Unchanged
    (λ none going. all_made c.args.first.nurse c.loop-nurse.nurse c.nurses-nurse-end.result (nurse_count c.args.held.now.case) none c.loop-nurse.auto.nurse-end c.loop-nurse-test.false (c.nurses-nurse-end.ensures.count ∙ ap nurse_count c.case.ensures))

pub returns-else-changed-clause-end : goal.returns-else-changed-clause-end
returns-else-changed-clause-end g c = λ none enough forever.
    rw (pass_same c.args.held.now.case c.args.first.from c.args.held.now.roster c.args.first.nurse c.loop-nurse.held.roster c.loop-nurse.changed c.loop-nurse.nurse c.loop-nurse.invariant.pass c.if-changed.false) refl

pub returns-else-changed-clause-few : goal.returns-else-changed-clause-few
returns-else-changed-clause-few g c = λ none.
    omega (arith, none, c.loop-nurse.invariant.few, all_made c.args.first.nurse c.loop-nurse.nurse c.nurses-nurse-end.result (nurse_count c.args.held.now.case) none c.loop-nurse.auto.nurse-end c.loop-nurse-test.false (c.nurses-nurse-end.ensures.count ∙ ap nurse_count c.case.ensures))
