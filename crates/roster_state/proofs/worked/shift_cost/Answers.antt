use Rattle.std.proofs.Common.{◌≡◌, ◌∙◌, ◌+◌, ◌*◌, ap, arith, sym, true}
use Rattle.roster_instance.specs.RunLaw.{day_violations}
use Rattle.roster_rules.specs.Prefix.{Summary}
use Rattle.roster_state.proofs.WorkedLaw.{shift_begins, shift_enters, shift_goes_on}
use Rattle.roster_state.proofs.worked.shift_cost.Goals as goal
use Rattle.roster_state.proofs.worked.shift_cost.Goals.{in_default-via-in-Some+else-last-shift, in_default-via-in_default}

pub overflow_add-result : goal.overflow_add-result
overflow_add-result c = omega (arith, c.requires.small, c.day_violations-in_default.ensures.within)

pub returns-in-Some-clause-cost : goal.returns-in-Some-clause-cost
returns-in-Some-clause-cost c =
    let s = c.args.state in
    let is = sym (ap (λ (s : Summary). s.last) c.state.view_is) ∙ c.in-Some.is in
    let same : c.in-Some.last.0 ≡ c.args.shift.0 = omega (arith, c.if-last-shift.true) in
    let run = ap (λ (s : Summary). s.shift_run) c.state.view_is in
    ap (λ v. 15 * v) (c.day_violations.ensures.violations ∙ (λ i. day_violations (c.run_of_shift-limits.ensures.limits i) (run i) true))
    ∙ sym (shift_goes_on c.args.case.now s c.in-Some.last c.args.shift is same c.requires.last c.requires.shift)

pub returns-in_default-clause-cost : goal.returns-in_default-clause-cost
returns-in_default-clause-cost c =
    let s = c.args.state in
    let sum : c.args.left + 15 * c.day_violations-in_default.result ≡ _ = (λ i. c.requires.left i + 15 * (c.day_violations-in_default.ensures.violations ∙ ap (λ l. day_violations l 0 true) c.run_of_shift-limits.ensures.limits) i) in
    elim c.in_default.branch [
      | in_default-via-in-Some+else-last-shift w ↦
          sum ∙ sym (shift_begins c.args.case.now s w.in-Some.last c.args.shift (sym (ap (λ (s : Summary). s.last) c.state.view_is) ∙ w.in-Some.is) (λ e. omega (arith, e, w.if-last-shift.false)) c.requires.last c.requires.shift)
      | in_default-via-in_default w ↦
          sum ∙ sym (shift_enters c.args.case.now s c.args.shift (sym (ap (λ (s : Summary). s.last) c.state.view_is) ∙ w.in_default.is) c.requires.shift)
    ]

pub returns-in_default-clause-within : goal.returns-in_default-clause-within
returns-in_default-clause-within c = omega (arith, c.requires.small, c.day_violations-in_default.ensures.within)
