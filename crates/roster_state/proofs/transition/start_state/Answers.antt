use Rattle.std.proofs.Common.{◌≡◌, ◌∙◌, ℕ, ap, arith, min, nat_cmp, sym}
use Rattle.std.specs.Ordering.{ord_min}
use Rattle.std.proofs.lemmas.Grind.{common_steps}
use Rattle.roster_instance.specs.declared.rules.ContractRules.{ContractRules}
use Rattle.roster_instance.specs.Meaning.{contract_of, last_shift}
use Rattle.roster_instance.specs.Sizes.{cap}
use Rattle.roster_state.proofs.StartLaw.{run_at_first, shift_run_at_first, summary_at_first}
use Rattle.roster_state.proofs.transition.start_state.Goals.{in-Free, in-Working}
use Rattle.roster_state.proofs.transition.start_state.Goals as goal

min_is : (x y : ℕ) → ord_min nat_cmp x y ≡ min x y
min_is x y = grind (arith, common_steps)

pub returns : goal.returns
returns c =
    let k = c.args.case.now in
    let n = c.args.nurse in
    let past = c.args.past in
    let rules = c.contract_rules-rules.ensures.rules in
    let last = c.match-past.last in
    let total : c.cap-2.result ≡ cap (contract_of k n).total = c.cap-2.ensures ∙ ap (λ (r : ContractRules). cap r.total) rules in
    let assignments : c.min-2.result ≡ min past.assignments (cap (contract_of k n).total) = c.min-2.ensures ∙ min_is past.assignments c.cap-2.result ∙ ap (min past.assignments) total in
    let weekends : c.min-3.result ≡ min past.weekends (contract_of k n).weekends =
    c.min-3.ensures ∙ min_is past.weekends c.contract_rules-rules.result.weekends ∙ ap (λ (r : ContractRules). min past.weekends r.weekends) rules in
    let runs : (last.0 ≡ last_shift past.border) × (last.1 ≡ run_at_first (contract_of k n) past.border) × (last.2 ≡ shift_run_at_first k past.border) =
    elim c.match-past.branch [
      | in-Free w ↦
          let at = sym w.in-Free.is in
          let run = w.min.ensures ∙ min_is w.in-Free.run' w.cap.result ∙ ap (min w.in-Free.run') (w.cap.ensures ∙ ap (λ (r : ContractRules). cap r.free) rules) in
          ((λ i. (w.last-is i).0) ∙ ap last_shift at, (λ i. (w.last-is i).1) ∙ run ∙ ap (run_at_first (contract_of k n)) at, (λ i. (w.last-is i).2) ∙ ap (shift_run_at_first k) at)
      | in-Working w ↦
          let at = sym w.in-Working.is in
          let all = w.in-Working.working_run in
          let own = w.in-Working.shift_run in
          let run = w.min-in-Working.ensures ∙ min_is all w.cap-in-Working.result ∙ ap (min all) (w.cap-in-Working.ensures ∙ ap (λ (r : ContractRules). cap r.working) rules) in
          let shift_run = w.min-in-Working-2.ensures ∙ min_is own w.cap-in-Working-2.result ∙ ap (min own) (w.cap-in-Working-2.ensures ∙ ap cap w.run_of_shift.ensures.limits) in
          ((λ i. (w.last-is i).0) ∙ ap last_shift at, (λ i. (w.last-is i).1) ∙ run ∙ ap (run_at_first (contract_of k n)) at, (λ i. (w.last-is i).2) ∙ shift_run ∙ ap (shift_run_at_first k) at)
    ] in
    (λ i. record { last = runs.0 i; run = runs.1 i; shift_run = runs.2 i; assignments = assignments i; weekends = weekends i }) ∙ summary_at_first k n past c.requires
