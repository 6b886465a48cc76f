use Rattle.std.proofs.Common.{◌≡◌, ◌∙◌, ℕ, Bool, ap, arith, sym}
use Rattle.roster_instance.specs.Choices.{days_of}
use Rattle.roster_instance.specs.Days.{shift_on}
use Rattle.roster_costs.specs.Kinds.{is_of}
use Rattle.roster_rules.proofs.CountLemmas.{run_more, shift_of_day, violations_more}
use Rattle.roster_rules.proofs.RunLaw.{border, no_violations}
use Rattle.roster_costs.proofs.runs.run_violations.Goals as goal

pub loop-choice-init : goal.loop-choice-init
loop-choice-init c =
    let p : ℕ → Bool = λ d. is_of c.args.kind (shift_on (days_of c.args.row.now) d) in
    record {
      run_is = sym (border c.args.before p);
      violations_are = sym (no_violations c.args.limits c.args.before p);
      run_within = omega arith;
      violations_within = omega arith;
    }

pub loop-choice-preserved : goal.loop-choice-preserved
loop-choice-preserved c =
    let p : ℕ → Bool = λ d. is_of c.args.kind (shift_on (days_of c.args.row.now) d) in
    let day = c.loop-choice.choice-index in
    let kind_is : c.is_of-of_kind.result ≡ p day =
    c.is_of-of_kind.ensures ∙ ap (is_of c.args.kind) (shift_of_day c.args.row.now day c.shift.result c.shift.ensures) in
    let run_is = c.loop-choice.invariant.run_is in
    record {
      run_is = run_more c.args.before p day c.loop-choice.run c.is_of-of_kind.result run_is kind_is c.next_run-run.result c.next_run-run.ensures.run;
      violations_are = violations_more c.args.before p day c.loop-choice.run c.is_of-of_kind.result run_is kind_is c.args.limits c.loop-choice.violations c.day_violations.result c.loop-choice.invariant.violations_are c.day_violations.ensures.violations;
      run_within = omega (arith, c.next_run-run.ensures.within, c.loop-choice.invariant.run_within);
      violations_within = omega (arith, c.day_violations.ensures.within, c.loop-choice.invariant.violations_within);
    }
