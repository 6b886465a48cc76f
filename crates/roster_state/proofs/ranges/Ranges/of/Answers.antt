use Rattle.std.proofs.Common.{◌≡◌, ◌+◌, ◌≤◌, arith, max, rules, subst, sym}
use Rattle.roster_instance.specs.Limits.{most_states}
use Rattle.roster_instance.specs.Sizes.{state_count}
use Rattle.roster_state.specs.Codes.{Sizes, product, sizes_of}
use Rattle.roster_state.proofs.CodeLemmas.{product-is_state_count}
use Rattle.roster_state.proofs.ranges.Ranges.of.Goals as goal

abbrev sizes : goal.After-struct_known-1 → Sizes
sizes c = record {
  last = c.shifts.result + 1;
  run = c.max.result + 1;
  shift_run = c.greatest_cap.result + 1;
  assignments = c.cap-3.result + 1;
  weekends = c.contract_rules-rules.result.weekends + 1;
}

states : (c : goal.After-struct_known-1) → product (sizes c) ≡ state_count c.args.case.now c.args.nurse
states c =
    let are : sizes c ≡ sizes_of c.args.case.now c.args.nurse = search rules in
    product-is_state_count c.args.case.now c.args.nurse (sizes c) are

pub invariant_of-result : goal.invariant_of-result
invariant_of-result c =
    let small = c.contract_rules-rules.ensures.small in
    let run_is : c.max.result ≡ max c.cap.result c.cap-2.result = search rules in
    record {
      last = record { some = omega arith; few = omega arith };
      run = record { some = omega arith; few = omega arith };
      shift_run = record { some = omega arith; few = omega arith };
      assignments = record { some = omega arith; few = omega arith };
      weekends = record { some = omega arith; few = omega arith };
      states = subst (λ n. n ≤ most_states) (sym (states c)) (subst (λ n. n ≤ most_states) c.states-states.ensures.count c.states-states.ensures.within);
    }

pub returns-clause-states : goal.returns-clause-states
returns-clause-states c = states c
