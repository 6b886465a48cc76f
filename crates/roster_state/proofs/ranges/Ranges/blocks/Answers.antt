use Rattle.std.proofs.Common.{◌*◌, ◌≤◌, arith, mul-pos, mul_right_comm, subst}
use Rattle.roster_instance.specs.Limits.{most_states}
use Rattle.roster_state.specs.Codes.{Sizes, product}
use Rattle.roster_state.proofs.CodeLemmas.{factor-within}
use Rattle.roster_state.proofs.ranges.Ranges.blocks.Goals as goal

pub overflow_mul-result-3 : goal.overflow_mul-result-3
overflow_mul-result-3 c =
    let r = c.self.inside in
    let keep = c.self.invariant in
    let few = factor-within (r.last * r.run * r.shift_run * r.weekends) r.assignments most_states keep.assignments.some (subst (λ n. n ≤ most_states) (mul_right_comm (r.last * r.run * r.shift_run) r.assignments r.weekends) keep.states) in
    omega (arith, few)

pub returns-clause-within : goal.returns-clause-within
returns-clause-within c = subst (λ (z : Sizes). product z ≤ most_states) c.self.view_is c.self.invariant.states

pub returns-clause-some : goal.returns-clause-some
returns-clause-some c =
    let keep = c.self.invariant in
    mul-pos (mul-pos (mul-pos keep.last.some keep.run.some) keep.shift_run.some) keep.weekends.some
