use Rattle.std.proofs.Common.{◌*◌, arith}
use Rattle.roster_instance.specs.Limits.{most_states}
use Rattle.roster_state.proofs.CodeLemmas.{factor-within, product-some}
use Rattle.roster_state.proofs.ranges.Ranges.product.Goals as goal

pub overflow_mul-result-3 : goal.overflow_mul-result-3
overflow_mul-result-3 c =
    let r = c.self.inside in
    let keep = c.self.invariant in
    let few = factor-within (r.last * r.run * r.shift_run * r.assignments) r.weekends most_states keep.weekends.some keep.states in
    omega (arith, few)

pub returns-clause-some : goal.returns-clause-some
returns-clause-some c = product-some _ c.self.invariant
