use Rattle.std.proofs.Common.{arith}
use Rattle.roster_state.proofs.CodeLemmas.{code-is, digits-back, digits-of_one, digits-small, digits-within, weekends-small}
use Rattle.roster_state.proofs.state.State.code.Goals as goal

pub overflow_mul-weekends : goal.overflow_mul-weekends
overflow_mul-weekends c =
    let small = weekends-small _ _ _ _ _ c.ranges-2.view_is c.self.view_is c.shift_digit.ensures.number c.requires c.ranges-2.invariant in
    omega (arith, small)

pub overflow_add-weekends : goal.overflow_add-weekends
overflow_add-weekends c =
    let small = weekends-small _ _ _ _ _ c.ranges-2.view_is c.self.view_is c.shift_digit.ensures.number c.requires c.ranges-2.invariant in
    omega (arith, small)

pub overflow_mul-result : goal.overflow_mul-result
overflow_mul-result c =
    let small = digits-small _ _ _ _ _ c.ranges-2.view_is c.self.view_is c.shift_digit.ensures.number c.requires c.ranges-2.invariant in
    omega (arith, small)

pub overflow_add-result : goal.overflow_add-result
overflow_add-result c =
    let small = digits-small _ _ _ _ _ c.ranges-2.view_is c.self.view_is c.shift_digit.ensures.number c.requires c.ranges-2.invariant in
    omega (arith, small)

pub returns-clause-code : goal.returns-clause-code
returns-clause-code c = code-is _ _ _ _ _ c.ranges-2.view_is c.self.view_is c.shift_digit.ensures.number

pub returns-clause-within : goal.returns-clause-within
returns-clause-within c = digits-within _ _ _ _ _ c.ranges-2.view_is c.self.view_is c.shift_digit.ensures.number c.requires

pub returns-clause-one : goal.returns-clause-one
returns-clause-one c = digits-of_one _ _ _ _ _ c.ranges-2.view_is c.self.view_is c.shift_digit.ensures.number c.requires

pub returns-clause-back : goal.returns-clause-back
returns-clause-back c = digits-back _ _ _ _ _ c.ranges-2.view_is c.self.view_is c.shift_digit.ensures.number c.requires
