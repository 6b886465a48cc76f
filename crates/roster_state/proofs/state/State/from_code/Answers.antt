use Rattle.std.proofs.Common.{◌<◌, ◌≤◌, arith, sym}
use Rattle.roster_state.specs.Codes.{product}
use Rattle.roster_state.proofs.CodeLemmas.{last-small, read-back, read-fits, read-state, state_at-none}
use Rattle.roster_state.proofs.state.State.from_code.Goals as goal

pub returns-then-code-product-clause-state : goal.returns-then-code-product-clause-state
returns-then-code-product-clause-state c =
    let beyond : product c.args.ranges.now ≤ c.args.code = omega arith in
    sym (state_at-none c.args.ranges.now c.args.code beyond)

pub shift_numbered-requires : goal.shift_numbered-requires
shift_numbered-requires c =
    let below : c.args.code < product c.args.ranges.now = omega arith in
    last-small _ _ c.args.code c.ranges-2.view_is c.ranges-2.invariant below

pub returns-clause-state : goal.returns-clause-state
returns-clause-state c =
    let below : c.args.code < product c.args.ranges.now = omega arith in
    read-state _ _ c.args.code _ c.ranges-2.view_is c.shift_numbered.ensures c.ranges-2.invariant below

pub returns-clause-fits : goal.returns-clause-fits
returns-clause-fits c =
    let below : c.args.code < product c.args.ranges.now = omega arith in
    read-fits _ _ c.args.code _ c.ranges-2.view_is c.shift_numbered.ensures c.ranges-2.invariant below

pub returns-clause-back : goal.returns-clause-back
returns-clause-back c = read-back _ _ c.args.code _ c.ranges-2.view_is c.shift_numbered.ensures
