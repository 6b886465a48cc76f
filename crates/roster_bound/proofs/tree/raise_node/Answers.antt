use Rattle.std.proofs.Common.{arith}
use Rattle.roster_prices.proofs.Counted.{round_fits_meter, rounds_within}
use Rattle.roster_bound.proofs.tree.raise_node.Goals as goal

pub round_in_node-bound-requires-clause-room : goal.round_in_node-bound-requires-clause-room
round_in_node-bound-requires-clause-room g c =
    let l = c.loop-made in
    round_fits_meter c.args.upper.now.base.now.case.now l.made c.args.meter.now l.meter l.invariant.counted c.args.rounds 18446744073709551615 c.loop-made-test.true c.requires.room

pub returns-then-node-upper-clause-counted : goal.returns-then-node-upper-clause-counted
returns-then-node-upper-clause-counted g c =
    let l = c.loop-made in
    rounds_within c.args.upper.now.base.now.case.now l.made c.args.meter.now l.meter l.invariant.counted c.args.rounds (omega (arith, c.loop-made-test.true))

pub returns-then-left_after_step-eq0-2-clause-counted : goal.returns-then-left_after_step-eq0-2-clause-counted
returns-then-left_after_step-eq0-2-clause-counted g c =
    let l = c.loop-made in
    rounds_within c.args.upper.now.base.now.case.now l.made c.args.meter.now l.meter l.invariant.counted c.args.rounds (omega (arith, c.loop-made-test.true))
