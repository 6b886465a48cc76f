use Rattle.std.proofs.Common.{◌+◌, arith, get_or, subst}
use Rattle.roster_bundle.specs.Limits.{greatest_u64}
use Rattle.roster_instance.specs.declared.choice.Shift.{Shift}
use Rattle.roster_completion.specs.Lines.{UnderCell}
use Rattle.roster_completion.proofs.Blocks.{all_set, block_long, block_more, block_extensions, block_within}
use Rattle.roster_completion.proofs.shift.set_after_shift.Goals as goal

pub slice_bounds-set_run-end : goal.slice_bounds-set_run-end
slice_bounds-set_run-end c = block_within c.args.day.now.runs c.requires.capacity c.loop-run.invariant c.loop-run-test.true

pub set_run-requires-clause-capacity : goal.set_run-requires-clause-capacity
set_run-requires-clause-capacity c = block_long c.args.day.now.runs c.requires.capacity c.loop-run.invariant c.loop-run-test.true

pub set_run-requires-clause-extensions : goal.set_run-requires-clause-extensions
set_run-requires-clause-extensions c = block_extensions c.args.day.now.runs c.requires.capacity c.loop-run.invariant c.loop-run-test.true greatest_u64 c.requires.extensions

pub loop-run-preserved : goal.loop-run-preserved
loop-run-preserved c =
    let day = c.args.day.now in
    let run = c.loop-run.run in
    let part = c.set_run.new.here in
    block_more day.runs c.requires.capacity c.loop-run.invariant c.loop-run-test.true part c.set_run.new.meter
    (λ q l. subst (λ (t : Shift). UnderCell day (t.0 + 1) run q (get_or part q 0)) c.after_shift-after.ensures.last (c.set_run.ensures.under q l))
    c.set_run.ensures.set

pub returns-clause-set : goal.returns-clause-set
returns-clause-set c = all_set c.args.day.now.runs c.requires.capacity c.loop-run.invariant (omega (arith, c.loop-run.auto.run-end, c.loop-run-test.false))
