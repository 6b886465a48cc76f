use Rattle.std.proofs.Common.{◌≡◌, ◌∙◌, arith, length, subst, sym}
use Rattle.roster_bundle.specs.Limits.{greatest_u64}
use Rattle.roster_completion.specs.Lines.{UnderCell}
use Rattle.roster_completion.proofs.After.{off_under}
use Rattle.roster_completion.proofs.Blocks.{all_set, block_long, block_more, block_extensions, block_within}
use Rattle.roster_completion.proofs.off.set_after_off.Goals as goal

pub slice_bounds-set_off-end : goal.slice_bounds-set_off-end
slice_bounds-set_off-end c = block_within c.args.day.now.runs c.requires.capacity c.loop-run.invariant c.loop-run-test.true

pub set_off-requires-clause-extensions : goal.set_off-requires-clause-extensions
set_off-requires-clause-extensions c = block_extensions c.args.day.now.runs c.requires.capacity c.loop-run.invariant c.loop-run-test.true greatest_u64 c.requires.extensions

pub loop-run-preserved : goal.loop-run-preserved
loop-run-preserved c =
    let day = c.args.day.now in
    let run = c.loop-run.run in
    let part = c.set_off.new.here in
    let long : length part ≡ day.shift_runs = c.set_off.ensures.set.length ∙ block_long day.runs c.requires.capacity c.loop-run.invariant c.loop-run-test.true in
    block_more day.runs c.requires.capacity c.loop-run.invariant c.loop-run-test.true part c.set_off.new.meter
    (λ q l. subst (λ x. UnderCell day 0 run q x) (sym (c.set_off.ensures.all q (omega (arith, l, long)))) (off_under day c.after_off-after.result c.after_off-after.ensures.after run c.off_completion_bound-completion_bound.result c.off_completion_bound-completion_bound.ensures.completion_bound q))
    c.set_off.ensures.set

pub returns-clause-set : goal.returns-clause-set
returns-clause-set c = all_set c.args.day.now.runs c.requires.capacity c.loop-run.invariant (omega (arith, c.loop-run.auto.run-end, c.loop-run-test.false))
