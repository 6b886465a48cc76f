use Rattle.std.proofs.Common.{ℕ, arith, get_or, subst, sym}
use Rattle.roster_bundle.specs.Limits.{greatest_u64}
use Rattle.roster_completion.specs.Lines.{UnderCell}
use Rattle.roster_completion.proofs.DayLaws.{day_under}
use Rattle.roster_completion.proofs.Blocks.{all_set, block_long, block_more, block_extensions, block_within}
use Rattle.roster_completion.proofs.day.set_day.Goals as goal

pub slice_bounds-set_after-end : goal.slice_bounds-set_after-end
slice_bounds-set_after-end c = block_within c.args.day.now.lasts c.requires.capacity c.loop-digit.invariant c.loop-digit-test.true

pub set_after-requires-clause-capacity : goal.set_after-requires-clause-capacity
set_after-requires-clause-capacity c = block_long c.args.day.now.lasts c.requires.capacity c.loop-digit.invariant c.loop-digit-test.true

pub set_after-requires-clause-extensions : goal.set_after-requires-clause-extensions
set_after-requires-clause-extensions c = block_extensions c.args.day.now.lasts c.requires.capacity c.loop-digit.invariant c.loop-digit-test.true greatest_u64 c.requires.extensions

pub loop-digit-preserved : goal.loop-digit-preserved
loop-digit-preserved c =
    let part = c.set_after.new.here in
    block_more c.args.day.now.lasts c.requires.capacity c.loop-digit.invariant c.loop-digit-test.true part c.set_after.new.meter
    (λ p below r q l m e. subst (λ (i : ℕ). UnderCell c.args.day.now c.loop-digit.digit r q (get_or part i 0)) (sym e) (c.set_after.ensures.under r q l m))
    c.set_after.ensures.set

pub returns-clause-under : goal.returns-clause-under
returns-clause-under c = day_under c.args.day.now c.loop-digit.here c.loop-digit.digit (omega (arith, c.loop-digit-test.false)) c.loop-digit.invariant.each

pub returns-clause-set : goal.returns-clause-set
returns-clause-set c = all_set c.args.day.now.lasts c.requires.capacity c.loop-digit.invariant (omega (arith, c.loop-digit.auto.digit-end, c.loop-digit-test.false))
