use Rattle.std.proofs.Common.{◌≡◌, ◌+◌, ◌*◌, ◌<◌, arith}
use Rattle.roster_completion.specs.CompletionBounds.{completion_index}
use Rattle.roster_completion.proofs.Indices.{index_inside, index_small}
use Rattle.roster_completion.proofs.least.index.Goals as goal

-- the computed number is the index
is_index : (c : goal.After-shift_run-2) → ((c.args.day * c.last.result + c.last_number.result) * c.run.result + c.run-2.result) * c.shift_run.result + c.shift_run-2.result ≡ completion_index c.args.completion_bounds.now.ranges c.args.day c.args.state.now
is_index c = λ i. ((c.args.day * c.last.ensures.last i + c.last_number.ensures.number i) * c.run.ensures.run i + c.run-2.ensures i) * c.shift_run.ensures.shift_run i + c.shift_run-2.ensures i

-- without its last digit it is no more
before_digit : (c : goal.After-shift_run) → ((c.args.day * c.last.result + c.last_number.result) * c.run.result + c.run-2.result) * c.shift_run.result + c.args.state.now.shift_run ≡ completion_index c.args.completion_bounds.now.ranges c.args.day c.args.state.now
before_digit c = λ i. ((c.args.day * c.last.ensures.last i + c.last_number.ensures.number i) * c.run.ensures.run i + c.run-2.ensures i) * c.shift_run.ensures.shift_run i + c.args.state.now.shift_run

is_small : (c : goal.After-shift_run) → completion_index c.args.completion_bounds.now.ranges c.args.day c.args.state.now < 589824000000
is_small c = index_small c.args.completion_bounds.now.ranges c.args.state.now c.requires.fits c.args.day c.ranges.day.fits (omega (arith, c.last.ensures)) (omega (arith, c.run.ensures)) (omega (arith, c.shift_run.ensures))

pub overflow_mul-result : goal.overflow_mul-result
overflow_mul-result c = omega (arith, before_digit c, is_small c)

pub overflow_add-result : goal.overflow_add-result
overflow_add-result c = omega (arith, is_index c, index_small c.args.completion_bounds.now.ranges c.args.state.now c.requires.fits c.args.day c.ranges.day.fits (omega (arith, c.last.ensures)) (omega (arith, c.run.ensures)) (omega (arith, c.shift_run.ensures)))

pub returns-clause-inside : goal.returns-clause-inside
returns-clause-inside c = omega (arith, is_index c, index_inside c.args.completion_bounds.now.ranges c.args.state.now c.requires.fits c.args.day _ c.requires.inside)
