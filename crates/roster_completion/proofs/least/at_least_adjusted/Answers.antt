use Rattle.std.proofs.Common.{◌∙◌, slice_index_or, ◌+◌, ◌*◌, ap, arith}
use Rattle.std.proofs.lemmas.Nat.{mul-le}
use Rattle.roster_instance.specs.Meaning.{day_count}
use Rattle.roster_state.specs.Codes.{Sizes, sizes_of}
use Rattle.roster_completion.specs.CompletionBounds.{completion_count, completion_index}
use Rattle.roster_completion.proofs.LeastLaw.{least_is_low}
use Rattle.roster_completion.proofs.least.at_least_adjusted.Goals as goal

pub returns : goal.returns
returns c =
    let completion_bounds = c.args.completion_bounds.now in
    let s = c.args.state.now in
    let at = ap (λ z. slice_index_or completion_bounds.cells.now z 0) (c.index.ensures.index ∙ ap (λ z. completion_index z c.args.day s) completion_bounds.own_ranges) in
    record {
      least = least_is_low completion_bounds c.args.day s c.requires.day c.requires.fits c.args.adjustment.now c.requires.adjustment c.saturating_sub.result (omega (arith, at, c.saturating_sub.ensures, c.saturating_add.ensures));
    }

pub index-requires-clause-inside : goal.index-requires-clause-inside
index-requires-clause-inside c =
    let completion_bounds = c.args.completion_bounds.now in
    let count = completion_count (sizes_of completion_bounds.search.case.now completion_bounds.search.nurse) in
    let days = mul-le (c.args.day + 1) count (day_count completion_bounds.search.case.now + 1) count (omega (arith, c.requires.day)) (omega arith) in
    omega (arith, days, ap (λ (z : Sizes). (c.args.day + 1) * completion_count z) completion_bounds.own_ranges, completion_bounds.inside)
