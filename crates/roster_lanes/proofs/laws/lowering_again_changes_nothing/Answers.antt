use Rattle.std.proofs.Common.{◌∙◌, ◌≤◌, ap, arith, if◌then◌else◌, le-ltb, slice_index_or}
use Rattle.roster_lanes.specs.Lanes.{raised}
use Rattle.roster_lanes.proofs.laws.lowering_again_changes_nothing.Goals as goal

pub returns-clause-labels : goal.returns-clause-labels
returns-clause-labels c first end more others old new again once twice i from within =
    omega (arith, once i from within, twice i from within)

pub returns-clause-pointers : goal.returns-clause-pointers
returns-clause-pointers c first end more pointer others old new pointers again once twice i from within =
    let low : slice_index_or new i 0 ≤ raised others more i = omega (arith, once i from within) in
    twice i from within ∙ ap (λ b. if b then pointer else slice_index_or pointers i 0) (le-ltb (raised others more i) (slice_index_or new i 0) low)
