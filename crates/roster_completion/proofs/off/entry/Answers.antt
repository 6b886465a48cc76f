use Rattle.std.proofs.Common.{◌≡◌, ◌+◌, ◌*◌, ◌∙◌, ap, arith, min}
use Rattle.roster_instance.specs.Sizes.{cap}
use Rattle.roster_completion.specs.Lines.{begun_index, next_at}
use Rattle.roster_completion.proofs.Indices.{begun_moved, work_within}
use Rattle.roster_completion.proofs.off.entry.Goals as goal

pub returns : goal.returns
returns c =
    let day = c.args.day.now in
    let once : c.min.result ≡ min 1 (cap day.rules.working) = omega (arith, c.min.ensures, c.cap.ensures) in
    let at : c.way_to-way.result.index + c.min.result * day.shift_runs ≡ begun_index day c.args.shift (min 1 (cap day.rules.working)) =
    ap (λ m. c.way_to-way.result.index + m * day.shift_runs) once ∙ begun_moved day c.args.shift c.requires.shift c.way_to-way.result.index (min 1 (cap day.rules.working)) c.way_to-way.ensures.way.index in
    omega (arith, ap (next_at day) at, c.way_to-way.ensures.way.price, c.goes_on.ensures.cost)

pub bounds-day-way : goal.bounds-day-way
bounds-day-way c = c.way_to-way.ensures.«open».index c.min.result (omega (arith, c.min.ensures, c.cap.ensures, work_within c.args.day.now))
