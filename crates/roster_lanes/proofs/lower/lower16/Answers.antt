use Rattle.std.proofs.Common.{rules}
use Rattle.roster_lanes.proofs.LaneLemmas.{array_whole, bits_at, bits_fit, least, least_at, length-least}
use Rattle.roster_lanes.proofs.lower.lower16.Goals as goal

pub overflow_cast-result : goal.overflow_cast-result
overflow_cast-result c =
    let p = array_whole c.args.others.now (search rules) in
    let q = array_whole c.args.labels.now (search rules) in
    rw (p, q) record { fits = bits_fit _ (least c.args.labels.now c.args.others.now) c.args.labels.now (length-least c.args.labels.now c.args.others.now (search rules) (search rules)) (search rules) }

pub returns-clause-labels : goal.returns-clause-labels
returns-clause-labels c i lt =
    let p = array_whole c.args.others.now (search rules) in
    let q = array_whole c.args.labels.now (search rules) in
    rw (p, q) (least_at c.args.labels.now c.args.others.now i (search rules) (search rules) lt)

pub returns-clause-bits : goal.returns-clause-bits
returns-clause-bits c i lt =
    let p = array_whole c.args.others.now (search rules) in
    let q = array_whole c.args.labels.now (search rules) in
    rw (p, q) (bits_at c.args.labels.now c.args.others.now i (search rules) (search rules) lt)
