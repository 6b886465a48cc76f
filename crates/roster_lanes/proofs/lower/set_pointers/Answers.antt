use Rattle.std.proofs.Common.{refl, rules}
use Rattle.roster_lanes.proofs.LaneLemmas.{array_whole, casts_fit, chosen_at}
use Rattle.roster_lanes.proofs.lower.set_pointers.Goals as goal

pub overflow_cast-pointers : goal.overflow_cast-pointers
overflow_cast-pointers c =
    let p = array_whole c.args.labels.now c.requires.labels in
    let q = array_whole c.args.old.now (search rules) in
    rw (p, q) (casts_fit _ (λ x. x) _ c.args.labels.now c.args.old.now c.requires.labels (search rules) (search rules) (search rules))

pub returns : goal.returns
returns c i lt =
    let p = array_whole c.args.labels.now c.requires.labels in
    let q = array_whole c.args.old.now (search rules) in
    let r = array_whole c.args.pointers.now c.requires.pointers in
    rw (p, q, r) (chosen_at _ _ refl refl c.args.labels.now c.args.old.now c.args.pointers.now c.args.pointer i c.requires.labels (search rules) c.requires.pointers lt)
