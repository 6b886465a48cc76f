use Rattle.std.proofs.Common.{◌≡◌, arith, length, refl, rules}
use Rattle.roster_tables.proofs.DayLaws.{box_is}
use Rattle.roster_tables.proofs.labels.box_of.Goals as goal

pub returns : goal.returns
returns c =
    let long : length c.args.boxes.now ≡ 9 = search rules in
    box_is c.args.boxes.now c.args.boxes.now c.args.last _ refl (omega (arith, c.requires, long))
