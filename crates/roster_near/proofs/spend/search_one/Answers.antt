use Rattle.std.proofs.Common.{◌<◌, arith}
use Rattle.roster_instance.specs.Meaning.{nurse_count}
use Rattle.roster_near.proofs.Spent.{search_fits_meter, spent_one}
use Rattle.roster_near.proofs.spend.search_one.Goals as goal

pub window_bound-requires-clause-room : goal.window_bound-requires-clause-room
window_bound-requires-clause-room g c =
    let k = c.args.terms.now.base.now.case.now in
    let inside : c.args.nurse < nurse_count k = omega (arith, c.if-nurse-nurses.false, c.nurses.ensures.count) in
    search_fits_meter k c.args.nurse c.args.meter.now c.args.budget.now.left c.take.new.self.left inside c.take.ensures c.requires.room

pub returns-clause-spends : goal.returns-clause-spends
returns-clause-spends g c =
    let k = c.args.terms.now.base.now.case.now in
    let inside : c.args.nurse < nurse_count k = omega (arith, c.if-nurse-nurses.false, c.nurses.ensures.count) in
    spent_one k c.args.nurse c.args.meter.now c.args.budget.now.left c.take.new.self.left inside c.take.ensures c.window_bound.new.meter c.window_bound.ensures.counted
