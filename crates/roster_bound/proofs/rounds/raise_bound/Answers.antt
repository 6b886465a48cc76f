use Rattle.std.proofs.Common.{sym}
use Rattle.std.proofs.lemmas.Result.{IfOk-weaker}
use Rattle.roster_bound.specs.BoundRuns.{RaisesBound}
use Rattle.roster_bound.specs.Branchings.{EndsBranching}
use Rattle.roster_bound.specs.declared.effort.Raised.{Raised}
use Rattle.roster_bound.proofs.BranchingLaws.{raises-end}
use Rattle.roster_timer.specs.Deadlines.{time_of}
use Rattle.roster_bound.proofs.rounds.raise_bound.Goals as goal

pub returns-clause-ok : goal.returns-clause-ok
returns-clause-ok g c =
    let by = c.raise_below in
    let b = c.of-base.result in
    let deadline = by.new.deadline in
    let space = by.new.space in
    rw (sym c.of-base.ensures.case, sym c.of-base.ensures.given, sym c.of-base.ensures.from)
    (IfOk-weaker by.result (EndsBranching g.W.Write.contents b.case.now b.from b.given.now deadline space c.args.meter.now by.new.meter c.args.log.now by.new.log)
    (λ (raised : Raised). RaisesBound g.W.Write.contents b.case.now b.from b.given.now raised.effort c.args.meter.now by.new.meter c.args.log.now by.new.log raised.bound)
    (λ raised p. raises-end g.W.Write.contents b.case.now b.from b.given.now deadline space c.args.meter.now by.new.meter c.args.log.now by.new.log raised p) by.ensures.branched)
