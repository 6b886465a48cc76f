use Rattle.std.proofs.Common.{◌∙◌}
use Rattle.roster_offers.proofs.WorkspaceLaws.{same_after}
use Rattle.roster_rounds.proofs.rounds.improve.Goals as goal

pub returns-clause-same_capacity : goal.returns-clause-same_capacity
returns-clause-same_capacity g c = same_after _ _ _ c.begin.ensures.same_capacity c.make_rounds.ensures.same_capacity

pub returns-clause-same_last : goal.returns-clause-same_last
returns-clause-same_last g c = c.make_rounds.ensures.same_last ∙ c.begin.ensures.same_last

pub returns-clause-fits : goal.returns-clause-fits
returns-clause-fits g c = g.met.S.Steps.ready_fits c.args.held.now.case c.make_rounds.new.steps c.make_rounds.ensures.ready
