use Rattle.std.proofs.Common.{◌∙◌, sym}
use Rattle.roster_instance.specs.Choices.{days_of}
use Rattle.roster_rules.proofs.KeptLemmas.{free_days_at_no_points}
use Rattle.roster_costs.proofs.requests.keep_cost.Goals as goal

pub returns-then-keep-eq0-clause-cost : goal.returns-then-keep-eq0-clause-cost
returns-then-keep-eq0-clause-cost c = sym (free_days_at_no_points c.args.case.now c.args.nurse (days_of c.args.row.now) (sym c.keep-keep.ensures.points ∙ c.if-keep-eq0.true))
