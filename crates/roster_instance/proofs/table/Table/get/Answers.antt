use Rattle.std.proofs.Common.{◌∙◌, List, None, Option, ap, arith, get_or}
use Rattle.roster_instance.proofs.table.Table.get.Goals as goal

pub returns-in-Some : goal.returns-in-Some
returns-in-Some g c = c.in-Some.ensures.lookup.4 (omega arith) None ∙ ap (λ (cells : List (Option g.row.V.Denot)). get_or cells c.args.index None) (c.deref.ensures.value ∙ c.self.view_is)

pub returns-in-None : goal.returns-in-None
returns-in-None g c = c.in-None.ensures.lookup.4 (omega arith) None ∙ ap (λ (cells : List (Option g.row.V.Denot)). get_or cells c.args.index None) (c.deref.ensures.value ∙ c.self.view_is)
