use Rattle.std.proofs.Common.{subst}
use Rattle.std.specs.Prelude.{OnErr, OnOk}
use Rattle.roster_text.specs.Io.{Stops, Writes}
use Rattle.roster_json.proofs.ReportLines.{costs_are}
use Rattle.roster_json.proofs.cost.write_costs.Goals as goal

pub returns-clause-ok : goal.returns-clause-ok
returns-clause-ok g c =
    let made = c.write_object in
    subst (λ text. OnOk made.result (Writes g.W.Write.contents c.args.out.now made.new.out text)) (costs_are c.args.allowed c.args.costs c.total.result c.total.ensures c.requires) made.ensures.ok

pub returns-clause-err : goal.returns-clause-err
returns-clause-err g c =
    let made = c.write_object in
    subst (λ text. OnErr made.result (Stops g.W.Write.contents c.args.out.now made.new.out text)) (costs_are c.args.allowed c.args.costs c.total.result c.total.ensures c.requires) made.ensures.err
