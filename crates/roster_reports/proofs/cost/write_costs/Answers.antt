use Rattle.std.proofs.Common.{subst}
use Rattle.std.specs.Prelude.{IfErr, OnOk}
use Rattle.roster_text.specs.Io.{StopsIn, Writes}
use Rattle.roster_reports.proofs.PieceLemmas.{cost_pieces-are}
use Rattle.roster_reports.proofs.cost.write_costs.Goals as goal

pub returns-clause-ok : goal.returns-clause-ok
returns-clause-ok g c =
    let out = c.write_pieces in
    subst (λ text. OnOk out.result (Writes g.W.Write.contents c.args.output.now out.new.out text)) (cost_pieces-are c.args.costs c.total.result c.total.ensures c.requires) out.ensures.ok

pub returns-clause-err : goal.returns-clause-err
returns-clause-err g c =
    let out = c.write_pieces in
    subst (λ text. IfErr out.result (StopsIn g.W.Write.contents c.args.output.now out.new.out text)) (cost_pieces-are c.args.costs c.total.result c.total.ensures c.requires) out.ensures.err
