use Rattle.std.proofs.Common.{ap₂, subst}
use Rattle.std.specs.Prelude.{OnErr, OnOk}
use Rattle.roster_text.specs.Io.{Stops, Writes}
use Rattle.roster_text.proofs.Texts.{Stops-append}
use Rattle.roster_rules.specs.HardRules.{hard_faults, keeps_hard}
use Rattle.roster_rules.specs.Penalties.{costs_of}
use Rattle.roster_json.specs.Breaches.{breaches_text}
use Rattle.roster_json.specs.Reports.{costs_line, json_cost}
use Rattle.roster_json.proofs.Writing.{OnErr-always, last_err, last_ok}
use Rattle.roster_json.proofs.cost.write_json_cost.Goals as goal

pub returns-in_err-write_breaches-clause-err : goal.returns-in_err-write_breaches-clause-err
unfolding json_cost
returns-in_err-write_breaches-clause-err g c =
    let k = c.args.case.now in
    let r = c.args.roster.now in
    OnErr-always c.from_residual.result _
    (Stops-append g.W.Write.contents _ _ (breaches_text k (hard_faults k r)) (costs_line (keeps_hard k r) (costs_of k r)) c.in_err-write_breaches.ensures.err)

pub returns-clause-ok : goal.returns-clause-ok
unfolding json_cost
returns-clause-ok g c =
    let contents = g.W.Write.contents in
    let k = c.args.case.now in
    let r = c.args.roster.now in
    let made = c.write_costs in
    last_ok contents _ _ _ (breaches_text k (hard_faults k r)) c.in_ok-write_breaches.ensures.ok made.result (costs_line (keeps_hard k r) (costs_of k r))
    (subst (λ text. OnOk made.result (Writes contents c.write_breaches.new.out made.new.out text)) (ap₂ costs_line c.is_allowed.ensures c.costs.ensures.costs) made.ensures.ok)

pub returns-clause-err : goal.returns-clause-err
unfolding json_cost
returns-clause-err g c =
    let contents = g.W.Write.contents in
    let k = c.args.case.now in
    let r = c.args.roster.now in
    let made = c.write_costs in
    last_err contents _ _ _ (breaches_text k (hard_faults k r)) c.in_ok-write_breaches.ensures.ok made.result (costs_line (keeps_hard k r) (costs_of k r))
    (subst (λ text. OnErr made.result (Stops contents c.write_breaches.new.out made.new.out text)) (ap₂ costs_line c.is_allowed.ensures c.costs.ensures.costs) made.ensures.err)
