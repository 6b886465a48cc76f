use Rattle.std.proofs.Common.{◌≡◌, arith, subst}
use Rattle.roster_text.specs.Io.{Stops, Writes}
use Rattle.roster_instance.specs.Faults.{below}
use Rattle.roster_instance.specs.Meaning.{day_count}
use Rattle.roster_json.specs.Breaches.{breach_line, breaches_text, fault_on}
use Rattle.roster_json.proofs.Writing.{OnErr-always, below_more, below_stops}
use Rattle.roster_json.proofs.breaches.write_breaches_of.Goals as goal

pub returns-in_err-write_if_broken-clause-err : goal.returns-in_err-write_if_broken-clause-err
returns-in_err-write_if_broken-clause-err g c =
    let contents = g.W.Write.contents in
    let k = c.args.case.now in
    let faults = fault_on k c.args.roster.now c.args.rule c.args.nurse in
    OnErr-always c.from_residual.result _
    (subst (λ n. Stops contents c.args.out.now c.write_if_broken.new.out (breaches_text k (below n faults))) c.days-day-end.ensures.count
    (below_stops contents _ _ _ (breach_line k) faults c.loop-day.day c.loop-day.invariant c.days-day-end.result c.loop-day-test.true c.in_err-write_if_broken.ensures.err))

pub loop-day-preserved : goal.loop-day-preserved
loop-day-preserved g c =
    let k = c.args.case.now in
    below_more g.W.Write.contents _ _ _ (breach_line k) (fault_on k c.args.roster.now c.args.rule c.args.nurse) c.loop-day.day c.loop-day.invariant c.in_ok-write_if_broken.ensures.ok

pub returns-clause-ok : goal.returns-clause-ok
returns-clause-ok g c =
    let k = c.args.case.now in
    let all : c.loop-day.day ≡ day_count k = omega (arith, c.loop-day-test.false, c.loop-day.auto.day-end, c.days-day-end.ensures.count) in
    subst (λ n. Writes g.W.Write.contents c.args.out.now c.loop-day.out (breaches_text k (below n (fault_on k c.args.roster.now c.args.rule c.args.nurse)))) all c.loop-day.invariant
