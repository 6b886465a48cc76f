use Rattle.std.proofs.Common.{◌≡◌, arith, subst}
use Rattle.roster_text.specs.Io.{Stops, Writes}
use Rattle.roster_instance.specs.Faults.{below}
use Rattle.roster_instance.specs.Meaning.{nurse_count}
use Rattle.roster_json.specs.Breaches.{breach_line, breaches_text, faults_of}
use Rattle.roster_json.proofs.Writing.{OnErr-always, below_more, below_stops}
use Rattle.roster_json.proofs.breaches.write_breaches_by.Goals as goal

pub returns-in_err-write_breaches_of-clause-err : goal.returns-in_err-write_breaches_of-clause-err
returns-in_err-write_breaches_of-clause-err g c =
    let contents = g.W.Write.contents in
    let k = c.args.case.now in
    let faults = faults_of k c.args.roster.now c.args.rule in
    OnErr-always c.from_residual.result _
    (subst (λ n. Stops contents c.args.out.now c.write_breaches_of.new.out (breaches_text k (below n faults))) c.nurses-nurse-end.ensures.count
    (below_stops contents _ _ _ (breach_line k) faults c.loop-nurse.nurse c.loop-nurse.invariant c.nurses-nurse-end.result c.loop-nurse-test.true c.in_err-write_breaches_of.ensures.err))

pub loop-nurse-preserved : goal.loop-nurse-preserved
loop-nurse-preserved g c =
    let k = c.args.case.now in
    below_more g.W.Write.contents _ _ _ (breach_line k) (faults_of k c.args.roster.now c.args.rule) c.loop-nurse.nurse c.loop-nurse.invariant c.in_ok-write_breaches_of.ensures.ok

pub returns-clause-ok : goal.returns-clause-ok
returns-clause-ok g c =
    let k = c.args.case.now in
    let all : c.loop-nurse.nurse ≡ nurse_count k = omega (arith, c.loop-nurse-test.false, c.loop-nurse.auto.nurse-end, c.nurses-nurse-end.ensures.count) in
    subst (λ n. Writes g.W.Write.contents c.args.out.now c.loop-nurse.out (breaches_text k (below n (faults_of k c.args.roster.now c.args.rule)))) all c.loop-nurse.invariant
