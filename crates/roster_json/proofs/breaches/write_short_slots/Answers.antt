use Rattle.std.proofs.Common.{◌≡◌, ℕ, List, arith, subst}
use Rattle.roster_text.specs.Io.{Stops, Writes}
use Rattle.roster_instance.specs.Faults.{below}
use Rattle.roster_instance.specs.Meaning.{day_count, shift_count, skill_count}
use Rattle.roster_rules.specs.HardRules.{staffing_fault}
use Rattle.roster_rules.specs.declared.fault.HardFault.{HardFault}
use Rattle.roster_json.specs.Breaches.{breach_line, breaches_text}
use Rattle.roster_json.proofs.Writing.{OnErr-always, below_more, below_stops}
use Rattle.roster_json.proofs.breaches.write_short_slots.Goals as goal
use Rattle.roster_instance.specs.Meaning.{Meaning}
use Rattle.roster_instance.specs.Rosters.{Rows}

-- the slots of a day
abbrev of_day : Meaning → Rows → ℕ → List HardFault
of_day k r d = below (shift_count k) (λ s. below (skill_count k) (λ j. staffing_fault k r d s j))

pub returns-in_err-write_short_on-clause-err : goal.returns-in_err-write_short_on-clause-err
returns-in_err-write_short_on-clause-err g c =
    let contents = g.W.Write.contents in
    let k = c.args.case.now in
    let faults = of_day k c.args.roster.now in
    OnErr-always c.from_residual.result _
    (subst (λ n. Stops contents c.args.out.now c.write_short_on.new.out (breaches_text k (below n faults))) c.days-day-end.ensures.count
    (below_stops contents _ _ _ (breach_line k) faults c.loop-day.day c.loop-day.invariant c.days-day-end.result c.loop-day-test.true c.in_err-write_short_on.ensures.err))

pub loop-day-preserved : goal.loop-day-preserved
loop-day-preserved g c =
    below_more g.W.Write.contents _ _ _ (breach_line c.args.case.now) (of_day c.args.case.now c.args.roster.now) c.loop-day.day c.loop-day.invariant c.in_ok-write_short_on.ensures.ok

pub returns-clause-ok : goal.returns-clause-ok
returns-clause-ok g c =
    let k = c.args.case.now in
    let all : c.loop-day.day ≡ day_count k = omega (arith, c.loop-day-test.false, c.loop-day.auto.day-end, c.days-day-end.ensures.count) in
    subst (λ n. Writes g.W.Write.contents c.args.out.now c.loop-day.out (breaches_text k (below n (of_day k c.args.roster.now)))) all c.loop-day.invariant
