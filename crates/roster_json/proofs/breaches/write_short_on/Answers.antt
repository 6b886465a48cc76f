use Rattle.std.proofs.Common.{◌≡◌, ℕ, List, arith, subst}
use Rattle.roster_text.specs.Io.{Stops, Writes}
use Rattle.roster_instance.specs.Faults.{below}
use Rattle.roster_instance.specs.Meaning.{Meaning, skill_count}
use Rattle.roster_instance.specs.Rosters.{Rows}
use Rattle.roster_rules.specs.HardRules.{staffing_fault}
use Rattle.roster_rules.specs.declared.fault.HardFault.{HardFault}
use Rattle.roster_json.specs.Breaches.{breach_line, breaches_text}
use Rattle.roster_json.proofs.BreachLines.{slot_by_table}
use Rattle.roster_json.proofs.Writing.{OnErr-always, below_more, below_stops}
use Rattle.roster_json.proofs.breaches.write_short_on.Goals as goal

-- the slots of a shift
abbrev of_shift : Meaning → Rows → (day shift : ℕ) → List HardFault
of_shift k r day shift = below (skill_count k) (staffing_fault k r day shift)

pub returns-in_err-write_if_short-clause-err : goal.returns-in_err-write_if_short-clause-err
returns-in_err-write_if_short-clause-err g c =
    let contents = g.W.Write.contents in
    let k = c.args.case.now in
    let r = c.args.roster.now in
    let new = c.write_if_short.new.out in
    let shift = c.loop-shift.shift in
    let table = slot_by_table k r c.args.day c.covers-covers.result c.covers-covers.ensures shift c.loop-skill.skill c.slot.result (omega arith) (omega arith) c.slot.ensures.slot in
    let here = subst (λ faults. Stops contents c.loop-skill.out new (breaches_text k faults)) table c.in_err-write_if_short.ensures.err in
    let in_shift = below_stops contents _ _ _ (breach_line k) (staffing_fault k r c.args.day shift) c.loop-skill.skill c.loop-skill.invariant c.skills-skill-end.result c.loop-skill-test.true here in
    let of_all = subst (λ n. Stops contents c.loop-shift.out new (breaches_text k (below n (staffing_fault k r c.args.day shift)))) c.skills-skill-end.ensures.count in_shift in
    OnErr-always c.from_residual.result _
    (subst (λ n. Stops contents c.args.out.now new (breaches_text k (below n (of_shift k r c.args.day)))) c.shifts-shift-end.ensures.count
    (below_stops contents _ _ _ (breach_line k) (of_shift k r c.args.day) shift c.loop-shift.invariant c.shifts-shift-end.result c.loop-shift-test.true of_all))

pub loop-skill-preserved : goal.loop-skill-preserved
loop-skill-preserved g c =
    let contents = g.W.Write.contents in
    let k = c.args.case.now in
    let r = c.args.roster.now in
    let table =
    slot_by_table k r c.args.day c.covers-covers.result c.covers-covers.ensures c.loop-shift.shift c.loop-skill.skill c.slot.result (omega arith) (omega arith) c.slot.ensures.slot in
    below_more contents _ _ _ (breach_line k) (staffing_fault k r c.args.day c.loop-shift.shift) c.loop-skill.skill c.loop-skill.invariant
    (subst (λ faults. Writes contents c.loop-skill.out c.write_if_short.new.out (breaches_text k faults)) table c.in_ok-write_if_short.ensures.ok)

pub loop-shift-preserved : goal.loop-shift-preserved
loop-shift-preserved g c =
    let contents = g.W.Write.contents in
    let k = c.args.case.now in
    let r = c.args.roster.now in
    let all : c.loop-skill.skill ≡ skill_count k = omega (arith, c.loop-skill-test.false, c.loop-skill.auto.skill-end, c.skills-skill-end.ensures.count) in
    below_more contents _ _ _ (breach_line k) (of_shift k r c.args.day) c.loop-shift.shift c.loop-shift.invariant
    (subst (λ n. Writes contents c.loop-shift.out c.loop-skill.out (breaches_text k (below n (staffing_fault k r c.args.day c.loop-shift.shift)))) all c.loop-skill.invariant)
