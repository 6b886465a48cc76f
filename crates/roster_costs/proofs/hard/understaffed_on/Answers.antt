use Rattle.std.proofs.Common.{◌≡◌, ◌∙◌, ℕ, List, ap, arith, sym}
use Rattle.roster_instance.specs.Faults.{below, first_fault}
use Rattle.roster_instance.specs.Meaning.{skill_count}
use Rattle.roster_rules.specs.HardRules.{staffing_fault}
use Rattle.roster_rules.specs.declared.fault.HardFault.{HardFault}
use Rattle.roster_rules.proofs.HardLemmas.{below_first, below_more}
use Rattle.roster_costs.proofs.CoverLemmas.{fault_by_table}
use Rattle.roster_costs.proofs.hard.understaffed_on.Goals as goal

pub returns-in-Some : goal.returns-in-Some
returns-in-Some c =
    let table = fault_by_table c.args.case.now c.args.roster.now c.args.day c.covers-covers.result c.covers-covers.ensures c.loop-shift.shift c.loop-skill.skill c.slot.result (omega arith) (omega arith) c.slot.ensures.slot in
    below_first _ _ c.loop-shift.shift c.in-Some.fault (omega arith) c.loop-shift.invariant
    (below_first _ _ c.loop-skill.skill c.in-Some.fault (omega arith) c.loop-skill.invariant (c.in-Some.ensures ∙ ap (first_fault {F = HardFault}) table))

pub loop-skill-preserved : goal.loop-skill-preserved
loop-skill-preserved c =
    let table = fault_by_table c.args.case.now c.args.roster.now c.args.day c.covers-covers.result c.covers-covers.ensures c.loop-shift.shift c.loop-skill.skill c.slot.result (omega arith) (omega arith) c.slot.ensures.slot in
    below_more _ c.loop-skill.skill c.loop-skill.invariant (ap (first_fault {F = HardFault}) (sym table) ∙ sym c.understaffed.ensures ∙ c.in_default.is)

pub loop-shift-preserved : goal.loop-shift-preserved
loop-shift-preserved c =
    let all : c.loop-skill.skill ≡ skill_count c.args.case.now = omega arith in
    let of_shift : ℕ → List HardFault = λ k. staffing_fault c.args.case.now c.args.roster.now c.args.day c.loop-shift.shift k in
    below_more _ c.loop-shift.shift c.loop-shift.invariant (ap (first_fault {F = HardFault}) (ap (λ n. below n of_shift) (sym all) ∙ c.loop-skill.invariant))
