use Rattle.std.proofs.Common.{◌≡◌, ◌∙◌, ap, arith, not, sym, true}
use Rattle.roster_rules.specs.HardRules.{is_here}
use Rattle.roster_instance.specs.Rosters.{choice_on, row_of}
use Rattle.roster_rules.specs.declared.fault.HardFault.TheVariants.{Absent}
use Rattle.roster_rules.proofs.HardLemmas.{below_first, first_where}
use Rattle.roster_costs.proofs.hard.absent_of.Goals as goal

pub returns-then-not-is_here : goal.returns-then-not-is_here
returns-then-not-is_here c =
    let nurse = c.args.nurse in
    let day = c.loop-day.day in
    let away : not (is_here c.args.case.now nurse day (choice_on (row_of c.args.roster.now nurse) day)) ≡ true =
    ap not (sym (ap (λ row. is_here c.args.case.now nurse day (choice_on row day)) c.row-row.ensures) ∙ sym c.is_here.ensures ∙ c.if-not-is_here.true) in
    below_first _ _ day (Absent nurse day) (omega arith) c.loop-day.invariant (first_where _ (Absent nurse day) away)
