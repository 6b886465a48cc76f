use Rattle.std.proofs.Common.{◌≡◌, ◌∙◌, ap, ap₂, arith, not, sym, true}
use Rattle.roster_rules.specs.HardRules.{is_able}
use Rattle.roster_instance.specs.Meaning.{nurse_at}
use Rattle.roster_instance.specs.Rosters.{choice_on, row_of}
use Rattle.roster_rules.specs.declared.fault.HardFault.TheVariants.{H4}
use Rattle.roster_rules.proofs.HardLemmas.{below_first, first_where}
use Rattle.roster_costs.proofs.hard.unskilled_of.Goals as goal

pub returns-then-not-is_able : goal.returns-then-not-is_able
returns-then-not-is_able c =
    let nurse = c.args.nurse in
    let day = c.loop-day.day in
    let unable : not (is_able (nurse_at c.args.case.now nurse).skills (choice_on (row_of c.args.roster.now nurse) day)) ≡ true =
    ap not (sym (ap₂ (λ own row. is_able own (choice_on row day)) c.skills_of-skills.ensures.skills c.row-row.ensures) ∙ sym c.is_able.ensures ∙ c.if-not-is_able.true) in
    below_first _ _ day (H4 nurse day) (omega arith) c.loop-day.invariant (first_where _ (H4 nurse day) unable)
