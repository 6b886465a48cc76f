use Rattle.std.proofs.Common.{◌∙◌, ap₂, arith, sym}
use Rattle.roster_instance.specs.Meaning.{last_shift, past_of, forbids}
use Rattle.roster_instance.specs.Rosters.{days_of_nurse}
use Rattle.roster_rules.specs.declared.fault.HardFault.TheVariants.{H3}
use Rattle.roster_rules.proofs.HardLemmas.{below_first, below_more, first_where, none_where, shift_before_more, shift_on_row}
use Rattle.roster_costs.proofs.hard.succession_of.Goals as goal

pub returns-then-forbids_next : goal.returns-then-forbids_next
returns-then-forbids_next c =
    let nurse = c.args.nurse in
    let day = c.loop-day.day in
    let today = shift_on_row c.args.roster.now nurse day c.row-row.result.now c.shift-shift.result c.row-row.ensures c.shift-shift.ensures in
    let test = sym (ap₂ (forbids c.args.case.now.successions) c.loop-day.invariant.before today) ∙ sym c.forbids_next.ensures ∙ c.if-forbids_next.true in
    below_first _ _ day (H3 nurse day) (omega arith) c.loop-day.invariant.none (first_where _ (H3 nurse day) test)

pub loop-day-preserved : goal.loop-day-preserved
loop-day-preserved c =
    let nurse = c.args.nurse in
    let day = c.loop-day.day in
    let today = shift_on_row c.args.roster.now nurse day c.row-row.result.now c.shift-shift.result c.row-row.ensures c.shift-shift.ensures in
    let test = sym (ap₂ (forbids c.args.case.now.successions) c.loop-day.invariant.before today) ∙ sym c.forbids_next.ensures ∙ c.if-forbids_next.false in
    record {
      none = below_more _ day c.loop-day.invariant.none (none_where _ (H3 nurse day) test);
      before = today ∙ sym (shift_before_more (last_shift (past_of c.args.case.now nurse).border) (days_of_nurse c.args.roster.now nurse) day);
    }
