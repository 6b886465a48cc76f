use Rattle.std.proofs.Common.{◌∙◌, ◌<◌, ap, arith, sym}
use Rattle.roster_instance.specs.Choices.{days_of, shift_of}
use Rattle.roster_instance.specs.Meaning.{Meaning, day_count, last_shift, past_of}
use Rattle.roster_rules.proofs.CountLemmas.{shift_of_day}
use Rattle.roster_rules.proofs.HardLemmas.{shift_before_more}
use Rattle.roster_case.proofs.AllowedLemmas.{row_day}
use Rattle.roster_rules.proofs.AllBelow.{all_fails, all_more}
use Rattle.roster_case.proofs.allowed.is_open_row.Goals as goal

pub returns-then-not-may_follow : goal.returns-then-not-may_follow
returns-then-not-may_follow c =
    let test = row_day c.args.held.now.case c.args.held.now.roster c.args.nurse c.args.row.now c.loop-day.day c.loop-day.last c.choice_on-choice.result c.choice_on-choice.ensures c.loop-day.invariant.before c.may_follow.result c.may_follow.ensures in
    let inside : c.loop-day.day < day_count c.args.held.now.case = omega (arith, ap (λ (m : Meaning). day_count m) c.case-case.ensures) in
    sym (all_fails (day_count c.args.held.now.case) _ c.loop-day.day inside (sym test ∙ c.if-not-may_follow.true))

pub loop-day-preserved : goal.loop-day-preserved
loop-day-preserved c =
    let test = row_day c.args.held.now.case c.args.held.now.roster c.args.nurse c.args.row.now c.loop-day.day c.loop-day.last c.choice_on-choice.result c.choice_on-choice.ensures c.loop-day.invariant.before c.may_follow.result c.may_follow.ensures in
    record {
      before = shift_of_day c.args.row.now c.loop-day.day c.shift-last.result (c.shift-last.ensures ∙ ap shift_of c.choice_on-choice.ensures)
          ∙ sym (shift_before_more (last_shift (past_of c.args.held.now.case c.args.nurse).border) (days_of c.args.row.now) c.loop-day.day);
      so_far = all_more _ c.loop-day.day c.loop-day.invariant.so_far (sym test ∙ c.if-not-may_follow.false);
    }
