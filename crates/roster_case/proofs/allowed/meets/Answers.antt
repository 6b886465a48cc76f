use Rattle.std.proofs.Common.{◌≡◌, ◌∙◌, ◌<◌, ap, arith, not, nat_lt, sym}
use Rattle.roster_instance.specs.Counting.{all_below}
use Rattle.roster_instance.specs.Meaning.{Meaning, minimum, shift_count, skill_count}
use Rattle.roster_laws.specs.OneRow.{others}
use Rattle.roster_laws.specs.Staffing.{with_choice}
use Rattle.roster_rules.proofs.AllBelow.{all_fails, all_more}
use Rattle.roster_case.proofs.allowed.meets.Goals as goal

pub returns-then-not-meets_at : goal.returns-then-not-meets_at
returns-then-not-meets_at c =
    let case = c.args.held.now.case in
    let shift_in : c.loop-shift.shift < shift_count case = omega (arith, ap (λ (m : Meaning). shift_count m) c.case-case.ensures) in
    let skill_in : c.loop-skill.skill < skill_count case = omega (arith, ap (λ (m : Meaning). skill_count m) c.case-case.ensures) in
    sym (all_fails (shift_count case) _ c.loop-shift.shift shift_in (all_fails (skill_count case) _ c.loop-skill.skill skill_in (sym c.meets_at.ensures ∙ c.if-not-meets_at.true)))

pub loop-shift-preserved : goal.loop-shift-preserved
loop-shift-preserved c =
    let case = c.args.held.now.case in
    let all : c.loop-skill.skill ≡ skill_count case = omega (arith, ap (λ (m : Meaning). skill_count m) c.case-case.ensures) in
    all_more _ c.loop-shift.shift c.loop-shift.invariant
    (ap (λ m. all_below m (λ k. not (nat_lt (with_choice (others c.args.held.now.roster c.args.nurse c.args.day) c.args.choice c.loop-shift.shift k) (minimum case c.args.day c.loop-shift.shift k)))) (sym all) ∙ c.loop-skill.invariant)
