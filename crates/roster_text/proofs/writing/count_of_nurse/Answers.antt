use Rattle.std.proofs.Common.{◌≡◌, ◌+◌, if◌then◌else◌, is_some, rules, arith}
use Rattle.std.proofs.lemmas.Bool.Decides.{nat_tests}
use Rattle.roster_bundle.specs.Canonical.{nurse_assignments}
use Rattle.roster_text.proofs.Lines.{count-weekday_more}
use Rattle.roster_text.proofs.writing.count_of_nurse.Goals as goal
use Rattle.roster_text.proofs.writing.count_of_nurse.Goals.{then-is_some, else-is_some}

pub loop-weekday-preserved : goal.loop-weekday-preserved
loop-weekday-preserved g c =
    let step : c.if-is_some.count ≡ c.loop-weekday.count + (if is_some c.on.result then 1 else 0) = elim c.if-is_some.branch [ then-is_some w ↦ grind (arith, nat_tests) | else-is_some w ↦ grind (arith, nat_tests) ] in
    record {
      counted = count-weekday_more (g.S.SolutionView.shown c.args.view.now) c.args.nurse c.loop-weekday.weekday _ _ _ c.on.result c.on.ensures c.loop-weekday.invariant.counted step;
      at_most_daily = elim c.if-is_some.branch [ then-is_some w ↦ omega arith | else-is_some w ↦ omega arith ];
    }

pub returns-clause-count : goal.returns-clause-count
unfolding nurse_assignments
returns-clause-count g c = search rules
