use Rattle.std.proofs.Common.{arith}
use Rattle.std.proofs.lemmas.Grind.{common_steps}
use Rattle.roster_text.proofs.TokenRules.{line_rules}
use Rattle.roster_text.proofs.token.next_start.Goals as goal
use Rattle.roster_text.proofs.token.next_start.Goals.{then-text-at-eq10, else-text-at-eq10}

pub loop-at-preserved : goal.loop-at-preserved
loop-at-preserved c =
    elim c.if-text-at-eq10.branch [
      | then-text-at-eq10 w ↦ record {
        in_text = omega arith;
        on_line = grind (arith, line_rules);
        same_position = grind (arith, common_steps);
      }
      | else-text-at-eq10 w ↦ record {
        in_text = omega arith;
        on_line = grind (arith, line_rules);
        same_position = grind (arith, common_steps);
      }
    ]
