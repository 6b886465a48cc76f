use Rattle.std.proofs.Common.{◌∙◌, ◌<◌, arith}
use Rattle.std.proofs.lemmas.List.Elements.{All-set}
use Rattle.std.proofs.lemmas.List.{length-set}
use Rattle.roster_polish.proofs.space.put_in_order.Goals as goal

pub loop-position-preserved : goal.loop-position-preserved
loop-position-preserved c =
    let l = c.loop-position in
    record {
      count = length-set l.order l.position l.position ∙ l.invariant.count;
      each = λ end few all. All-set (λ n. n < end) l.order l.position l.position (omega (arith, few, c.loop-position-test.true)) (l.invariant.each end few all);
    }
