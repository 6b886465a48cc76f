use Rattle.std.proofs.Common.{◌∙◌, ◌<◌}
use Rattle.std.proofs.lemmas.List.Sorted.{All-permutation}
use Rattle.roster_polish.proofs.fade.shuffle.Goals as goal

pub loop-position-preserved : goal.loop-position-preserved
loop-position-preserved c =
    let l = c.loop-position in
    record { count = c.swap.ensures.len ∙ l.invariant.count; each = λ end all. All-permutation (λ n. n < end) l.order c.swap.new.self c.swap.ensures.permutation (l.invariant.each end all) }
