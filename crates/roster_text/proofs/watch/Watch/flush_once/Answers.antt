use Rattle.std.proofs.Common.{ap, rules, sym}
use Rattle.roster_text.proofs.watch.Watch.flush_once.Goals as goal

pub returns-clause-called : goal.returns-clause-called
returns-clause-called g c = record {
  shown = _;
  shows = search rules;
  left = _;
  met = c.flush-result.ensures;
  leaves = sym (ap (λ w. w.inner) c.count_flush.ensures);
}
