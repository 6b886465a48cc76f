use Rattle.std.proofs.Common.{ap, refl, rules, sym}
use Rattle.roster_text.proofs.watch.Watch.read_once.Goals as goal

pub returns-clause-called : goal.returns-clause-called
returns-clause-called g c = record {
  device = _;
  buffer = _;
  device_left = _;
  buffer_left = _;
  met = c.read-result.ensures;
  shows = (search rules, refl);
  leaves = (sym (ap (λ w. w.inner) c.count_failure.ensures), refl);
}
