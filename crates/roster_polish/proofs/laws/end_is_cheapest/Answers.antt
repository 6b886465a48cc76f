use Rattle.roster_polish.proofs.Cheapest.{end_above}
use Rattle.roster_polish.proofs.laws.end_is_cheapest.Goals as goal

pub returns : goal.returns
returns c case from start kicks given last alone settled text run = end_above case from start kicks given last alone settled text run
