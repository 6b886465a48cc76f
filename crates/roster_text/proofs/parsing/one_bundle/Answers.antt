use Rattle.roster_text.proofs.FirstFaults.{one_spelled}
use Rattle.roster_text.proofs.parsing.one_bundle.Goals as goal

pub returns : goal.returns
returns c = one_spelled
