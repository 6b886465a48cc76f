use Rattle.roster_text.proofs.FirstFaults.{one_fault}
use Rattle.roster_text.proofs.parsing.one_first_fault.Goals as goal

pub returns : goal.returns
returns c = one_fault
