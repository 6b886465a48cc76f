use Rattle.roster_text.proofs.ReadBack.{is_read_back}
use Rattle.roster_text.proofs.laws.written_is_read.Goals as goal

pub returns : goal.returns
returns c = is_read_back
