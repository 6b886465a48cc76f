use Rattle.roster_laws.proofs.Keeps.{allowed-with_row, keeps_hard-with_row}
use Rattle.roster_laws.proofs.OneRow.{cover-with_row, penalty-with_row}
use Rattle.roster_laws.proofs.replaced.one_row_replaced.Goals as goal

pub returns-clause-cover : goal.returns-clause-cover
returns-clause-cover c = cover-with_row

pub returns-clause-penalty : goal.returns-clause-penalty
returns-clause-penalty c m r n within inside row days = penalty-with_row r n within row m inside days

pub returns-clause-keeps : goal.returns-clause-keeps
returns-clause-keeps c = keeps_hard-with_row

pub returns-clause-allowed : goal.returns-clause-allowed
returns-clause-allowed c = allowed-with_row
