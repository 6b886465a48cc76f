use Rattle.roster_text.proofs.SmallNumbers.{small_numbers}
use Rattle.roster_text.proofs.parsing.numbers_are_small.Goals as goal

pub returns : goal.returns
returns c = small_numbers
