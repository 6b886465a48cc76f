use Rattle.roster_laws.proofs.SameRows.{same_rows_is, same_rows_of}
use Rattle.roster_laws.proofs.improver.same_rows_are_equal.Goals as goal

pub returns : goal.returns
returns c = λ a b. (same_rows_is a b, same_rows_of a b)
