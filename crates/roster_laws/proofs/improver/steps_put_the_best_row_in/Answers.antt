use Rattle.roster_laws.proofs.Steps.{left_out, put_in, step_is_least}
use Rattle.roster_laws.proofs.improver.steps_put_the_best_row_in.Goals as goal

pub returns-clause-cheaper : goal.returns-clause-cheaper
returns-clause-cheaper c = put_in

pub returns-clause-as_dear : goal.returns-clause-as_dear
returns-clause-as_dear c = left_out

pub returns-clause-least : goal.returns-clause-least
returns-clause-least c = step_is_least
