use Rattle.roster_instance.specs.Choices.{all_choices}
use Rattle.roster_instance.specs.Meaning.{day_count}
use Rattle.roster_laws.proofs.AllRows.{count-all_rows, member_is_row, row_is_member}
use Rattle.roster_laws.proofs.InOrder.{rows_in_order}
use Rattle.roster_laws.proofs.rows.all_rows_are_the_rows_of_the_case.Goals as goal

pub returns-clause-members : goal.returns-clause-members
returns-clause-members c = λ m row. (member_is_row m row, row_is_member m row)

pub returns-clause-once : goal.returns-clause-once
returns-clause-once c = count-all_rows

pub returns-clause-order : goal.returns-clause-order
returns-clause-order c = λ m. rows_in_order (all_choices m) (day_count m)
