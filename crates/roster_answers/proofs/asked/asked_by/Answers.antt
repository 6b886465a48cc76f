use Rattle.std.proofs.Common.{◌∙◌, sym}
use Rattle.roster_answers.specs.Answer.{names_in}
use Rattle.roster_answers.proofs.AskedLemmas.{day_missing, shift_missing}
use Rattle.roster_answers.proofs.asked.asked_by.Goals as goal

pub returns-in_default-clause-unknown : goal.returns-in_default-clause-unknown
returns-in_default-clause-unknown c = day_missing c.args.case.now (names_in c.args.asking) (sym c.in_default.is ∙ c.find_day.ensures.found)

pub returns-in_default-find_shift-clause-unknown : goal.returns-in_default-find_shift-clause-unknown
returns-in_default-find_shift-clause-unknown c = shift_missing c.args.case.now (names_in c.args.asking) c.in-Some.day c.in-Some.ensures.found (sym c.in_default-find_shift.is ∙ c.find_shift.ensures)
