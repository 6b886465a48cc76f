use Rattle.roster_who.proofs.LawLemmas.{cost_is_penalty, nobody_absent, rows_are_allowed}
use Rattle.roster_who.proofs.laws.takers_have_allowed_rows.Goals as goal

pub returns : goal.returns
returns c = record {
  present = nobody_absent;
  rows = rows_are_allowed;
  cost = cost_is_penalty;
}
