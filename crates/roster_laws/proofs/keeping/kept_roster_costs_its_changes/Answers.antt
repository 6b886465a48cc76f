use Rattle.std.proofs.Common.{arith, refl}
use Rattle.roster_rules.proofs.KeptLemmas.{free_at_no_points}
use Rattle.roster_laws.proofs.KeptRoster.{eight_are_all, kept_hard, kept_penalty}
use Rattle.roster_laws.proofs.keeping.kept_roster_costs_its_changes.Goals as goal

pub returns-clause-changes : goal.returns-clause-changes
returns-clause-changes c = kept_penalty

pub returns-clause-hard : goal.returns-clause-hard
returns-clause-hard c = kept_hard

pub returns-clause-none : goal.returns-clause-none
returns-clause-none c = λ case rows. refl

pub returns-clause-penalty : goal.returns-clause-penalty
returns-clause-penalty c = eight_are_all

pub returns-clause-price : goal.returns-clause-price
returns-clause-price c = λ case none n d shift. omega (arith, free_at_no_points case n d shift none)
