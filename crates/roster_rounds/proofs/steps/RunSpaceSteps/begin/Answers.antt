use Rattle.std.proofs.lemmas.Bool.{and_parts}
use Rattle.roster_offers.specs.Workspaces.{fits_space}
use Rattle.roster_row.specs.Recalled.{fits_last}
use Rattle.roster_row.proofs.RecallLaws.{forgotten}
use Rattle.roster_rounds.proofs.Counts.{fits_still}
use Rattle.roster_rounds.proofs.steps.RunSpaceSteps.begin.Goals as goal

pub returns-clause-ready : goal.returns-clause-ready
returns-clause-ready g c = λ m fits.
    let old = c.args.self.now in
    let parts = and_parts (fits_space m old.workspace) (fits_last m old.last) fits in
    let recalls = forgotten m old.last c.forget.new.self parts.1 c.forget.ensures.prices c.forget.ensures.costs in
    (fits_still m (record old { last = c.forget.new.self }) parts.0 recalls, recalls)
