use Rattle.std.proofs.lemmas.Bool.{and_parts}
use Rattle.roster_offers.specs.Workspaces.{fits_space}
use Rattle.roster_row.specs.Recalled.{fits_last}
use Rattle.roster_rounds.proofs.Counts.{fits_still}
use Rattle.roster_rounds.proofs.steps.RunSpaceSteps.step.Goals as goal

pub step_or_skip-requires-clause-fits : goal.step_or_skip-requires-clause-fits
step_or_skip-requires-clause-fits g c =
    let space = c.args.self.now in
    (and_parts (fits_space c.args.held.now.case space.workspace) (fits_last c.args.held.now.case space.last) c.requires.ready.0).0

pub returns-clause-ready : goal.returns-clause-ready
returns-clause-ready g c =
    let recalls = c.step_or_skip.ensures.recalls in
    (fits_still c.args.held.now.case (record c.args.self.now { workspace = c.step_or_skip.new.workspace; last = c.step_or_skip.new.last }) c.step_or_skip.ensures.fits recalls, recalls)
