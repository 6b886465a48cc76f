use Rattle.roster_state.specs.Transition.{next_of}
use Rattle.roster_state.proofs.state_box.box_with.Goals as goal

pub returns-clause-leads : goal.returns-clause-leads
returns-clause-leads c s last inside allowed =
    c.joined.ensures.other (next_of c.args.case.now c.args.nurse c.args.day s c.args.shift) (c.box_after.ensures s last inside)
