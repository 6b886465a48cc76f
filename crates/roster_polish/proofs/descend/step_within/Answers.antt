use Rattle.std.proofs.Common.{◌∙◌, ◌-◌, ap, nat_lt}
use Rattle.roster_instance.specs.Counting.{one_if}
use Rattle.roster_polish.proofs.Steps.{search_fits_meter, spent_if}
use Rattle.roster_polish.proofs.descend.step_within.Goals as goal

pub step_or_skip-step-requires-clause-room : goal.step_or_skip-step-requires-clause-room
step_or_skip-step-requires-clause-room g c = search_fits_meter c.args.held.now.case c.args.stepper.nurse c.args.meter.now c.args.searches.now.left c.requires.nurse c.requires.left 18446744073709551615 c.requires.room

pub returns-clause-spends : goal.returns-clause-spends
returns-clause-spends g c =
    let k = c.args.held.now.case in
    let after = c.step_or_skip-step.new.meter in
    let before = c.count-before.result in
    let left = c.args.searches.now.left in
    spent_if k c.args.stepper.nurse c.args.meter.now left c.requires.nurse c.requires.left before after c.take_if.new.self.left c.count-before.ensures
    (c.take_if.ensures.left ∙ ap (λ m. left - one_if (nat_lt before m)) c.count.ensures) c.step_or_skip-step.ensures.counted
