use Rattle.std.proofs.Common.{arith, if◌then◌else◌}
use Rattle.std.proofs.lemmas.List.FromFn.{fill_by_all}
use Rattle.roster_instance.specs.declared.choice.Choice.TheVariants.{Off}
use Rattle.roster_instance.specs.Meaning.{day_count, is_absent}
use Rattle.roster_instance.specs.Rosters.{choice_on}
use Rattle.roster_who.proofs.present.put_here.Goals as goal

pub returns : goal.returns
returns c =
    let k = c.args.case.now in
    fill_by_all (λ d. if is_absent k c.args.nurse d then Off else choice_on c.args.given.now d) c.loop-day.row (day_count k) Off c.loop-day.invariant.long
    (λ d h. c.loop-day.invariant.gathered d (omega (arith, h, c.loop-day-test.false, c.days-day-end.ensures.count)))
