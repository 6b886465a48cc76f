use Rattle.std.proofs.Common.{◌∙◌, sym}
use Rattle.roster_instance.proofs.WeekTableLemmas.{no_needs}
use Rattle.roster_instance.proofs.week.needs_of.Goals as goal

pub add_all-requires : goal.add_all-requires
add_all-requires c =
    c.in_ok-new.ensures ∙ sym (no_needs c.args.source.now c.args.scenario.now.shifts c.args.scenario.now.skills)
