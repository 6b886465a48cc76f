use Rattle.roster_instance.proofs.CaseLemmas.{few_states_with}
use Rattle.roster_instance.proofs.SmallLemmas.{small_with}
use Rattle.roster_instance.proofs.case.Case.keeping.Goals as goal

pub invariant_of-case : goal.invariant_of-case
invariant_of-case c =
    let i = c.case.inside in
    let was = c.case.invariant in
    record {
      all_weeks = was.all_weeks;
      few_states = few_states_with i.scenario i.past i.weeks.items i.base c.in-Ok.base i.keep c.args.keep was.few_states;
      small = small_with _ c.in-Ok.base c.args.keep c.requires was.small;
      known_past = was.known_past;
    }
