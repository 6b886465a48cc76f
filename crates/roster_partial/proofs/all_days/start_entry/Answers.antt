use Rattle.std.proofs.Common.{arith, refl}
use Rattle.roster_state.specs.Codes.{sizes_of}
use Rattle.roster_state.proofs.CodeLemmas.{fits-all}
use Rattle.roster_partial.proofs.DaysLaws.{best_at_start}
use Rattle.roster_partial.proofs.all_days.start_entry.Goals as goal

pub returns-clause-best : goal.returns-clause-best
returns-clause-best c = best_at_start c.args.limited.now _ c.start-state.ensures.state refl

pub returns-clause-last : goal.returns-clause-last
returns-clause-last c =
    let search = c.args.limited.now.completion_bounds.search in
    omega (arith, (fits-all (sizes_of search.case.now search.nurse) _ c.start-state.ensures.fits).last, c.keeps_limits.ensures.shifts)
