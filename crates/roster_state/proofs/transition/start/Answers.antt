use Rattle.std.proofs.Common.{◌≡◌, ◌<◌, [], IfSome, subst, sym, true}
use Rattle.roster_instance.specs.declared.choice.Shift.{Shift}
use Rattle.roster_instance.specs.declared.rules.Past.{Past}
use Rattle.roster_instance.specs.Meaning.{last_shift, shift_count}
use Rattle.roster_rules.specs.Prefix.{Summary}
use Rattle.roster_state.specs.Codes.{fits_sizes, sizes_of}
use Rattle.roster_state.specs.Reachable.{can_be}
use Rattle.roster_state.proofs.RangeLemmas.{summary_fits}
use Rattle.roster_state.proofs.Reachable.{start_can_be}
use Rattle.roster_state.proofs.transition.start.Goals as goal

pub returns-clause-fits : goal.returns-clause-fits
returns-clause-fits c =
    let given = subst (λ (past : Past). IfSome (last_shift past.border) (λ (s : Shift). s.0 < shift_count c.args.case.now)) c.past-past.ensures.past c.past-past.ensures.known in
    subst (λ (s : Summary). fits_sizes (sizes_of c.args.case.now c.args.nurse) s ≡ true) (sym c.start_state.ensures) (summary_fits c.args.case.now c.args.nurse [] given)

pub returns-clause-can_be : goal.returns-clause-can_be
returns-clause-can_be c = subst (λ (s : Summary). can_be c.args.case.now c.args.nurse s ≡ true) (sym c.start_state.ensures) (start_can_be c.args.case.now c.args.nurse)
