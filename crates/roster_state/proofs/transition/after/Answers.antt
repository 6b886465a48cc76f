use Rattle.std.proofs.Common.{◌≡◌, subst, sym, true}
use Rattle.roster_rules.specs.Prefix.{Summary}
use Rattle.roster_state.specs.Codes.{fits_sizes, sizes_of}
use Rattle.roster_state.proofs.RangeLemmas.{next_fits}
use Rattle.roster_state.proofs.SumLaw.{transition_leads}
use Rattle.roster_state.proofs.transition.after.Goals as goal

pub returns-clause-summary : goal.returns-clause-summary
returns-clause-summary c days long is = transition_leads c.args.case.now c.args.nurse c.args.state days is c.args.day c.args.shift _ long c.next_of.ensures

pub returns-clause-next_fits : goal.returns-clause-next_fits
returns-clause-next_fits c =
    subst (λ (s : Summary). fits_sizes (sizes_of c.args.case.now c.args.nurse) s ≡ true) (sym c.next_of.ensures) (next_fits c.args.case.now c.args.nurse c.args.day c.args.state c.args.shift c.requires.shift)
