use Rattle.std.proofs.Common.{◌∙◌, ap, arith}
use Rattle.roster_rules.specs.Penalties.{penalty}
use Rattle.roster_rules.proofs.Bounds.{penalty-within, staffing_cost-within}
use Rattle.roster_case.specs.Held.{HeldRoster}
use Rattle.roster_case.proofs.HeldLemmas.{total_is}
use Rattle.roster_case.proofs.held.Held.total.Goals as goal

pub total-requires-clause-nurses : goal.total-requires-clause-nurses
total-requires-clause-nurses c = omega (arith, c.self.invariant.counted.nurses, c.keeps_limits.ensures.nurses)

pub total-requires-clause-staffing : goal.total-requires-clause-staffing
total-requires-clause-staffing c =
    let limits = c.keeps_limits.ensures in
    omega (arith, c.self.invariant.counted.staffing, staffing_cost-within c.self.inside.case c.self.inside.roster limits.small limits.shifts limits.skills (omega (arith, limits.weeks)))

pub returns-clause-total : goal.returns-clause-total
returns-clause-total c = c.total.ensures ∙ total_is _ _ _ c.self.invariant.counted ∙ ap (λ (h : HeldRoster). penalty h.case h.roster) c.self.view_is

pub returns-clause-within : goal.returns-clause-within
unfolding penalty
returns-clause-within c =
    let limits = c.keeps_limits.ensures in
    omega (arith, c.total.ensures, total_is _ _ _ c.self.invariant.counted, penalty-within c.self.inside.case c.self.inside.roster limits.small limits.shifts limits.skills limits.weeks limits.nurses c.self.invariant.fits)
