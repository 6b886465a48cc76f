use Rattle.std.proofs.Common.{◌∙◌, ap, arith}
use Rattle.roster_case.specs.Held.{HeldRoster}
use Rattle.roster_laws.specs.OneRow.{rest_of}
use Rattle.roster_case.proofs.HeldLemmas.{rest_is}
use Rattle.roster_case.proofs.held.Held.rest.Goals as goal

pub rest-requires : goal.rest-requires
rest-requires c = omega (arith, c.self.invariant.counted.nurses, c.keeps_limits.ensures.nurses)

pub returns : goal.returns
returns c = c.rest.ensures.cost ∙ rest_is _ _ _ c.self.invariant.counted c.args.nurse ∙ ap (λ (h : HeldRoster). rest_of h.case h.roster c.args.nurse) c.self.view_is
