use Rattle.std.proofs.Common.{◌∙◌, ap, arith, length}
use Rattle.roster_instance.specs.Meaning.{day_count, nurse_count}
use Rattle.roster_instance.specs.Rosters.{Row}
use Rattle.roster_instance.proofs.RosterFacts.{row-length}
use Rattle.roster_case.specs.Held.{HeldRoster}
use Rattle.roster_case.proofs.held.Held.row.Goals as goal

pub returns-clause-days : goal.returns-clause-days
returns-clause-days c inside =
    ap (λ (row : Row). length row) c.row.ensures
    ∙ row-length c.self.inside.case c.self.inside.roster c.args.nurse c.self.invariant.fits (omega (arith, inside, ap (λ (h : HeldRoster). nurse_count h.case) c.self.view_is))
    ∙ ap (λ (h : HeldRoster). day_count h.case) c.self.view_is
