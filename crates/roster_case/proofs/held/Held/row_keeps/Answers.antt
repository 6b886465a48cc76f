use Rattle.std.proofs.Common.{◌≡◌, ◌∙◌, ◌<◌, ◌&&◌, ap, arith, sym, true}
use Rattle.roster_instance.specs.Meaning.{day_count, nurse_count}
use Rattle.roster_instance.specs.Rosters.{is_row_of, with_row}
use Rattle.roster_instance.proofs.RosterFacts.{has_row}
use Rattle.roster_rules.specs.AllowedRows.{row_keeps}
use Rattle.roster_rules.specs.HardRules.{keeps_hard}
use Rattle.roster_case.specs.Held.{HeldRoster}
use Rattle.roster_laws.specs.OneRow.{is_open_row}
use Rattle.roster_laws.proofs.Keeps.{keeps_hard-with_row}
use Rattle.roster_case.proofs.held.Held.row_keeps.Goals as goal

pub returns-then-row_fits : goal.returns-then-row_fits
returns-then-row_fits c =
    let case = c.self.inside.case in
    let roster = c.self.inside.roster in
    let nurse = c.args.nurse in
    let row = c.args.row.now in
    let inside : nurse < nurse_count case = omega (arith, c.requires, ap (λ (h : HeldRoster). nurse_count h.case) c.self.view_is) in
    let kept = keeps_hard-with_row case roster c.self.invariant.keeps nurse (has_row case roster nurse c.self.invariant.fits inside) inside row in
    let fits : is_row_of case row ≡ true = sym c.row_fits.ensures ∙ c.if-row_fits.true in
    c.is_open_row.ensures
    ∙ sym (ap (λ (h : HeldRoster). is_open_row h.case h.roster nurse row (day_count h.case)) c.self.view_is)
    ∙ sym kept
    ∙ sym (ap (λ b. b && keeps_hard case (with_row roster nurse row)) fits)
    ∙ ap (λ (h : HeldRoster). row_keeps h.case h.roster nurse row) c.self.view_is
