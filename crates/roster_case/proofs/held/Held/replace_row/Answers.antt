use Rattle.std.proofs.Common.{◌≡◌, ◌∙◌, ap, subst, sym, true}
use Rattle.std.proofs.lemmas.Bool.{and_parts}
use Rattle.roster_instance.specs.Rosters.{is_row_of, with_row}
use Rattle.roster_rules.specs.AllowedRows.{row_keeps}
use Rattle.roster_rules.specs.HardRules.{keeps_hard}
use Rattle.roster_rules.proofs.RowFits.{fits-with_row}
use Rattle.roster_case.specs.Held.{HeldRoster, IsHeld}
use Rattle.roster_case.proofs.held.Held.replace_row.Goals as goal

pub invariant_of-self : goal.invariant_of-self
invariant_of-self c =
    let case = c.self.inside.case in
    let roster = c.self.inside.roster in
    let row = c.args.row.now in
    let keeps : row_keeps case roster c.args.nurse row ≡ true = ap (λ (h : HeldRoster). row_keeps h.case h.roster c.args.nurse row) c.self.view_is ∙ c.requires.keeps in
    let parts = and_parts (is_row_of case row) (keeps_hard case (with_row roster c.args.nurse row)) keeps in
    subst (λ new. IsHeld case new c.replace_row.new.self) (sym c.put_row.ensures) (record {
      fits = fits-with_row case roster c.args.nurse row c.self.invariant.fits parts.0;
      keeps = parts.1;
      counted = record {
        days = c.replace_row.ensures.days;
        counted = c.replace_row.ensures.counted;
        nurses = c.replace_row.ensures.nurses;
        costs = c.replace_row.ensures.costs;
        staffing = c.replace_row.ensures.staffing;
      };
    })
