use Rattle.std.proofs.Common.{◌≡◌, ◌∙◌, ap, length, map, subst, sym}
use Rattle.roster_instance.specs.Meaning.{Meaning}
use Rattle.roster_instance.specs.Rosters.{Row, Rows}
use Rattle.roster_case.specs.Held.{HeldRoster}
use Rattle.roster_row.proofs.RecallLaws.{forgets}
use Rattle.roster_polish.specs.Polished.{FitsPolish}
use Rattle.roster_polish.proofs.Keeping.{same_days}
use Rattle.roster_polish.proofs.Memory.{fits_with}
use Rattle.roster_polish.proofs.again.try_again.Goals as goal

pub put_rows-requires : goal.put_rows-requires
put_rows-requires g c =
    ap (λ (rows : Rows). map (λ (row : Row). length row) rows) c.roster.ensures.roster
    ∙ same_days c.args.held.now.case c.args.held.now.roster c.args.space.now.best c.keeps_rules.ensures.fits c.requires.able.fits.best

pub keep-requires : goal.keep-requires
keep-requires g c =
    let k = c.args.held.now.case in
    let made = c.fade_and_search.ensures.goes_on in
    let space = c.fade_and_search.new.space in
    let case : c.replace_rows.new.self.case ≡ k = ap (λ (h : HeldRoster). h.case) c.replace_rows.ensures ∙ made.case in
    let last = c.forget.new.self in
    let recalls = forgets k 1 space.last last made.fits.recalls.nurses made.fits.recalls.days c.forget.ensures.prices c.forget.ensures.costs in
    subst (λ (m : Meaning). FitsPolish m (record space { last = last })) (sym case) (fits_with k space made.fits space.bounds last space.best made.fits.bounds recalls made.fits.best)
