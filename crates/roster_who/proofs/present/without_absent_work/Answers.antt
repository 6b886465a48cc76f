use Rattle.std.proofs.Common.{◌≡◌, [], arith, map, subst, sym, true}
use Rattle.std.specs.List.{range_with_len}
use Rattle.std.proofs.lemmas.List.FromFn.{fill_by_all}
use Rattle.roster_instance.specs.Meaning.{day_count, nurse_count}
use Rattle.roster_instance.specs.Rosters.{Rows, fits_case}
use Rattle.roster_who.specs.Who.{here_choice}
use Rattle.roster_who.proofs.HereLemmas.{here_fits}
use Rattle.roster_who.proofs.present.without_absent_work.Goals as goal

pub returns-clause-present : goal.returns-clause-present
returns-clause-present c =
    let k = c.args.case.now in
    let r = c.args.roster.now in
    fill_by_all (λ n. map (here_choice k r n) (range_with_len 0 (day_count k))) c.loop-nurse.present (nurse_count k) [] c.loop-nurse.invariant.nurses
    (λ n h. c.loop-nurse.invariant.gathered n (omega (arith, h, c.loop-nurse-test.false, c.nurses-nurse-end.ensures.count)))

pub returns-clause-fits : goal.returns-clause-fits
returns-clause-fits c = subst (λ (rows : Rows). fits_case c.args.case.now rows ≡ true) (sym (returns-clause-present c)) (here_fits c.args.case.now c.args.roster.now c.requires.fits)
