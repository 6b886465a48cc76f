use Rattle.std.proofs.Common.{◌++◌, subst, sym}
use Rattle.std.specs.Prelude.{OnErr, OnOk}
use Rattle.roster_text.specs.Io.{Stops, Writes}
use Rattle.roster_text.proofs.Texts.{Stops-append, Writes-append}
use Rattle.roster_instance.specs.Meaning.{Meaning}
use Rattle.roster_instance.specs.Rosters.{Rows}
use Rattle.roster_reports.specs.Lines.{Text}
use Rattle.roster_rules.specs.HardRules.{absence_faults, skill_faults, staffing_faults, succession_faults}
use Rattle.roster_json.specs.Breaches.{breaches_text}
use Rattle.roster_json.proofs.BreachLines.{all_lines}
use Rattle.roster_json.proofs.Writing.{OnErr-always, inner_stops, last_err, last_ok}
use Rattle.roster_json.proofs.breaches.write_breaches.Goals as goal

-- the lines of each rule
abbrev slots : Meaning → Rows → Text
slots k r = breaches_text k (staffing_faults k r)

abbrev successions : Meaning → Rows → Text
successions k r = breaches_text k (succession_faults k r)

abbrev skills : Meaning → Rows → Text
skills k r = breaches_text k (skill_faults k r)

abbrev absences : Meaning → Rows → Text
absences k r = breaches_text k (absence_faults k r)

pub returns-in_err-write_short_slots-clause-err : goal.returns-in_err-write_short_slots-clause-err
returns-in_err-write_short_slots-clause-err g c =
    let contents = g.W.Write.contents in
    let k = c.args.case.now in
    let r = c.args.roster.now in
    OnErr-always c.from_residual.result _
    (subst (Stops contents c.args.out.now c.write_short_slots.new.out) (sym (all_lines k r))
    (Stops-append contents _ _ (slots k r ++ successions k r ++ skills k r) (absences k r)
    (Stops-append contents _ _ (slots k r ++ successions k r) (skills k r) (Stops-append contents _ _ (slots k r) (successions k r) c.in_err-write_short_slots.ensures.err))))

pub returns-in_err-write_breaches_by-clause-err : goal.returns-in_err-write_breaches_by-clause-err
returns-in_err-write_breaches_by-clause-err g c =
    let contents = g.W.Write.contents in
    let k = c.args.case.now in
    let r = c.args.roster.now in
    OnErr-always c.from_residual-in_err-write_breaches_by.result _
    (subst (Stops contents c.args.out.now c.write_breaches_by.new.out) (sym (all_lines k r))
    (Stops-append contents _ _ (slots k r ++ successions k r ++ skills k r) (absences k r)
    (inner_stops contents _ _ _ (slots k r) c.in_ok-write_short_slots.ensures.ok (successions k r) (skills k r) c.in_err-write_breaches_by.ensures.err)))

pub returns-in_err-write_breaches_by-2-clause-err : goal.returns-in_err-write_breaches_by-2-clause-err
returns-in_err-write_breaches_by-2-clause-err g c =
    let contents = g.W.Write.contents in
    let k = c.args.case.now in
    let r = c.args.roster.now in
    let two = Writes-append contents c.args.out.now c.write_short_slots.new.out c.write_breaches_by.new.out (slots k r) (successions k r) c.in_ok-write_short_slots.ensures.ok c.in_ok-write_breaches_by.ensures.ok in
    OnErr-always c.from_residual-in_err-write_breaches_by-2.result _
    (subst (Stops contents c.args.out.now c.write_breaches_by-2.new.out) (sym (all_lines k r))
    (inner_stops contents _ _ _ (slots k r ++ successions k r) two (skills k r) (absences k r) c.in_err-write_breaches_by-2.ensures.err))

pub returns-clause-ok : goal.returns-clause-ok
returns-clause-ok g c =
    let contents = g.W.Write.contents in
    let k = c.args.case.now in
    let r = c.args.roster.now in
    let two = Writes-append contents c.args.out.now c.write_short_slots.new.out c.write_breaches_by.new.out (slots k r) (successions k r) c.in_ok-write_short_slots.ensures.ok c.in_ok-write_breaches_by.ensures.ok in
    let three = Writes-append contents c.args.out.now c.write_breaches_by.new.out c.write_breaches_by-2.new.out (slots k r ++ successions k r) (skills k r) two c.in_ok-write_breaches_by-2.ensures.ok in
    subst (λ text. OnOk c.write_breaches_by-3.result (Writes contents c.args.out.now c.write_breaches_by-3.new.out text)) (sym (all_lines k r))
    (last_ok contents _ _ _ (slots k r ++ successions k r ++ skills k r) three c.write_breaches_by-3.result (absences k r) c.write_breaches_by-3.ensures.ok)

pub returns-clause-err : goal.returns-clause-err
returns-clause-err g c =
    let contents = g.W.Write.contents in
    let k = c.args.case.now in
    let r = c.args.roster.now in
    let two = Writes-append contents c.args.out.now c.write_short_slots.new.out c.write_breaches_by.new.out (slots k r) (successions k r) c.in_ok-write_short_slots.ensures.ok c.in_ok-write_breaches_by.ensures.ok in
    let three = Writes-append contents c.args.out.now c.write_breaches_by.new.out c.write_breaches_by-2.new.out (slots k r ++ successions k r) (skills k r) two c.in_ok-write_breaches_by-2.ensures.ok in
    subst (λ text. OnErr c.write_breaches_by-3.result (Stops contents c.args.out.now c.write_breaches_by-3.new.out text)) (sym (all_lines k r))
    (last_err contents _ _ _ (slots k r ++ successions k r ++ skills k r) three c.write_breaches_by-3.result (absences k r) c.write_breaches_by-3.ensures.err)
