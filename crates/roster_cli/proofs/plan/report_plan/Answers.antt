use Rattle.std.proofs.Common.{◌≡◌, ◌∙◌, ◌*◌, ◌≤◌, ◌⊎◌, [], ℕ, Bool, None, Option, ap, arith, false, inl, inr, refl, subst, sym, true}
use Rattle.std.specs.Prelude.{IfErr, OnOk, min}
use Rattle.std.proofs.lemmas.Result.{err_from_is_err_and}
use Rattle.roster_text.specs.Io.{Writes}
use Rattle.roster_case.specs.Held.{HeldRoster}
use Rattle.roster_case.specs.Shown.{weeks_text}
use Rattle.roster_rules.specs.HardRules.{hard_faults}
use Rattle.roster_rules.proofs.HardLemmas.{none_of-none}
use Rattle.roster_rules.specs.declared.fault.HardFault.{HardFault}
use Rattle.roster_instance.specs.Faults.{first_fault, is_none_of}
use Rattle.roster_instance.specs.Meaning.{Meaning, day_count}
use Rattle.roster_instance.specs.Rosters.{Rows}
use Rattle.roster_costs.specs.Irreparable.{irreparable}
use Rattle.roster_costs.specs.Minimums.{missing}
use Rattle.roster_timer.specs.Deadlines.{is_up, time_of}
use Rattle.roster_polish.specs.Plans.{IsPlanned}
use Rattle.roster_polish.specs.Polished.{PolishLogStops, Polishes, most_searches}
use Rattle.roster_polish.specs.declared.run.Course.{Course}
use Rattle.roster_answers.specs.Answer.{Output, StopsOutput}
use Rattle.roster_answers.specs.declared.fault.Fault.TheVariants as fault
use Rattle.roster_polish.specs.Shown.{SawOnlyReported}
use Rattle.roster_cli.specs.Saving.{Shows}
use Rattle.roster_cli.proofs.PlanLemmas.{plan_ends, plan_refused, plan_roomless, plan_stops, plan_unfound, unfound_after, written_after}
use Rattle.roster_cli.proofs.plan.report_plan.Given as given
use Rattle.roster_cli.proofs.plan.report_plan.Goals as goal
use Rattle.roster_cli.proofs.plan.report_plan.Goals.{After-find_roster-rest, After-polish_found}

pub returns-in-Some-clause-reports : goal.returns-in-Some-clause-reports
returns-in-Some-clause-reports g c =
    let output : Output g.row.Out.Denot = record { contents = g.Out.Write.contents; before = c.args.output.now; after = c.args.output.now } in
    let log : Output g.row.Log.Denot = record { contents = g.Log.Write.contents; before = c.args.log.now; after = c.args.log.now } in
    plan_refused c.args.course.now.searches c.args.course.now.from c.args.course.now.kicks_alone c.args.instance.case c.args.instance.roster output log (fault.Hard c.in-Some.fault c.into_case.result) (sym c.in-Some.ensures, c.into_case.ensures) refl refl

-- nothing in the frozen weeks is beyond repair
repairable : (c : Meaning) (from : ℕ) (r : Rows) (found : Option HardFault) → found ≡ first_fault (irreparable c from r) → found ≡ None → irreparable c from r ≡ []
repairable c from r found is none = none_of-none (irreparable c from r) (sym is ∙ none)

pub returns-in_default-for_roster-clause-reports : goal.returns-in_default-for_roster-clause-reports
returns-in_default-for_roster-clause-reports g c =
    let output : Output g.row.Out.Denot = record { contents = g.Out.Write.contents; before = c.args.output.now; after = c.args.output.now } in
    let log : Output g.row.Log.Denot = record { contents = g.Log.Write.contents; before = c.args.log.now; after = c.args.log.now } in
    plan_roomless c.args.course.now.searches c.args.course.now.from c.args.course.now.kicks_alone c.args.instance.case c.args.instance.roster output log
    (repairable c.args.instance.case c.args.course.now.from c.args.instance.roster c.first_irreparable.result c.first_irreparable.ensures c.in_default.is) refl refl

pub find_roster-rest-requires-clause-repairable : goal.find_roster-rest-requires-clause-repairable
find_roster-rest-requires-clause-repairable g c =
    rw (ap (λ (x : Course g.row.K.Denot). x.from) c.within_capacity-all.ensures) (repairable c.args.instance.case c.args.course.now.from c.args.instance.roster c.first_irreparable.result c.first_irreparable.ensures c.in_default.is)

-- ---- the roster that was found

repaired : (g : given.Over) (c : After-find_roster-rest g) → irreparable c.args.instance.case c.args.course.now.from c.args.instance.roster ≡ []
repaired g c = repairable c.args.instance.case c.args.course.now.from c.args.instance.roster c.first_irreparable.result c.first_irreparable.ensures c.in_default.is

planned : (g : given.Over) (c : After-find_roster-rest g) → IsPlanned c.args.instance.case c.args.course.now.from c.args.instance.roster c.find_roster-rest.new.roster
planned g c =
    let given = c.args.instance.roster in
    let nearest = c.find_roster-rest.new.roster in
    subst (λ (x : Course g.row.K.Denot). IsPlanned c.args.instance.case x.from given nearest) c.within_capacity-all.ensures c.find_roster-rest.ensures.planned

few : (g : given.Over) (c : After-find_roster-rest g) → c.find_roster-rest.result.searches ≤ c.args.course.now.searches
few g c = omega (arith, c.find_roster-rest.ensures.spends.fewer, ap (λ (x : Course g.row.K.Denot). x.searches) c.within_capacity-all.ensures)

-- if it breaks a hard rule, all searches were made, or the time is up
searched : (g : given.Over) (c : After-find_roster-rest g) → is_none_of (hard_faults c.args.instance.case c.find_roster-rest.new.roster) ≡ false
    → (min c.args.course.now.searches most_searches * day_count c.args.instance.case ≤ c.find_roster-rest.new.meter) ⊎ (is_up (time_of c.find_roster-rest.result.deadline) ≡ true)
searched g c breaks =
    let k = c.args.instance.case in
    let asked = ap (λ (x : Course g.row.K.Denot). x.searches * day_count k) c.within_capacity-all.ensures in
    elim (c.find_roster-rest.ensures.given_up breaks) [
      | inl none ↦ inl (omega (arith, c.requires, c.find_roster-rest.ensures.made, ap (λ n. n * day_count k) none, asked))
      | inr up ↦ inr up
    ]

pub returns-in_err-held-clause-made : goal.returns-in_err-held-clause-made
returns-in_err-held-clause-made g c =
    let at = goal.at.returns-in_err-held-clause-made g c in
    let p = err_from_is_err_and c.from_residual.result c.from_residual.ensures.1 in
    rw (p.1, p.2) (unfound_after (is_up (time_of c.find_roster-rest.result.deadline) ≡ true) c.args.instance.case c.args.course.now.searches c.find_roster-rest.new.meter (hard_faults c.args.instance.case c.find_roster-rest.new.roster) c.in_err-held.field-0.0 c.in_err-held.ensures.unfound (searched g at.After-find_roster-rest))

pub returns-in_err-held-clause-reports : goal.returns-in_err-held-clause-reports
returns-in_err-held-clause-reports g c =
    let output : Output g.row.Out.Denot = record { contents = g.Out.Write.contents; before = c.args.output.now; after = c.args.output.now } in
    let log : Output g.row.Log.Denot = record { contents = g.Log.Write.contents; before = c.args.log.now; after = c.args.log.now } in
    let at = goal.at.returns-in_err-held-clause-reports g c in
    let nearest = c.find_roster-rest.new.roster in
    let p = err_from_is_err_and c.from_residual.result c.from_residual.ensures.1 in
    rw (p.1, p.2) (plan_unfound c.args.course.now.searches c.args.course.now.from c.args.course.now.kicks_alone c.args.instance.case c.args.instance.roster output log
    (repaired g at.After-find_roster-rest) nearest (λ e. c.find_roster-rest.ensures.roster) (planned g at.After-find_roster-rest) c.in_err-held.field-0.0 c.in_err-held.ensures.unfound refl refl)

-- ---- the run from there

held_is : (g : given.Over) (c : After-polish_found g) → c.in_ok-held.held ≡ record { case = c.args.instance.case; roster = c.find_roster-rest.new.roster }
held_is g c = c.in_ok-held.ensures.held

kept : (g : given.Over) (c : After-polish_found g) → hard_faults c.args.instance.case c.find_roster-rest.new.roster ≡ []
kept g c = c.in_ok-held.ensures.kept

-- what holds for the held roster, the course and the number at the beginning of the log holds for what was
-- given and found
as_given : (g : given.Over) (c : After-polish_found g) (P : (m : Meaning) (from : ℕ) (r : Rows) (start : ℕ) (alone : Bool) → Type 0)
    → P c.in_ok-held.held.case c.within_capacity-all.result.from c.in_ok-held.held.roster c.missing-aids.result c.within_capacity-all.result.kicks_alone
    → P c.args.instance.case c.args.course.now.from c.find_roster-rest.new.roster (missing c.args.instance.case c.args.instance.roster) c.args.course.now.kicks_alone
as_given g c P polished =
    let k = c.args.instance.case in
    let nearest = c.find_roster-rest.new.roster in
    let of_held = subst (λ (h : HeldRoster). P h.case c.within_capacity-all.result.from h.roster c.missing-aids.result c.within_capacity-all.result.kicks_alone) (held_is g c) polished in
    let of_course = subst (λ (x : Course g.row.K.Denot). P k x.from nearest c.missing-aids.result x.kicks_alone) c.within_capacity-all.ensures of_held in
    subst (λ n. P k c.args.course.now.from nearest n c.args.course.now.kicks_alone) c.missing-aids.ensures of_course

pub returns-in-Ok-polish_found-clause-reports : goal.returns-in-Ok-polish_found-clause-reports
returns-in-Ok-polish_found-clause-reports g c =
    let output : Output g.row.Out.Denot = record { contents = g.Out.Write.contents; before = c.args.output.now; after = c.show_weeks.new.output } in
    let log : Output g.row.Log.Denot = record { contents = g.Log.Write.contents; before = c.args.log.now; after = c.polish_found.new.log } in
    let at = goal.at.returns-in-Ok-polish_found-clause-reports g c in
    let last = c.polish_found.new.held.roster in
    let polished = c.in-Ok-polish_found.field-0 in
    let polishes = as_given g at.After-polish_found (λ m from r start alone. Polishes g.Log.Write.contents m from r start c.find_roster-rest.result.searches alone last c.args.log.now c.polish_found.new.log polished) c.in-Ok-polish_found.ensures.ok in
    let case_is = c.case.ensures ∙ c.polish_found.ensures.case ∙ ap (λ (h : HeldRoster). h.case) (held_is g at.After-polish_found) in
    let shown = c.show_weeks.result in
    let writes = subst (λ (m : Meaning). OnOk shown (Writes g.Out.Write.contents c.args.output.now c.show_weeks.new.output (weeks_text m last))) case_is (subst (λ r. OnOk shown (Writes g.Out.Write.contents c.args.output.now c.show_weeks.new.output (weeks_text c.case.result.now r))) c.roster.ensures.roster c.show_weeks.ensures.ok) in
    let stops = subst (λ (m : Meaning). IfErr shown (StopsOutput g.Out.Write.contents c.args.output.now c.show_weeks.new.output (weeks_text m last))) case_is (subst (λ r. IfErr shown (StopsOutput g.Out.Write.contents c.args.output.now c.show_weeks.new.output (weeks_text c.case.result.now r))) c.roster.ensures.roster c.show_weeks.ensures.err) in
    plan_ends c.args.course.now.searches c.args.course.now.from c.args.course.now.kicks_alone c.args.instance.case c.args.instance.roster output log
    (repaired g at.After-find_roster-rest) c.find_roster-rest.new.roster (λ e. c.find_roster-rest.ensures.roster) (planned g at.After-find_roster-rest) (kept g at.After-polish_found) c.find_roster-rest.result.searches (few g at.After-find_roster-rest) last polished shown polishes writes stops

pub returns-in-Ok-polish_found-clause-made : goal.returns-in-Ok-polish_found-clause-made
returns-in-Ok-polish_found-clause-made g c =
    written_after (is_up (time_of c.find_roster-rest.result.deadline) ≡ true) c.args.instance.case c.args.course.now.searches c.polish_found.new.meter g.Out.Write.contents c.args.output.now c.show_weeks.new.output (weeks_text c.case.result.now c.roster.result.now) c.show_weeks.result c.show_weeks.ensures.err

pub returns-clause-reports : goal.returns-clause-reports
returns-clause-reports g c =
    let output : Output g.row.Out.Denot = record { contents = g.Out.Write.contents; before = c.args.output.now; after = c.args.output.now } in
    let log : Output g.row.Log.Denot = record { contents = g.Log.Write.contents; before = c.args.log.now; after = c.polish_found.new.log } in
    let at = goal.at.returns-clause-reports g c in
    let last = c.polish_found.new.held.roster in
    let f = c.in-Err-LogFailed.field-0 in
    let stops = as_given g at.After-polish_found (λ m from r start alone. PolishLogStops g.Log.Write.contents m from r start c.find_roster-rest.result.searches alone last c.args.log.now c.polish_found.new.log f) c.in-Err-LogFailed.ensures.err in
    plan_stops c.args.course.now.searches c.args.course.now.from c.args.course.now.kicks_alone c.args.instance.case c.args.instance.roster output log
    (repaired g at.After-find_roster-rest) c.find_roster-rest.new.roster (λ e. c.find_roster-rest.ensures.roster) (planned g at.After-find_roster-rest) (kept g at.After-polish_found) c.find_roster-rest.result.searches (few g at.After-find_roster-rest) last f stops refl

-- ---- what is shown

pub returns-in-Some-clause-saved : goal.returns-in-Some-clause-saved
returns-in-Some-clause-saved g c = inl refl

pub returns-in_default-for_roster-clause-saved : goal.returns-in_default-for_roster-clause-saved
returns-in_default-for_roster-clause-saved g c = inl refl

pub returns-in_err-held-clause-saved : goal.returns-in_err-held-clause-saved
returns-in_err-held-clause-saved g c = inl refl

shown : (g : given.Over) (c : After-polish_found g) → IsPlanned c.args.instance.case c.args.course.now.from c.args.instance.roster c.find_roster-rest.new.roster → Shows g.S.Saves.Saw g.Log.Write.contents c.args.log.now c.args.instance.case c.args.instance.roster c.args.aids.now.reporting.saver c.polish_found.new.reporting.saver
shown g c planned =
    inr (
      c.args.course.now.from,
      record {
        begun = c.find_roster-rest.new.roster;
        planned = planned;
        start = missing c.args.instance.case c.args.instance.roster;
        shown = as_given g c (λ m from r start alone. SawOnlyReported g.Log.Write.contents g.S.Saves.Saw m from r start c.args.log.now c.args.aids.now.reporting.saver c.polish_found.new.reporting.saver) c.polish_found.ensures.saved;
      },
    )

pub returns-in-Ok-polish_found-clause-saved : goal.returns-in-Ok-polish_found-clause-saved
returns-in-Ok-polish_found-clause-saved g c =
    let at = goal.at.returns-in-Ok-polish_found-clause-saved g c in
    shown g at.After-polish_found (planned g at.After-find_roster-rest)

pub returns-clause-saved : goal.returns-clause-saved
returns-clause-saved g c =
    let at = goal.at.returns-clause-saved g c in
    shown g at.After-polish_found (planned g at.After-find_roster-rest)
