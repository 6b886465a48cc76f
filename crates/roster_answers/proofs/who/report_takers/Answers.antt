use Rattle.std.proofs.Common.{◌≡◌, ◌∙◌, [], List, refl, subst, sym}
use Rattle.roster_rules.proofs.HardLemmas.{none_of-none}
use Rattle.roster_costs.specs.Irreparable.{irreparable}
use Rattle.roster_who.specs.Who.{AreInOrder, takers, without_absent_work}
use Rattle.roster_who.specs.declared.asked.Asked.{Asked}
use Rattle.roster_who.specs.declared.taker.Taker.{Taker}
use Rattle.roster_answers.specs.Answer.{Output, asked_by, names_in}
use Rattle.roster_answers.specs.declared.fault.Fault.TheVariants as fault
use Rattle.roster_answers.proofs.WhoLemmas.{listed_are, who_refused, who_without_memory, who_unknown, who_written}
use Rattle.roster_answers.proofs.who.report_takers.Given as given
use Rattle.roster_answers.proofs.who.report_takers.Goals as goal
use Rattle.roster_answers.proofs.who.report_takers.Goals.{After-asked_by, After-find_takers}

pub returns-in-Some : goal.returns-in-Some
returns-in-Some g c =
    let output : Output g.row.Out.Denot = record { contents = g.Out.Write.contents; before = c.args.output.now; after = c.args.output.now } in
    let i = c.args.instance in
    who_refused (names_in c.args.asking) c.args.asking.from c.args.json i.case i.roster output (fault.Hard c.in-Some.fault c.into_case.result) (sym c.in-Some.ensures, c.into_case.ensures) refl

-- nothing on the frozen days is beyond repair
repairable : (g : given.Over) (c : After-asked_by g) → irreparable c.args.instance.case c.args.asking.from c.args.instance.roster ≡ []
repairable g c = none_of-none (irreparable c.args.instance.case c.args.asking.from c.args.instance.roster) (sym c.first_irreparable.ensures ∙ c.in_default.is)

pub returns-in-Err : goal.returns-in-Err
returns-in-Err g c =
    let output : Output g.row.Out.Denot = record { contents = g.Out.Write.contents; before = c.args.output.now; after = c.args.output.now } in
    let i = c.args.instance in
    who_unknown (names_in c.args.asking) c.args.asking.from c.args.json i.case i.roster output (repairable g (goal.at.returns-in-Err g c).After-asked_by) c.in-Err.unknown.thing c.in-Err.unknown.name c.in-Err.ensures.unknown refl

-- the takers of the assignment that these names ask for
in_order : (g : given.Over) (c : After-find_takers g) (listed : List Taker) → AreInOrder (takers c.args.instance.case c.args.asking.from (without_absent_work c.args.instance.case c.args.instance.roster) c.in-Ok.asked) listed
    → AreInOrder (takers c.args.instance.case c.args.asking.from (without_absent_work c.args.instance.case c.args.instance.roster) (asked_by c.args.instance.case (names_in c.args.asking))) listed
in_order g c listed are =
    subst (λ (a : Asked). AreInOrder (takers c.args.instance.case c.args.asking.from (without_absent_work c.args.instance.case c.args.instance.roster) a) listed) c.in-Ok.ensures.asked are

pub show_takers-requires : goal.show_takers-requires
show_takers-requires g c =
    let i = c.args.instance in
    record { nurses = listed_are i.case c.args.asking.from (without_absent_work i.case i.roster) c.in-Ok.asked c.in-Ok-find_takers.takers.listed.items c.in-Ok-find_takers.ensures.takers }

pub returns-in-Ok-find_takers : goal.returns-in-Ok-find_takers
returns-in-Ok-find_takers g c =
    let output : Output g.row.Out.Denot = record { contents = g.Out.Write.contents; before = c.args.output.now; after = c.show_takers.new.output } in
    let at = goal.at.returns-in-Ok-find_takers g c in
    let i = c.args.instance in
    let takers_found = c.in-Ok-find_takers.takers in
    who_written (names_in c.args.asking) c.args.asking.from c.args.json i.case i.roster output (repairable g at.After-asked_by) c.in-Ok.ensures.known takers_found.listed.items
    (in_order g at.After-find_takers takers_found.listed.items c.in-Ok-find_takers.ensures.takers) takers_found.missed c.in-Ok-find_takers.ensures.missed c.show_takers.result c.show_takers.ensures.ok c.show_takers.ensures.err

pub returns : goal.returns
returns g c =
    let output : Output g.row.Out.Denot = record { contents = g.Out.Write.contents; before = c.args.output.now; after = c.args.output.now } in
    let i = c.args.instance in
    who_without_memory (names_in c.args.asking) c.args.asking.from c.args.json i.case i.roster output (repairable g (goal.at.returns g c).After-asked_by) c.in-Ok.ensures.known refl
