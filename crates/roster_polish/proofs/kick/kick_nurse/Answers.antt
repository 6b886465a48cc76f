use Rattle.std.proofs.Common.{◌≡◌, ◌∙◌, IsSome, ap, subst, sym, true}
use Rattle.roster_instance.specs.Meaning.{Meaning}
use Rattle.roster_instance.specs.Rosters.{with_row}
use Rattle.roster_rules.specs.AllowedRows.{row_keeps}
use Rattle.roster_laws.specs.FrozenDays.{FrozenDaysStay}
use Rattle.roster_laws.proofs.Frozen.{row_stays}
use Rattle.roster_case.specs.Held.{HeldRoster}
use Rattle.roster_offers.specs.Lists.{AreOffers, IsFound, best_over, offers_on}
use Rattle.roster_polish.proofs.KickRows.{can_search, found_keeps, found_stays, some_found}
use Rattle.roster_polish.proofs.kick.kick_nurse.Goals as goal
use Rattle.roster_polish.proofs.kick.kick_nurse.Goals.{After-row}

pub search_offers-requires-clause-offers : goal.search_offers-requires-clause-offers
search_offers-requires-clause-offers g c =
    let k = c.args.held.now.case in
    let offers = c.offer_days.new.workspace.offers in
    let logged = c.keeps_rules.ensures in
    subst (λ (m : Meaning). AreOffers m c.args.nurse offers) (sym c.case.ensures)
    (can_search k c.args.held.now.roster c.args.nurse c.args.kick.now logged.fits logged.keeps c.requires.nurse offers c.offer_days.ensures.offers)

pub search_offers-requires-clause-some : goal.search_offers-requires-clause-some
search_offers-requires-clause-some g c =
    let k = c.args.held.now.case in
    let offers = c.offer_days.new.workspace.offers in
    let logged = c.keeps_rules.ensures in
    subst (λ (m : Meaning). IsSome (best_over m c.args.nurse (offers_on offers))) (sym c.case.ensures)
    (some_found k c.args.held.now.roster c.args.nurse c.args.kick.now logged.fits logged.keeps c.requires.nurse offers c.offer_days.ensures.offers)

-- what the search finds over the offers
found : (g : _) (c : After-row g) → IsFound (best_over c.args.held.now.case c.args.nurse (offers_on c.offer_days.new.workspace.offers)) c.search_offers.result c.search_offers.new.self.row
found g c =
    subst (λ (m : Meaning). IsFound (best_over m c.args.nurse (offers_on c.offer_days.new.workspace.offers)) c.search_offers.result c.search_offers.new.self.row) c.case.ensures c.search_offers.ensures.best

pub replace_row-requires-clause-keeps : goal.replace_row-requires-clause-keeps
replace_row-requires-clause-keeps g c =
    let k = c.args.held.now.case in
    let r = c.args.held.now.roster in
    let n = c.args.nurse in
    let logged = c.keeps_rules.ensures in
    subst (λ row. row_keeps k r n row ≡ true) (sym c.row.ensures)
    (found_keeps k r n c.args.kick.now logged.fits logged.keeps c.requires.nurse c.offer_days.new.workspace.offers c.offer_days.ensures.offers c.search_offers.result c.search_offers.new.self.row (found g (goal.at.replace_row-requires-clause-keeps g c).After-row))

pub returns-clause-frozen : goal.returns-clause-frozen
returns-clause-frozen g c =
    let k = c.args.held.now.case in
    let r = c.args.held.now.roster in
    let n = c.args.nurse in
    let logged = c.keeps_rules.ensures in
    let stays = found_stays k r n c.args.kick.now logged.fits logged.keeps c.requires.nurse c.offer_days.new.workspace.offers c.offer_days.ensures.offers c.search_offers.result c.search_offers.new.self.row (found g (goal.at.returns-clause-frozen g c).After-row) in
    subst (FrozenDaysStay k c.args.kick.now.from r) (sym (ap (λ (h : HeldRoster). h.roster) c.replace_row.ensures ∙ ap (with_row r n) c.row.ensures))
    (row_stays k c.args.kick.now.from r n c.search_offers.new.self.row stays)
