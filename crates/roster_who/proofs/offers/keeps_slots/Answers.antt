use Rattle.std.proofs.Common.{rules, ◌≡◌, ◌∙◌, ◌||◌, ap, false, not, sym, true}
use Rattle.roster_instance.specs.Choices.{same_choice}
use Rattle.roster_instance.specs.Rosters.{choice_on, row_of}
use Rattle.roster_instance.proofs.RosterFacts.{has_row}
use Rattle.roster_who.specs.Offers.{is_needed, keeps_slots}
use Rattle.roster_who.proofs.SlotLemmas.{own_fits, stays_where_needed}
use Rattle.roster_who.proofs.offers.keeps_slots.Goals as goal
use Rattle.roster_who.proofs.offers.keeps_slots.Goals.{After-is_needed}

own_is : (c : After-is_needed) → c.choice_on-present.result ≡ choice_on (row_of c.args.asking.now.roster.now c.args.nurse) c.args.day
own_is c = c.choice_on-present.ensures ∙ ap (λ row. choice_on row c.args.day) c.row.ensures

gathered : (c : After-is_needed) → keeps_slots c.args.asking.now.case.now c.args.asking.now.roster.now c.args.nurse c.args.day c.args.choice
    ≡ (not (is_needed c.args.asking.now.case.now c.args.asking.now.roster.now c.args.day (choice_on (row_of c.args.asking.now.roster.now c.args.nurse) c.args.day)) || same_choice c.args.choice (choice_on (row_of c.args.asking.now.roster.now c.args.nurse) c.args.day))
gathered c =
    let k = c.args.asking.now.case.now in
    let r = c.args.asking.now.roster.now in
    stays_where_needed k r c.args.nurse c.args.day (has_row k r c.args.nurse (search rules) c.requires.nurse) c.args.choice (own_fits k r c.args.nurse c.args.day (search rules) c.requires.nurse)

pub returns-then-not-is_needed : goal.returns-then-not-is_needed
returns-then-not-is_needed c =
    let k = c.args.asking.now.case.now in
    let r = c.args.asking.now.roster.now in
    let at = (goal.at.returns-then-not-is_needed c).After-is_needed in
    let needed : is_needed k r c.args.day (choice_on (row_of r c.args.nurse) c.args.day) ≡ false = ap (is_needed k r c.args.day) (sym (own_is at)) ∙ sym c.is_needed.ensures ∙ c.if-not-is_needed.true in
    ap not c.if-not-is_needed.true ∙ sym (gathered at ∙ ap (λ b. not b || same_choice c.args.choice (choice_on (row_of r c.args.nurse) c.args.day)) needed)

pub returns-else-not-is_needed : goal.returns-else-not-is_needed
returns-else-not-is_needed c =
    let k = c.args.asking.now.case.now in
    let r = c.args.asking.now.roster.now in
    let at = (goal.at.returns-else-not-is_needed c).After-is_needed in
    let needed : is_needed k r c.args.day (choice_on (row_of r c.args.nurse) c.args.day) ≡ true = ap (is_needed k r c.args.day) (sym (own_is at)) ∙ sym c.is_needed.ensures ∙ c.if-not-is_needed.false in
    let same : c.eq.result ≡ same_choice c.args.choice c.choice_on-present.result = search rules in
    same ∙ ap (same_choice c.args.choice) (own_is at) ∙ sym (gathered at ∙ ap (λ b. not b || same_choice c.args.choice (choice_on (row_of r c.args.nurse) c.args.day)) needed)
