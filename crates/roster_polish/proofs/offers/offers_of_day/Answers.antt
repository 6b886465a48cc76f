use Rattle.std.proofs.Common.{◌≡◌, ◌∙◌, ◌≤◌, ap, arith, length, map, slice_index_or, subst, sym, true}
use Rattle.std.proofs.lemmas.List.{take_all}
use Rattle.roster_instance.specs.Limits.{most_shifts, most_skills}
use Rattle.roster_instance.specs.Meaning.{Meaning, shift_count, skill_count}
use Rattle.roster_instance.specs.Rosters.{is_choice_of}
use Rattle.roster_instance.specs.Small.{HasSmallNumbers}
use Rattle.roster_instance.specs.declared.choice.Choice.TheVariants.{Off}
use Rattle.roster_offers.specs.declared.offer.Offer.{Offer}
use Rattle.roster_offers.specs.Offers.{cheapest_by_shift, offers_by, offers_of}
use Rattle.roster_offers.proofs.ByShift.{by_shift_few_of}
use Rattle.roster_polish.specs.Kicks.{kick_offered, kick_price}
use Rattle.roster_polish.proofs.KickRows.{open_of_case, priced_all, priced_in}
use Rattle.roster_polish.proofs.offers.offers_of_day.Goals as goal
use Rattle.roster_polish.proofs.offers.offers_of_day.Goals.{After-deref-2}

pub price-price-requires-clause-choice : goal.price-price-requires-clause-choice
price-price-requires-clause-choice c =
    let k = c.args.held.now.case in
    let small = subst HasSmallNumbers c.case.ensures c.keeps_limits.ensures.small in
    let shifts = subst (λ (m : Meaning). shift_count m ≤ most_shifts) c.case.ensures c.keeps_limits.ensures.shifts in
    let skills = subst (λ (m : Meaning). skill_count m ≤ most_skills) c.case.ensures c.keeps_limits.ensures.skills in
    let e : Offer = record { choice = Off; price = 0 } in
    subst (λ (m : Meaning). is_choice_of m (slice_index_or c.deref.result.now c.loop-position.position e).choice ≡ true) (sym c.case-in-loop-position.ensures)
    (open_of_case k c.args.held.now.roster c.args.nurse c.from_on.result c.args.day c.deref.result.now c.loop-position.position e small shifts skills (c.deref.ensures.0 ∙ c.choices-open.ensures.offers)
    (omega (arith, c.loop-position-test.true, c.len-position-end.ensures.value, ap length c.deref.ensures.0)))

-- the offers at the prices of the kick, all of them
offers_are : (c : After-deref-2) → c.deref-2.result.now ≡ offers_by c.args.held.now.case (kick_offered c.args.held.now.case c.args.held.now.roster c.args.nurse c.args.kick.now) (kick_price c.args.held.now.case c.args.held.now.roster c.args.nurse c.args.kick.now) c.args.day
offers_are c =
    let k = c.args.held.now.case in
    let r = c.args.held.now.roster in
    let kick = c.args.kick.now in
    let those = c.choices-open.result.items in
    c.deref-2.ensures.0
    ∙ c.loop-position.invariant
    ∙ ap (map (priced_in k c.args.nurse kick c.args.day)) (take_all c.loop-position.position those (omega (arith, c.loop-position-test.false, c.len-position-end.ensures.value)))
    ∙ priced_all k r c.args.nurse kick c.args.day those (c.choices-open.ensures.offers ∙ ap (λ from. offers_of k from r c.args.nurse c.args.day) c.from_on.ensures)

pub cheapest_by_shift-requires : goal.cheapest_by_shift-requires
cheapest_by_shift-requires c =
    let k = c.args.held.now.case in
    let r = c.args.held.now.roster in
    let kick = c.args.kick.now in
    let shifts : shift_count k ≤ most_shifts = subst (λ (m : Meaning). shift_count m ≤ most_shifts) c.case.ensures c.keeps_limits.ensures.shifts in
    record {
      few = omega (arith, ap (λ os. length (cheapest_by_shift os)) (offers_are c), by_shift_few_of k (kick_offered k r c.args.nurse kick) (kick_price k r c.args.nurse kick) c.args.day, shifts);
    }

pub returns : goal.returns
returns c = c.cheapest_by_shift.ensures.cheapest ∙ ap cheapest_by_shift (offers_are (goal.at.returns c).After-deref-2)
