use Rattle.std.proofs.Common.{◌≡◌, ◌≢◌, ◌∙◌, ◌<◌, Some, ap, arith, length, slice_index_or, subst, sym}
use Rattle.std.proofs.lemmas.List.{get_or_default}
use Rattle.roster_instance.specs.Choices.{shift_of}
use Rattle.roster_offers.specs.declared.offer.Offer.{Offer}
use Rattle.roster_completion.specs.declared.ways.Onward.{Onward}
use Rattle.roster_completion.specs.declared.ways.Way.{Way}
use Rattle.roster_completion.specs.Lines.{IsOnward, IsOpenWay, no_onward, no_way, nothing, offer_on}
use Rattle.roster_completion.proofs.WayLaws.{each_set, way_added}
use Rattle.roster_completion.proofs.ways.add_way.Goals as goal

abbrev zero : Onward
zero = record { apart = 0; way = record { price = 0; index = 0 } }

pub returns-in-Some-3-clause-way : goal.returns-in-Some-3-clause-way
returns-in-Some-3-clause-way c =
    let day = c.args.day.now in
    let ways = c.args.ways.now in
    let index = c.args.index in
    let u = c.in-Some.shift in
    let offer = offer_on day index in
    let inside : ways.count < length ways.others = omega (arith, c.requires.few, c.requires.index, c.requires.capacity, day.few) in
    let other : c.args.last.0 ≢ u.0 = λ e. absurd (omega (arith, e, c.if-last-shift.false)) in
    let shift : shift_of offer.choice ≡ Some u = ap (λ (x : Offer). shift_of x.choice) (get_or_default day.offers.now index nothing _ c.requires.index) ∙ sym c.shift.ensures ∙ c.in-Some.is in
    let listed : index < length c.args.onwards.now = omega (arith, c.requires.onwards.count, c.requires.index, day.few) in
    way_added day c.args.last offer ways (slice_index_or c.args.onwards.now index zero) inside u other (shift_of offer.choice) shift
    (subst (λ (o : Onward). IsOnward day o offer (shift_of offer.choice)) (get_or_default c.args.onwards.now index no_onward zero listed) (c.requires.onwards.each index c.requires.index))

pub returns-in-Some-3-clause-open : goal.returns-in-Some-3-clause-open
returns-in-Some-3-clause-open c =
    let day = c.args.day.now in
    let ways = c.args.ways.now in
    let index = c.args.index in
    let inside : ways.count < length ways.others = omega (arith, c.requires.few, c.requires.index, c.requires.capacity, day.few) in
    let listed : index < length c.args.onwards.now = omega (arith, c.requires.onwards.count, c.requires.index, day.few) in
    each_set Way no_way ways.others ways.count (slice_index_or c.args.onwards.now index zero).way inside (IsOpenWay day) c.requires.open
    (subst (λ (o : Onward). IsOpenWay day o.way) (get_or_default c.args.onwards.now index no_onward zero listed) (c.requires.onwards.openings index))
