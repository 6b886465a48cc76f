use Rattle.std.proofs.Common.{◌∙◌, arith, sym}
use Rattle.roster_instance.specs.declared.choice.Choice.TheVariants.{Off}
use Rattle.roster_offers.specs.declared.offer.Offer.{Offer}
use Rattle.roster_offers.proofs.ByShift.{begun, kept_both, kept_last, kept_next, one_fits, two_fit}
use Rattle.roster_offers.proofs.by_shift.keep_offer.Goals as goal

-- what is read past the end of the list
abbrev outside : Offer
outside = record { choice = Off; price = 0 }

pub returns-in_default : goal.returns-in_default
returns-in_default c = record {
  kept = begun c.pop.result c.in_default.is c.args.kept.now.items c.pop.new.self.items c.pop.ensures.variant.1 c.pop.ensures.items c.args.offers.now c.args.index outside c.push.new.self.items c.requires.index c.requires.kept c.push.ensures.items;
}

-- ---- the capacity

pub push-requires-then-not-is_same_shift : goal.push-requires-then-not-is_same_shift
push-requires-then-not-is_same_shift c =
    let room = one_fits c.args.offers.now c.args.index c.requires.index c.args.kept.now.items c.pop.new.self.items c.in-Some.last c.requires.kept c.in-Some.ensures.items in
    (omega arith, omega (arith, room, c.requires.few))

pub push-requires-then-not-is_same_shift-2 : goal.push-requires-then-not-is_same_shift-2
push-requires-then-not-is_same_shift-2 c =
    let room = two_fit c.args.offers.now c.args.index c.requires.index c.args.kept.now.items c.pop.new.self.items c.in-Some.last c.requires.kept c.in-Some.ensures.items outside (sym c.is_same_shift.ensures ∙ c.if-not-is_same_shift.true) in
    (omega arith, omega (arith, room, c.requires.few, c.push-then-not-is_same_shift.ensures.len))

pub push-requires-then-offer-last : goal.push-requires-then-offer-last
push-requires-then-offer-last c =
    let room = one_fits c.args.offers.now c.args.index c.requires.index c.args.kept.now.items c.pop.new.self.items c.in-Some.last c.requires.kept c.in-Some.ensures.items in
    (omega arith, omega (arith, room, c.requires.few))

pub push-requires-else-offer-last : goal.push-requires-else-offer-last
push-requires-else-offer-last c =
    let room = one_fits c.args.offers.now c.args.index c.requires.index c.args.kept.now.items c.pop.new.self.items c.in-Some.last c.requires.kept c.in-Some.ensures.items in
    (omega arith, omega (arith, room, c.requires.few))

-- ---- what is kept

pub returns-then-not-is_same_shift : goal.returns-then-not-is_same_shift
returns-then-not-is_same_shift c = record {
  kept = kept_both c.args.offers.now c.args.index c.requires.index c.args.kept.now.items c.pop.new.self.items c.in-Some.last c.requires.kept c.in-Some.ensures.items outside (sym c.is_same_shift.ensures ∙ c.if-not-is_same_shift.true) c.push-then-not-is_same_shift.new.self.items c.push-then-not-is_same_shift-2.new.self.items c.push-then-not-is_same_shift.ensures.items c.push-then-not-is_same_shift-2.ensures.items;
}

pub returns-then-offer-last : goal.returns-then-offer-last
returns-then-offer-last c = record {
  kept = kept_next c.args.offers.now c.args.index c.requires.index c.args.kept.now.items c.pop.new.self.items c.in-Some.last c.requires.kept c.in-Some.ensures.items outside (sym c.is_same_shift.ensures ∙ c.if-not-is_same_shift.false) c.if-offer-last.true c.push-then-offer-last.new.self.items c.push-then-offer-last.ensures.items;
}

pub returns-else-offer-last : goal.returns-else-offer-last
returns-else-offer-last c = record {
  kept = kept_last c.args.offers.now c.args.index c.requires.index c.args.kept.now.items c.pop.new.self.items c.in-Some.last c.requires.kept c.in-Some.ensures.items outside (sym c.is_same_shift.ensures ∙ c.if-not-is_same_shift.false) c.if-offer-last.false c.push-else-offer-last.new.self.items c.push-else-offer-last.ensures.items;
}
