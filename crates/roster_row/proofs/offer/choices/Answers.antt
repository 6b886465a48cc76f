use Rattle.std.proofs.Common.{◌≡◌, ◌∙◌, ap, false, sym, true}
use Rattle.std.proofs.lemmas.Bool.{true≢false}
use Rattle.roster_instance.specs.Meaning.{Meaning}
use Rattle.roster_rules.specs.AllowedRows.{is_frozen}
use Rattle.roster_laws.specs.OneRow.{others, price}
use Rattle.roster_laws.specs.Staffing.{meets, with_choice}
use Rattle.roster_offers.specs.Offers.{offers_by, takes}
use Rattle.roster_offers.proofs.OfferLaws.{offers_free, offers_frozen}
use Rattle.roster_row.proofs.offer.choices.Goals as goal

pub returns-then-is_frozen-clause-offers : goal.returns-then-is_frozen-clause-offers
returns-then-is_frozen-clause-offers c =
    let k = c.args.held.now.case in
    let frozen : is_frozen k c.args.from c.args.nurse c.args.day ≡ true = sym (c.is_frozen.ensures ∙ ap (λ (m : Meaning). is_frozen m c.args.from c.args.nurse c.args.day) c.case.ensures) ∙ c.if-is_frozen.true in
    c.present_choice.ensures.offer
    ∙ sym (offers_frozen k c.args.from c.args.held.now.roster c.args.nurse c.args.day c.keeps_rules.ensures.fits c.keeps_rules.ensures.keeps c.requires.nurse c.requires.day frozen)

pub returns-clause-offers : goal.returns-clause-offers
returns-clause-offers c =
    let k = c.args.held.now.case in
    let free : is_frozen k c.args.from c.args.nurse c.args.day ≡ false = sym (c.is_frozen.ensures ∙ ap (λ (m : Meaning). is_frozen m c.args.from c.args.nurse c.args.day) c.case.ensures) ∙ c.if-is_frozen.false in
    let r = c.args.held.now.roster in
    let n = c.args.nurse in
    c.offers_of_choices.ensures.offers
    ∙ ap (λ (m : Meaning). offers_by m (takes m n (λ d x. meets k d (with_choice (others r n d) x))) (price k r n) c.args.day) c.case-case.ensures
    ∙ sym (offers_free k c.args.from r n c.args.day free)

pub returns-clause-frozen : goal.returns-clause-frozen
returns-clause-frozen c = λ frozen.
    let k = c.args.held.now.case in
    let free : is_frozen k c.args.from c.args.nurse c.args.day ≡ false = sym (c.is_frozen.ensures ∙ ap (λ (m : Meaning). is_frozen m c.args.from c.args.nurse c.args.day) c.case.ensures) ∙ c.if-is_frozen.false in
    absurd (true≢false (sym frozen ∙ free))
