use Rattle.std.proofs.Common.{◌≡◌, ◌∙◌, ◌+◌, ◌*◌, ◌<◌, ◌≤◌, [], None, Option, Some, IfSome, ℕ, ap, arith, length, slice_index_or, subst, sym}
use Rattle.std.specs.Prelude.{All}
use Rattle.std.proofs.Math.Path.{transport}
use Rattle.std.proofs.lemmas.Bool.{leb-true}
use Rattle.std.proofs.lemmas.List.{get_or_read}
use Rattle.roster_instance.specs.Limits.{most_shifts}
use Rattle.roster_instance.specs.Meaning.{Meaning, day_count}
use Rattle.roster_rules.specs.Penalties.{penalty}
use Rattle.roster_rules.specs.Prefix.{due}
use Rattle.roster_rules.specs.PenaltyBounds.{penalty_limit}
use Rattle.roster_laws.specs.OneRow.{rest_of}
use Rattle.roster_offers.specs.Lists.{AreOffers, offers_on}
use Rattle.roster_offers.proofs.ListLaws.{offers_read}
use Rattle.roster_row.specs.Recalled.{IsDearer, WasSearchedAt, price_index, prices_on}
use Rattle.roster_instance.specs.Choices.{shift_of}
use Rattle.roster_row.proofs.BestLaws.{KeepsLimits, base_within}
use Rattle.roster_row.proofs.OffersLaws.{can_search}
use Rattle.roster_row.proofs.RecallLaws.{HaveChanged, day_within, none_cheaper, indices_fit, so_far_more, so_far_none}
use Rattle.roster_row.proofs.last.LastSearches.has_none_cheaper.Goals as goal
use Rattle.roster_row.proofs.last.LastSearches.has_none_cheaper.Goals.{After-as_slice, After-keeps_rules, After-rest, In-loop-day}

limits : (c : After-keeps_rules) → KeepsLimits c.args.held.now.case
limits c =
    let kept = c.keeps_limits.ensures in
    subst KeepsLimits c.case.ensures (record { small = kept.small; weeks = kept.weeks; shifts = kept.shifts; skills = kept.skills; nurses = kept.nurses })

ready : (c : After-keeps_rules) → AreOffers c.args.held.now.case c.args.nurse c.args.offers.now
ready c =
    can_search c.args.held.now.case c.requires.offers.0 c.args.held.now.roster c.args.nurse c.args.offers.now c.requires.offers.1 (limits c).small (limits c).shifts (limits c).skills
    c.keeps_rules.ensures.fits c.keeps_rules.ensures.keeps c.requires.nurse

-- ---- the sums

base_fits : (c : After-rest) → c.rest.result + c.start-owed.result.1 < penalty_limit
base_fits c =
    let k = c.args.held.now.case in
    let kept = c.keeps_limits.ensures in
    let within : KeepsLimits k = subst KeepsLimits c.case.ensures (record { small = kept.small; weeks = kept.weeks; shifts = kept.shifts; skills = kept.skills; nurses = kept.nurses }) in
    let owed : c.start-owed.result.1 ≡ due k c.args.nurse [] = c.start-owed.ensures.cost ∙ ap (λ (m : Meaning). due m c.args.nurse []) c.case-2.ensures in
    omega (arith, base_within k 0 c.args.held.now.roster within c.keeps_rules.ensures.fits c.keeps_rules.ensures.keeps c.args.nurse c.requires.nurse, c.rest.ensures, owed)

pub overflow_add-least : goal.overflow_add-least
overflow_add-least c = omega (arith, base_fits c)

pub overflow_add-least-2 : goal.overflow_add-least-2
overflow_add-least-2 c = omega (arith, base_fits (goal.at.overflow_add-least-2 c).After-rest, c.type_inv.cost.fits)

-- ---- a day

pub loop-day-init : goal.loop-day-init
loop-day-init c = so_far_none c.args.held.now.case c.args.self.now c.args.nurse (offers_on c.args.offers.now) (c.rest.result + c.start-owed.result.1 + c.in-Some.cost) c.total-present.result

day_in : (c : In-loop-day) → c.loop-day.day < day_count c.args.held.now.case
day_in c = omega (arith, c.loop-day-test.true, c.requires.offers.1.days)

pub overflow_add-least-in-loop-day : goal.overflow_add-least-in-loop-day
overflow_add-least-in-loop-day c =
    let at = goal.at.overflow_add-least-in-loop-day c in
    omega (arith, base_fits at.After-rest, c.loop-day.invariant.least_is, c.loop-day.invariant.rise_low, day_in at.In-loop-day, (limits at.After-keeps_rules).weeks)

index_is : (c : In-loop-day) → c.args.nurse * length c.args.offers.now + c.loop-day.day ≡ c.args.nurse * day_count c.args.held.now.case + c.loop-day.day
index_is c = ap (λ days. c.args.nurse * days + c.loop-day.day) c.requires.offers.1.days

index_inside : (c : In-loop-day) → c.args.nurse * length c.args.offers.now + c.loop-day.day < length c.args.self.now.prices.items
index_inside c = omega (arith, index_is c, day_within c.args.held.now.case c.args.nurse c.loop-day.day c.requires.nurse (day_in c), c.requires.recalls.days)

pub index-before-requires : goal.index-before-requires
index-before-requires c = omega (arith, index_inside c, c.args.self.now.prices.ok.0)

offers_here : (c : After-as_slice) → AreOffers c.args.held.now.case c.args.nurse c.args.offers.now → c.loop-day.day < day_count c.args.held.now.case → c.as_slice.result.now ≡ offers_on c.args.offers.now c.loop-day.day
offers_here c are inside = c.as_slice.ensures.value ∙ offers_read c.args.held.now.case c.args.nurse c.args.offers.now are c.loop-day.day inside c.index-offers-day.result c.index-offers-day.result c.index-offers-day.is

pub change_since-requires : goal.change_since-requires
change_since-requires c =
    let k = c.args.held.now.case in
    let are = ready (goal.at.change_since-requires c).After-keeps_rules in
    let inside = day_in (goal.at.change_since-requires c).In-loop-day in
    record {
      indices = subst (All (λ offer. price_index (shift_of offer.choice) < 1 + most_shifts)) (sym (offers_here c are inside)) (indices_fit k c.args.nurse (offers_on c.args.offers.now c.loop-day.day) (limits (goal.at.change_since-requires c).After-keeps_rules).shifts (are.each c.loop-day.day inside));
    }

pub loop-day-preserved : goal.loop-day-preserved
loop-day-preserved c =
    let k = c.args.held.now.case in
    let n = c.args.nurse in
    let day = c.loop-day.day in
    let at = goal.at.loop-day-preserved c in
    let here = offers_here at.After-as_slice (ready at.After-keeps_rules) (day_in at.In-loop-day) in
    let index = index_is at.In-loop-day in
    let prices : c.index-before.result.now ≡ prices_on k c.args.self.now n day = get_or_read c.args.self.now.prices.items (n * length c.args.offers.now + day) c.index-before.result.now (index_inside at.In-loop-day) c.index-before.ensures [] ∙ ap (λ i. slice_index_or c.args.self.now.prices.items i []) index in
    so_far_more k c.args.self.now n (offers_on c.args.offers.now) day (c.rest.result + c.start-owed.result.1 + c.in-Some.cost) c.loop-day.least c.total-present.result c.loop-day.present c.in-Some-change_since.field-0.rise c.in-Some-change_since.field-0.fall c.loop-day.invariant
    (omega arith) (omega arith)
    (transport (λ i. All (IsDearer (prices i) c.in-Some-change_since.field-0.rise c.in-Some-change_since.field-0.fall) (here i)) c.in-Some-change_since.ensures)

-- ---- the answer

pub returns : goal.returns
returns c rises from are =
    let k = c.args.held.now.case in
    let n = c.args.nurse in
    let rows = c.args.held.now.roster in
    let so_far = c.loop-day.invariant in
    let offers = offers_on c.args.offers.now in
    let at = (goal.at.returns c).After-rest in
    let all : c.loop-day.day ≡ day_count k = omega (arith, c.loop-day-test.false, c.loop-day.auto.day-end, c.requires.offers.1.days) in
    let changed = subst (λ days. HaveChanged k c.args.self.now n offers days so_far.rise so_far.fall) all so_far.changed in
    let cost_is : slice_index_or c.args.self.now.costs.items n None ≡ Some c.in-Some.cost = sym (get_or_read c.args.self.now.costs.items n c.index.result.now (omega (arith, c.requires.nurse, c.requires.recalls.nurses)) c.index.ensures None) ∙ c.in-Some.is in
    let was = subst (λ (o : Option ℕ). IfSome o (WasSearchedAt k 1 c.args.self.now n)) cost_is (c.requires.recalls.searched n c.requires.nurse) in
    let owed : c.start-owed.result.1 ≡ due k n [] = c.start-owed.ensures.cost ∙ ap (λ (m : Meaning). due m n []) c.case-2.ensures in
    let enough : penalty k rows + so_far.fall ≤ rest_of k rows n + due k n [] + c.in-Some.cost + so_far.rise = omega (arith, leb-true c.loop-day.present c.loop-day.least rises, so_far.least_is, so_far.present_is, c.total-present.ensures.total, c.rest.ensures, owed) in
    none_cheaper k rows c.keeps_rules.ensures.fits c.keeps_rules.ensures.keeps n c.requires.nurse c.args.self.now c.in-Some.cost so_far.rise so_far.fall c.args.offers.now was changed enough from are
