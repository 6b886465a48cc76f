use Rattle.std.proofs.Common.{◌≡◌, ◌∙◌, ◌+◌, ◌*◌, ◌<◌, [], ℕ, Some, ap, arith, length, slice_index_or, slice_set, subst, sym, vec_capacity}
use Rattle.std.specs.Prelude.{All}
use Rattle.std.specs.Vec.{with_item}
use Rattle.std.proofs.lemmas.List.{length-set}
use Rattle.std.proofs.lemmas.Nat.{mul-add-lt, mul-le}
use Rattle.roster_instance.specs.Choices.{shift_of}
use Rattle.roster_instance.specs.Limits.{most_days, most_nurses, most_shifts}
use Rattle.roster_instance.specs.Meaning.{day_count, nurse_count}
use Rattle.roster_offers.specs.Lists.{AreOffersAt, offers_on}
use Rattle.roster_offers.proofs.ListLaws.{offers_read}
use Rattle.roster_row.specs.Recalled.{ArePrices, price_index}
use Rattle.roster_row.proofs.RecallLaws.{day_put, recalls_more, others_stay, indices_fit}
use Rattle.roster_row.proofs.last.LastSearches.remember.Goals as goal
use Rattle.roster_row.proofs.last.LastSearches.remember.Goals.{After-as_slice, In-loop-day}

-- ---- a day

day_in : (c : In-loop-day) → c.loop-day.day < day_count c.args.case.now
day_in c = omega (arith, c.loop-day-test.true, c.requires.days)

index_is : (c : In-loop-day) → c.args.nurse * length c.args.offers.now + c.loop-day.day ≡ c.args.nurse * day_count c.args.case.now + c.loop-day.day
index_is c = ap (λ days. c.args.nurse * days + c.loop-day.day) c.requires.days

offers_here : (c : After-as_slice) → (scale : ℕ) → AreOffersAt c.args.case.now c.args.nurse scale c.args.offers.now → c.loop-day.day < day_count c.args.case.now → c.as_slice.result.now ≡ offers_on c.args.offers.now c.loop-day.day
offers_here c scale are inside = c.as_slice.ensures.value ∙ offers_read c.args.case.now c.args.nurse c.args.offers.now are c.loop-day.day inside c.index-offers-day.result c.index-offers-day.result c.index-offers-day.is

pub prices_by_shift-requires : goal.prices_by_shift-requires
prices_by_shift-requires c =
    let k = c.args.case.now in
    let scale = c.requires.offers.0 in
    let are = c.requires.offers.1 in
    let inside = day_in (goal.at.prices_by_shift-requires c).In-loop-day in
    record {
      indices = subst (All (λ offer. price_index (shift_of offer.choice) < 1 + most_shifts)) (sym (offers_here c scale are inside)) (indices_fit k c.args.nurse (offers_on c.args.offers.now c.loop-day.day) c.keeps_limits.ensures.shifts (are.each c.loop-day.day inside));
    }

pub overflow_mul-nurse : goal.overflow_mul-nurse
overflow_mul-nurse c =
    let few = c.keeps_limits.ensures in
    omega (arith, mul-le c.args.nurse (length c.args.offers.now) most_nurses most_days (omega (arith, few.nurses, c.requires.nurse)) (omega (arith, few.weeks, c.requires.days)))

pub index_mut-requires : goal.index_mut-requires
index_mut-requires c =
    let k = c.args.case.now in
    let inside = day_in (goal.at.index_mut-requires c).In-loop-day in
    omega (arith, index_is (goal.at.index_mut-requires c).In-loop-day, mul-add-lt c.args.nurse (day_count k) c.loop-day.day (nurse_count k) c.requires.nurse inside, c.loop-day.invariant.length, c.requires.recalls.1.days)

pub loop-day-preserved : goal.loop-day-preserved
loop-day-preserved c =
    let k = c.args.case.now in
    let n = c.args.nurse in
    let day = c.loop-day.day in
    let at = goal.at.loop-day-preserved c in
    let old = c.loop-day.invariant in
    let inside = day_in at.In-loop-day in
    let index = index_is at.In-loop-day in
    let prices = c.loop-day.self.prices.items in
    let new = c.prices_by_shift.result in
    let offers = offers_on c.args.offers.now in
    let all = old.length ∙ c.requires.recalls.1.days in
    let here : ArePrices (offers day) new = subst (λ xs. ArePrices xs new) (offers_here at.After-as_slice c.requires.offers.0 c.requires.offers.1 inside) c.prices_by_shift.ensures in
    record {
      costs = old.costs;
      capacity = old.capacity;
      length = length-set prices (n * length c.args.offers.now + day) new ∙ old.length;
      put = subst (λ i. (d : ℕ) → d < day + 1 → ArePrices (offers d) (slice_index_or (slice_set prices i new) (n * day_count k + d) [])) (sym index) (day_put k n c.requires.nurse offers day inside prices all new here old.put);
      others = λ i outside. ap (λ p. slice_index_or (slice_set prices p new) i []) index ∙ others_stay k n c.requires.nurse offers day inside prices all new i outside ∙ old.others i outside;
    }

-- ---- all days

pub returns : goal.returns
returns c =
    let k = c.args.case.now in
    let n = c.args.nurse in
    let old = c.loop-day.invariant in
    let all : c.loop-day.day ≡ day_count k = omega (arith, c.loop-day-test.false, c.loop-day.auto.day-end, c.requires.days) in
    record {
      recalls = λ scale recalls row found. recalls_more k n c.requires.nurse scale c.args.self.now (record { prices = c.loop-day.self.prices; costs = with_item c.loop-day.self.costs n (Some c.args.cost) }) c.args.cost recalls old.length (ap (λ v. slice_set v.items n (Some c.args.cost)) old.costs) old.others
          (record { offers = offers_on c.args.offers.now; row = found.offers; prices = λ d low. old.put d (omega (arith, low, all)); found = found.is });
      recorded = ap (λ v. slice_set v.items n (Some c.args.cost)) old.costs;
      prices = λ day low. old.put day (omega (arith, low, all));
      same_capacity = λ i. record { prices = old.capacity i; costs = vec_capacity (old.costs i) };
    }
