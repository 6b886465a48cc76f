use Rattle.std.proofs.Common.{◌≡◌, ◌≢◌, ◌∙◌, ◌+◌, ◌/◌, ◌%◌, ◌<◌, ◌≤◌, ◌⊎◌, ℕ, List, arith, inl, inr, length, min, slice_index_or, subst, sym}
use Rattle.std.proofs.lemmas.Bool.{cases_eq}
use Rattle.std.proofs.lemmas.List.{get_or_read}
use Rattle.roster_instance.specs.Meaning.{minimum, optimum}
use Rattle.roster_prices.specs.Fading.{followed_by}
use Rattle.roster_slots.specs.Tables.{most_fine}
use Rattle.roster_prices.proofs.fading.follow_cover.Goals as goal

-- one slot more
slot_more : (f : ℕ → ℕ) (old now new : List ℕ) (slot value : ℕ) → slice_index_or new slot 0 ≡ min value most_fine → value ≤ most_fine → value ≡ f slot
    → ((other : ℕ) → other ≢ slot → slice_index_or new other 0 ≡ slice_index_or now other 0) → ((at : ℕ) → at < slot → slice_index_or now at 0 ≡ f at) → (at : ℕ) → at < slot + 1 → slice_index_or new at 0 ≡ f at
slot_more f old now new slot value here low is others before at within = go (cases_eq at slot)
  where
    value_is : min value most_fine ≡ value
    value_is = omega (arith, low)

    go : (at ≡ slot) ⊎ (at ≡ slot → ⊥) → slice_index_or new at 0 ≡ f at
    go (inl same) = subst (λ k. slice_index_or new k 0 ≡ f k) (sym same) (here ∙ value_is ∙ is)
    go (inr other) = others at other ∙ before at (omega (arith, within, other))

pub loop-slot-preserved : goal.loop-slot-preserved
loop-slot-preserved g c =
    let k = c.args.case.now in
    let slot = c.loop-slot.slot in
    let old = c.args.bounds.now.dual_prices.fine in
    let now = c.loop-slot.bounds.dual_prices.fine in
    let cover = c.args.bounds.now.rows.cover.items in
    let i = c.loop-slot.invariant in
    let inside : slot < length c.loop-slot.bounds.rows.cover.items = omega (arith, c.loop-slot-test.true, c.days.ensures.count, i.fits.rows.cover) in
    let followed : ℕ → ℕ = λ at. followed_by (minimum k (at / 64) (at % 64 / 8) (at % 8)) (optimum k (at / 64) (at % 64 / 8) (at % 8)) (slice_index_or cover at 0) (slice_index_or old at 0) c.args.step in
    let nurses : c.index-nurses.result.now ≡ slice_index_or cover slot 0 = get_or_read c.loop-slot.bounds.rows.cover.items slot c.index-nurses.result.now inside c.index-nurses.ensures 0 ∙ (λ j. slice_index_or (i.rows j).cover.items slot 0) in
    let fine : c.fine_at-fine.result ≡ slice_index_or old slot 0 = c.fine_at-fine.ensures.fine ∙ i.later slot (omega arith) in
    let is : c.followed.result ≡ followed slot = c.followed.ensures.followed ∙ (λ j. followed_by (c.need_at-need.ensures.minimum j) (c.need_at-need.ensures.optimum j) (nurses j) (fine j) c.args.step) in
    record {
      rows = i.rows;
      before = slot_more followed old now c.put_fine.new.self.fine slot c.followed.result c.put_fine.ensures.fine c.followed.ensures.within is c.put_fine.ensures.others i.before;
      later = λ at past. c.put_fine.ensures.others at (omega (arith, past)) ∙ i.later at (omega (arith, past));
      fits = record {
        rows = i.fits.rows;
        dual_prices = c.put_fine.ensures.days ∙ i.fits.dual_prices;
        aside = i.fits.aside;
        subgradient = i.fits.subgradient;
        direction = i.fits.direction;
        pool = i.fits.pool;
      };
    }
