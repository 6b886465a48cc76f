use Rattle.std.proofs.Common.{◌≡◌, ◌∙◌, ◌+◌, ◌*◌, ◌<◌, ◌≤◌, ◌⊎◌, ℕ, List, ap, arith, get_or, inl, inr, length, slice_set, subst, sym, true}
use Rattle.std.proofs.lemmas.Bool.{cases_lt}
use Rattle.std.proofs.lemmas.List.{get_or-set_other, get_or-set_same, length-set}
use Rattle.std.proofs.lemmas.Nat.{mul-le}
use Rattle.roster_rules.specs.Prefix.{Summary}
use Rattle.roster_state.specs.Codes.{code_of, fits_sizes, sizes_of}
use Rattle.roster_state.specs.Transition.{end_cost_of, with_assignments}
use Rattle.roster_state.proofs.CodeLemmas.{place-fits}
use Rattle.roster_offers.specs.Offers.{end_cost_at}
use Rattle.roster_lanes.specs.Lanes.{SameOutside}
use Rattle.roster_tables.specs.Tables.{best_at_end, label_of}
use Rattle.roster_tables.proofs.labels.label_block_end.Goals as goal

-- ---- one more place of a block is set

module _ (code place at value : ℕ) (cells : List ℕ) (at_is : at ≡ code + place) (inside : at < length cells) where
  place_more : (right : ℕ → ℕ) → value ≡ right place → ((a : ℕ) → a < place → get_or cells (code + a) 0 ≡ right a) → (a : ℕ) → a < place + 1 → get_or (slice_set cells at value) (code + a) 0 ≡ right a
  place_more right here before a below = go (cases_lt a place)
    where
      go : (a < place) ⊎ (place ≤ a) → get_or (slice_set cells at value) (code + a) 0 ≡ right a
      go (inl low) = get_or-set_other cells at (code + a) value 0 (λ e. omega (arith, e, at_is, low)) ∙ before a low
      go (inr past) =
          let same : a ≡ place = omega (arith, past, below) in
          let index : code + a ≡ at = omega (arith, same, at_is) in
          ap (λ j. get_or (slice_set cells at value) j 0) index ∙ get_or-set_same cells at value 0 inside ∙ here ∙ ap right (sym same)

  place_outside : (size : ℕ) (old : List ℕ) → place < size → SameOutside code (code + size) old cells → SameOutside code (code + size) old (slice_set cells at value)
  place_outside size old in_block same = record {
    before = λ j h. get_or-set_other cells at j value 0 (λ e. omega (arith, e, at_is, h)) ∙ same.before j h;
    after = λ j h. get_or-set_other cells at j value 0 (λ e. omega (arith, e, at_is, h, in_block)) ∙ same.after j h;
  }

pub end_cost-requires-clause-fits : goal.end_cost-requires-clause-fits
end_cost-requires-clause-fits c =
    let days = c.args.days.now in
    let inside : c.loop-place.place < days.ranges.assignments = omega (arith, c.loop-place-test.true, c.places-place-end.ensures.places) in
    subst (λ (s : Summary). fits_sizes (sizes_of days.search.case.now days.search.nurse) s ≡ true) (sym c.state.ensures)
    (subst (λ z. fits_sizes z (with_assignments c.args.block c.loop-place.place) ≡ true) days.own_ranges (place-fits days.ranges c.args.block c.loop-place.place inside c.requires.fits))

-- the end's cost in parts of a point
pub overflow_mul-labels : goal.overflow_mul-labels
overflow_mul-labels c =
    omega (arith, mul-le c.args.days.now.search.scale c.end_cost.result 128 19980 c.args.days.now.search.in_scale.few c.end_cost.ensures.within)

pub bounds-labels-code : goal.bounds-labels-code
bounds-labels-code c =
    omega (arith, c.first-code.ensures.within, c.loop-place-test.true, c.places-place-end.ensures.places, c.requires.capacity, c.loop-place.invariant.outside.length_stays)

pub loop-place-preserved : goal.loop-place-preserved
loop-place-preserved c =
    let days = c.args.days.now in
    let k = days.search.case.now in
    let n = days.search.nurse in
    let block = c.args.block in
    let place = c.loop-place.place in
    let labels = c.loop-place.labels in
    let code = code_of days.ranges block in
    let at = c.first-code.result + place in
    let scale = days.search.scale in
    let value = scale * c.end_cost.result in
    let old = c.loop-place.invariant in
    let at_is : at ≡ code + place = omega (arith, c.first-code.ensures.first) in
    let in_block : place < days.ranges.assignments = omega (arith, c.loop-place-test.true, c.places-place-end.ensures.places) in
    let inside : at < length labels = omega (arith, c.first-code.ensures.within, in_block, c.requires.capacity, old.outside.length_stays) in
    let cost : value ≡ end_cost_at k n scale (with_assignments block place) = ap (λ m. scale * m) (c.end_cost.ensures.cost ∙ ap (end_cost_of k n) c.state.ensures) in
    let most = mul-le scale c.end_cost.result 128 19980 days.search.in_scale.few c.end_cost.ensures.within in
    let here : value ≡ label_of (best_at_end k n scale (with_assignments block place)) = omega (arith, cost, most) in
    record {
      labels = place_more code place at value labels at_is inside (λ a. label_of (best_at_end k n scale (with_assignments block a))) here old.labels;
      outside = record { others = place_outside code place at value labels at_is inside days.ranges.assignments c.args.labels.now in_block old.outside.others; length_stays = length-set labels at value ∙ old.outside.length_stays };
    }

pub returns-clause-labels : goal.returns-clause-labels
returns-clause-labels c a inside = c.loop-place.invariant.labels a (omega (arith, inside, c.loop-place-test.false, c.places-place-end.ensures.places))
