use Rattle.std.proofs.Common.{◌≡◌, ◌∙◌, ◌+◌, ◌<◌, ◌≤◌, ◌⊎◌, ℕ, List, ap, arith, below_more, inl, inr, length, slice_index_or, sym}
use Rattle.std.specs.Prelude.{min}
use Rattle.std.proofs.lemmas.Bool.{cases_lt}
use Rattle.std.proofs.lemmas.List.{get_or_default}
use Rattle.roster_completion.specs.declared.ways.Way.{Way}
use Rattle.roster_completion.specs.Lines.{IsLeastWay, no_way, way_cost}
use Rattle.roster_completion.proofs.ways.least_way.Goals as goal

abbrev zero : Way
zero = record { price = 0; index = 0 }

least_met : (ways : List Way) (next : List ℕ) (more index before now : ℕ) → now ≡ min before (way_cost ways next more index) → IsLeastWay ways index next more before → IsLeastWay ways (index + 1) next more now
least_met ways next more index before now e met = go (cases_lt (way_cost ways next more index) before) met
  where
    go : (way_cost ways next more index < before) ⊎ (before ≤ way_cost ways next more index) → IsLeastWay ways index next more before → IsLeastWay ways (index + 1) next more now
    go (inl cheaper) earlier = inr (index, omega arith, omega (arith, e, cheaper))
    go (inr dearer) (inl none) = inl (omega (arith, e, dearer, none))
    go (inr dearer) (inr at) = inr (at.0, omega (arith, at.1), omega (arith, e, dearer, at.2))

pub loop-index-preserved : goal.loop-index-preserved
loop-index-preserved c =
    let ways = c.args.ways.now in
    let next = c.args.next.now in
    let index = c.loop-index.index in
    let old = c.loop-index.invariant in
    let inside : index < length ways.others = omega (arith, c.loop-index-test.true, c.requires.count) in
    let here : c.min-least.result ≡ min c.loop-index.least (way_cost ways.others next c.args.more index) =
    c.min-least.ensures ∙ ap (λ (w : Way). min c.loop-index.least (w.price + slice_index_or next (w.index + c.args.more) 0)) (sym (get_or_default ways.others index no_way zero inside)) in
    record {
      least = below_more (λ k. c.min-least.result ≤ way_cost ways.others next c.args.more k) index (λ k l. omega (arith, here, old.least k l)) (omega (arith, here));
      met = least_met ways.others next c.args.more index c.loop-index.least c.min-least.result here old.met;
      within = omega (arith, here, old.within);
    }
