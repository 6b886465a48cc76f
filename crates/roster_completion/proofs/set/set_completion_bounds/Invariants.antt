use Rattle.std.proofs.Common.{◌≡◌, ◌+◌, ◌*◌, ◌<◌, ◌≤◌, ℕ, length, slice_index_or}
use Rattle.roster_instance.specs.Counting.{sum_below}
use Rattle.roster_instance.specs.Meaning.{day_count}
use Rattle.roster_offers.specs.Lists.{offers_on}
use Rattle.roster_state.specs.Codes.{sizes_of}
use Rattle.roster_completion.specs.Bounds.{AreLowFrom}
use Rattle.roster_completion.specs.CompletionBounds.{LieUnder, completion_count, search_extensions}
use Rattle.roster_completion.proofs.set.set_completion_bounds.Given as goal

abbrev pub invariant-loop-day : goal.invariant-loop-day
invariant-loop-day l = record {
  set : (d : ℕ) → l.day ≤ d → d < day_count l.search.case.now → LieUnder l.search.case.now l.search.nurse l.search.scale l.fn.rates (offers_on l.search.offers.now) l.completion_bounds d;
  end : (k : ℕ) → k < l.count → slice_index_or l.completion_bounds (l.days * l.count + k) 0 ≡ 0;
  low : AreLowFrom (l.day * l.count) l.count l.completion_bounds;
  long : length l.completion_bounds ≡ length l.fn.completion_bounds;
  counted : l.meter + completion_count (sizes_of l.search.case.now l.search.nurse) * sum_below l.day (λ d. length (offers_on l.search.offers.now d)) ≡ l.fn.meter + search_extensions l.search;
}
