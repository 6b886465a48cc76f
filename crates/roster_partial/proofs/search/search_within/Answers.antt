use Rattle.std.proofs.Common.{◌≡◌, ◌+◌, ◌≤◌, None, arith, subst, take, ℕ}
use Rattle.roster_offers.specs.Lists.{IsFound}
use Rattle.roster_offers.specs.declared.lists.SearchInput.{SearchInput}
use Rattle.roster_partial.specs.declared.all_days.Within.TheVariants.{Dearer, Found, Full}
use Rattle.roster_partial.specs.Rows.{within}
use Rattle.roster_partial.specs.Searches.{IsFull, best_in, days_in}
use Rattle.roster_partial.proofs.search.search_within.Goals as goal

pub returns : goal.returns
returns c =
    let row = c.row_within.new.row in
    record {
      best = subst (λ (s : SearchInput). (cost : ℕ) → c.row_within.result ≡ Found cost → IsFound (best_in s) cost (take (days_in s) row)) c.of.ensures.search c.row_within.ensures.best;
      below = c.row_within.ensures.below;
      full = subst (λ (n : ℕ). c.row_within.result ≡ Full → IsFull n c.args.bounded.now.last_count c.row_within.new.rows c.row_within.new.meter) c.min.ensures c.row_within.ensures.full;
      dearer = subst (λ (s : SearchInput). c.row_within.result ≡ Dearer → within c.args.attempt.now.limit (best_in s) ≡ None) c.of.ensures.search c.row_within.ensures.dearer;
      each_day = subst (λ (s : SearchInput). (cost : ℕ) → c.row_within.result ≡ Found cost → c.args.meter.now + days_in s ≤ c.row_within.new.meter) c.of.ensures.search c.row_within.ensures.each_day;
      counted = c.row_within.ensures.counted;
      brief = omega (arith, c.row_within.ensures.brief, c.min.ensures);
      length = c.row_within.ensures.length;
    }
