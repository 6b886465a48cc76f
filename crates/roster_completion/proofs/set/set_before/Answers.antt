use Rattle.std.proofs.Common.{◌≡◌, ◌+◌, ◌*◌, ◌≤◌, arith, length, subst, sym, take}
use Rattle.std.proofs.lemmas.List.{places}
use Rattle.roster_offers.specs.Lists.{offers_on}
use Rattle.roster_state.specs.CompletionLines.{most_completion_bound}
use Rattle.roster_completion.proofs.DayLaws.{day_set, set_next, set_part}
use Rattle.roster_completion.proofs.set.set_before.Goals as goal

pub returns-clause-under : goal.returns-clause-under
returns-clause-under c =
    let setting = c.args.setting.now in
    let first = c.args.day * setting.count in
    let before = c.split_at_mut-before.result.0.now in
    let after = c.split_at_mut-before.result.1.now in
    let here = c.set_day.new.here in
    let long : length before ≡ first + setting.count = c.split_at_mut-before.ensures.front_len in
    let part = c.set_day.ensures.set.length in
    let as_long : length here ≡ setting.count = grind (arith, places) in
    let next_long : length (take setting.count after) ≡ setting.count = grind (arith, places) in
    day_set (offers_on setting.search.offers.now) c.completion_day-open.ensures.of setting.count here _ c.set_day.ensures.under next_long
    (set_part first setting.count before here after long as_long) (set_next first setting.count before here after long as_long)

pub returns-clause-low : goal.returns-clause-low
returns-clause-low c k l =
    let setting = c.args.setting.now in
    let first = c.args.day * setting.count in
    let before = c.split_at_mut-before.result.0.now in
    let after = c.split_at_mut-before.result.1.now in
    let here = c.set_day.new.here in
    let long : length before ≡ first + setting.count = c.split_at_mut-before.ensures.front_len in
    let part = c.set_day.ensures.set.length in
    let as_long : length here ≡ setting.count = grind (arith, places) in
    subst (λ x. x ≤ most_completion_bound) (sym (set_part first setting.count before here after long as_long k l)) (c.set_day.ensures.set.low k)
