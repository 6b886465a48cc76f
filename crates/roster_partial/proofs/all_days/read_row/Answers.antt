use Rattle.std.proofs.Common.{◌≡◌, ◌∙◌, ◌-◌, ◌<◌, ◌≤◌, arith, length, refl, slice_set, subst, suc, sym}
use Rattle.std.proofs.Math.Path.{transport}
use Rattle.std.proofs.lemmas.List.{length-set}
use Rattle.roster_instance.specs.Meaning.{day_count}
use Rattle.roster_offers.proofs.ListLaws.{offers_read}
use Rattle.roster_partial.specs.Rows.{entry_numbered, offer_numbered, rows_in}
use Rattle.roster_partial.specs.Searches.{offered}
use Rattle.roster_partial.proofs.DaysLaws.{IsReadFrom, read_before}
use Rattle.roster_partial.proofs.RowCells.{length-rows_in}
use Rattle.roster_partial.proofs.all_days.read_row.Goals as goal

pub loop-day-preserved : goal.loop-day-preserved
loop-day-preserved c =
    let search = c.args.search.now in
    let k = search.case.now in
    let offers = offered search in
    let rows = rows_in c.args.rows.now in
    let last = entry_numbered rows c.args.last in
    let day = c.loop-day.day - 1 in
    let e = entry_numbered rows c.loop-day.index in
    let i = c.loop-day.invariant in
    let within : day < day_count k = omega (arith, c.loop-day.auto.day, c.loop-day-test.true, c.days-day.ensures.count) in
    let again : c.loop-day.day ≡ suc day = omega (arith, c.loop-day-test.true) in
    let here = subst (λ d. IsReadFrom offers rows (day_count k) last d e c.loop-day.row) again i.read in
    let long : day_count k ≤ length c.loop-day.row = omega (arith, i.length, c.requires.row_capacity) in
    let of_day : c.deref.result.now ≡ offers day = c.deref.ensures.0 ∙ offers_read k search.nurse search.offers.now search.for_nurse day within _ c.index-search-day.result refl in
    let before : e.before ≡ c.link_at-link.result.before = sym (c.link_at-link.ensures.before) in
    let offer : e.offer ≡ c.link_at-link.result.offer = sym (c.link_at-link.ensures.offer) in
    record {
      read = transport (λ j. IsReadFrom offers rows (day_count k) last day (entry_numbered rows (before j)) (slice_set c.loop-day.row day (offer_numbered (sym of_day j) (offer j)).choice)) (read_before offers rows (day_count k) last day e c.loop-day.row within long here);
      inside = omega (arith, here.linked.0, before, length-rows_in c.args.rows.now);
      length = length-set c.loop-day.row day _ ∙ i.length;
    }
