use Rattle.std.proofs.Common.{◌≡◌, ◌∙◌, ◌+◌, ◌<◌, ◌≤◌, List, [], arith, length, refl, slice_set, subst, sym}
use Rattle.std.proofs.Math.Path.{transport}
use Rattle.std.proofs.lemmas.Grind.{get_or-set_at}
use Rattle.std.proofs.lemmas.List.{length-set}
use Rattle.std.specs.List.{All}
use Rattle.roster_rules.specs.Prefix.{summary_of}
use Rattle.roster_state.specs.declared.state_box.StateBox.{StateBox}
use Rattle.roster_state.specs.Codes.{shift_digit}
use Rattle.roster_state.proofs.CodeLemmas.{fits-all}
use Rattle.roster_offers.specs.Lists.{offers_on}
use Rattle.roster_tables.specs.Counts.{states_on}
use Rattle.roster_tables.specs.Search.{boxes_on}
use Rattle.roster_tables.specs.Tables.{LeadsOn, IsReachable}
use Rattle.roster_tables.proofs.SearchLaws.{boxes_read, day_kept, lead_more}
use Rattle.roster_tables.proofs.MostLaws.{one_reachable}
use Rattle.roster_tables.proofs.reachable.find_boxes.Goals as goal

pub boxes_of-requires : goal.boxes_of-requires
boxes_of-requires c = omega (arith, (fits-all _ c.start-state.result.0 c.start-state.ensures.fits).last, c.keeps_limits.ensures.shifts)

pub loop-day-init : goal.loop-day-init
loop-day-init c =
    let k = c.args.search.now.case.now in
    let n = c.args.search.now.nurse in
    let state = c.start-state.result.0 in
    let boxes_known = c.boxes_of.ensures in
    let here : boxes_on (slice_set c.args.boxes.now.days 0 c.boxes_of.result) 0 ≡ c.boxes_of.result = get_or-set_at c.args.boxes.now.days 0 0 c.boxes_of.result [] refl (omega arith) in
    let reachable : IsReachable k n c.boxes_of.result state = record { fits = c.start-state.ensures.fits; can_be = c.start-state.ensures.can_be; inside = boxes_known.inside } in
    record {
      start = transport (λ i. IsReachable k n (sym here i) (c.start-state.ensures.state i)) reachable;
      first = subst (λ (x : List StateBox). states_on k n x ≤ 1) (sym here) (one_reachable k n c.boxes_of.result (shift_digit state.last) state boxes_known.alone boxes_known.others);
      lead = λ day below. absurd (omega (arith, below));
      length = length-set c.args.boxes.now.days 0 c.boxes_of.result;
    }

pub loop-day-preserved : goal.loop-day-preserved
loop-day-preserved c =
    let k = c.args.search.now.case.now in
    let table = offers_on c.args.search.now.offers.now in
    let n = c.args.search.now.nurse in
    let day = c.loop-day.day in
    let old = c.loop-day.invariant in
    let inside : day + 1 < length c.loop-day.boxes.days = omega (arith, c.loop-day-test.true, c.days-day-end.ensures.count, old.length) in
    let read = boxes_read c.loop-day.boxes.days day _ (omega (arith, inside)) in
    let here = transport (λ i. All (LeadsOn k n day (read i) c.boxes_after.result) (table day)) c.boxes_after.ensures in
    record {
      start = subst (λ (x : _). IsReachable k n x (summary_of k n [])) (sym (day_kept k n table c.loop-day.boxes.days day inside c.boxes_after.result 0 (omega arith))) old.start;
      first = subst (λ (x : List StateBox). states_on k n x ≤ 1) (sym (day_kept k n table c.loop-day.boxes.days day inside c.boxes_after.result 0 (omega arith))) old.first;
      lead = lead_more k n table c.loop-day.boxes.days day inside c.boxes_after.result here old.lead;
      length = length-set c.loop-day.boxes.days (day + 1) c.boxes_after.result ∙ old.length;
    }

pub returns : goal.returns
returns c =
    let old = c.loop-day.invariant in
    let all = c.days-day-end.ensures.count in
    record {
      are_reachable = record {
        start = old.start;
        first = old.first;
        lead = λ day within. old.lead day (omega (arith, within, all, c.loop-day-test.false));
        long = omega (arith, old.length, all, c.days-day-end.ensures.within);
      };
    }
