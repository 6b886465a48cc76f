use Rattle.std.proofs.Common.{◌∙◌, ◌<◌, arith, length, refl}
use Rattle.std.proofs.lemmas.List.{length-set}
use Rattle.roster_instance.specs.Choices.{shift_of}
use Rattle.roster_completion.specs.Lines.{IsOnward, IsOpenWay, no_onward, offer_on}
use Rattle.roster_completion.specs.declared.ways.Onward.{Onward}
use Rattle.roster_state.proofs.CompletionLines.{each_more}
use Rattle.roster_completion.proofs.WayLaws.{each_set, onward_open}
use Rattle.roster_completion.proofs.ways.onwards.Goals as goal

pub loop-index-init : goal.loop-index-init
loop-index-init c = record {
  count = refl;
  each = λ k l. absurd (omega (arith, l));
  openings = onward_open c.args.day.now 9;
}

pub loop-index-preserved : goal.loop-index-preserved
loop-index-preserved c =
    let day = c.args.day.now in
    let all = c.loop-index.all in
    let index = c.loop-index.index in
    let onward = c.of_offer.result in
    let so_far = c.loop-index.invariant in
    let inside : index < length all = omega (arith, so_far.count, day.few, c.loop-index-test.true) in
    record {
      count = length-set all index onward ∙ so_far.count;
      each = each_more no_onward (λ k (x : Onward). IsOnward day x (offer_on day k) (shift_of (offer_on day k).choice)) all index onward inside so_far.each c.of_offer.ensures.onward;
      openings = each_set Onward no_onward all index onward inside (λ (x : Onward). IsOpenWay day x.way) so_far.openings c.of_offer.ensures.open;
    }
