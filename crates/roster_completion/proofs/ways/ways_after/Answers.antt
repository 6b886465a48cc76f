use Rattle.std.proofs.Common.{arith, below_more, refl}
use Rattle.roster_instance.specs.Choices.{shift_of}
use Rattle.roster_completion.specs.Lines.{IsWayAt, offer_on}
use Rattle.roster_completion.proofs.WayLaws.{none_open, way_kept}
use Rattle.roster_completion.proofs.ways.ways_after.Goals as goal

pub loop-index-init : goal.loop-index-init
loop-index-init c = record {
  each = λ k l. absurd (omega (arith, l));
  openings = none_open c.args.day.now 9;
  off = omega arith;
  stay = omega arith;
  few = omega arith;
  count = refl;
}

pub loop-index-preserved : goal.loop-index-preserved
loop-index-preserved c =
    let day = c.args.day.now in
    let so_far = c.loop-index.invariant in
    let more = c.add_way.ensures in
    record {
      each = below_more (IsWayAt day c.args.last c.add_way.new.ways) c.loop-index.index
          (λ k l. way_kept day c.args.last (offer_on day k) c.loop-index.ways c.add_way.new.ways (shift_of (offer_on day k).choice) more.lower.0 more.lower.1 more.more.0 more.others (so_far.each k l))
          more.way;
      openings = more.open;
      off = omega (arith, more.lower.0, so_far.off);
      stay = omega (arith, more.lower.1, so_far.stay);
      few = more.more.1;
      count = more.length;
    }
