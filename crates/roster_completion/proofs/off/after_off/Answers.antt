use Rattle.std.proofs.Common.{arith, below_more}
use Rattle.roster_instance.specs.Choices.{shift_of}
use Rattle.roster_completion.specs.Lines.{IsEntryAt, offer_on}
use Rattle.roster_completion.proofs.After.{entry_kept}
use Rattle.roster_completion.proofs.off.after_off.Goals as goal

pub loop-index-preserved : goal.loop-index-preserved
loop-index-preserved c =
    let day = c.args.day.now in
    let so_far = c.loop-index.invariant in
    let lower = c.add_entry.ensures.lower in
    record {
      entries = below_more (IsEntryAt day c.add_entry.new.after) c.loop-index.index
          (λ k l. entry_kept day c.loop-index.after c.add_entry.new.after (offer_on day k) (shift_of (offer_on day k).choice) lower.0 lower.1 (so_far.entries k l))
          c.add_entry.ensures.entry;
      off = omega (arith, lower.0, so_far.off);
      enter = omega (arith, lower.1, so_far.enter);
    }
