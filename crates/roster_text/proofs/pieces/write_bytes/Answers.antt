use Rattle.std.proofs.Common.{rules, arith}
use Rattle.std.proofs.Math.Seq.{take-add}
use Rattle.std.proofs.lemmas.List.{take_rest}
use Rattle.std.proofs.lemmas.Grind.{common_steps}
use Rattle.roster_text.proofs.Texts.{Writes-append}
use Rattle.roster_text.proofs.pieces.write_bytes.Goals as goal

pub loop-sent-preserved : goal.loop-sent-preserved
loop-sent-preserved g c = record {
  within = search rules;
  written = rw take-add (Writes-append _ _ _ _ _ _ c.loop-sent.invariant.written (record {
    taken = rw take_rest at c.in-Ok.ensures.bytes;
    flushes = search rules;
    failures = grind (arith, common_steps, c.in-Ok.ensures.failures);
  }));
}
