-- The parts before are written.
use Rattle.std.specs.Str.Chunks.{utf8_chunks_rest}
use Rattle.std.specs.Str.Lossy.{utf8_lossy}
use Rattle.roster_json.proofs.Shapes.{PartsWritten}
use Rattle.roster_json.proofs.strings.write_lossy.Given as goal

abbrev pub invariant-loop-chunk : goal.invariant-loop-chunk
invariant-loop-chunk g l = PartsWritten g.W.Write.contents l.initial.out l.out (utf8_lossy l.fn.name) (utf8_lossy (utf8_chunks_rest l.chunk-iterator))
