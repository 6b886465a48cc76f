use Rattle.std.specs.Str.Chunks.{utf8_chunks_rest}
use Rattle.std.specs.Str.Lossy.{utf8_lossy}
use Rattle.roster_json.proofs.Shapes.{parts_all, parts_more, parts_stop}
use Rattle.roster_json.proofs.Writing.{OnErr-always}
use Rattle.roster_json.proofs.strings.write_lossy.Goals as goal

pub loop-chunk-preserved : goal.loop-chunk-preserved
loop-chunk-preserved g c =
    let steps = c.in-Some.ensures.steps in
    parts_more g.W.Write.contents c.args.out.now c.loop-chunk.out (utf8_lossy c.args.name.now) (utf8_chunks_rest c.loop-chunk.chunk-iterator) c.loop-chunk.invariant
    c.write_chunk.new.out c.in-Some.chunk (utf8_chunks_rest c.next.new.self) steps.0 steps.2 steps.3 c.in_ok-write_chunk.ensures.ok

pub returns-in_err-write_chunk-clause-err : goal.returns-in_err-write_chunk-clause-err
returns-in_err-write_chunk-clause-err g c =
    let steps = c.in-Some.ensures.steps in
    OnErr-always c.from_residual.result _
    (parts_stop g.W.Write.contents c.args.out.now c.loop-chunk.out (utf8_lossy c.args.name.now) (utf8_chunks_rest c.loop-chunk.chunk-iterator) c.loop-chunk.invariant
    c.write_chunk.new.out c.in-Some.chunk (utf8_chunks_rest c.next.new.self) steps.0 steps.2 steps.3 c.in_err-write_chunk.ensures.err)

pub returns-clause-ok : goal.returns-clause-ok
returns-clause-ok g c =
    parts_all g.W.Write.contents c.args.out.now c.loop-chunk.out (utf8_lossy c.args.name.now) (utf8_chunks_rest c.loop-chunk.chunk-iterator) c.loop-chunk.invariant c.in-None.ensures.steps.0
