use Rattle.std.proofs.Common.{ap}
use Rattle.std.specs.Io.Buffered.{writer_buffer, writer_contents}
use Rattle.roster_cli.proofs.StartLemmas.{done_once_flushed, fails_to_send, stops_over}
use Rattle.roster_cli.proofs.start.run_and_flush.Goals as goal

pub returns-then-status-ne0-clause-ends : goal.returns-then-status-ne0-clause-ends
returns-then-status-ne0-clause-ends g c = record {
  done = λ zero. absurd (c.if-status-ne0.true zero);
  stopped = λ some.
      stops_over (writer_contents g.Out.Write.contents) writer_buffer g.Log.Write.contents c.args.request.now g.In.Read.remaining
      c.new-input.result c.run_saving-status.new.input c.new-watched.result c.run_saving-status.new.output c.args.log.now c.run_saving-status.new.log
      c.args.input c.args.output c.into_inner-output.result c.run_saving-status.result
      (c.run_saving-status.ensures.refused some) c.new-input.ensures c.new-watched.ensures c.into_inner-output.ensures;
}

pub returns-clause-ends : goal.returns-clause-ends
returns-clause-ends g c = record {
  done = λ zero.
      let sent = c.flush.ensures.sent zero in
      done_once_flushed (writer_contents g.Out.Write.contents) writer_buffer g.Log.Write.contents c.args.request.now g.In.Read.remaining
      c.new-input.result c.run_saving-status.new.input c.new-watched.result c.run_saving-status.new.output c.args.log.now c.run_saving-status.new.log
      c.args.input c.args.output c.into_inner-output.result c.flush.result.1 c.flush.new.log
      (c.run_saving-status.ensures.done c.if-status-ne0.false) (c.run_saving-status.ensures.silent c.if-status-ne0.false)
      (ap (λ w. w.inner) c.new-input.ensures) (ap (λ w. w.inner) c.new-watched.ensures) c.into_inner-output.ensures
      c.flush.ensures.bytes sent.0 sent.1;
  stopped = λ some.
      let failed = c.flush.ensures.failed some in
      fails_to_send (writer_contents g.Out.Write.contents) writer_buffer g.Log.Write.contents c.args.request.now g.In.Read.remaining
      c.new-input.result c.run_saving-status.new.input c.new-watched.result c.run_saving-status.new.output c.args.log.now c.run_saving-status.new.log
      c.args.input c.args.output c.into_inner-output.result c.flush.result.1 c.flush.new.log c.flush.result.0
      (c.run_saving-status.ensures.done c.if-status-ne0.false) c.new-input.ensures c.new-watched.ensures c.into_inner-output.ensures
      c.flush.ensures.bytes failed.0 failed.1;
}
