use Rattle.std.proofs.Common.{subst}
use Rattle.roster_out.specs.Writers.{IsUnwritten}
use Rattle.roster_cli.specs.Answer.{out_of}
use Rattle.roster_cli.proofs.OutLemmas.{at_path, not_put, put_in_place, put_under, stopped_in_temporary}
use Rattle.roster_cli.proofs.into_file.answer_at.Goals as goal

pub returns-then-status-ne0 : goal.returns-then-status-ne0
returns-then-status-ne0 g c = record {
  file = at_path _ (out_of c.args.request.now) c.args.place.now.path.now c.requires.named
      (stopped_in_temporary _ _ g.Log.Write.contents c.args.place.now.path.now c.args.log.now c.requires.temporary.0 c.in-Ok.writer (subst (λ n. IsUnwritten n c.in-Ok.writer) c.requires.temporary.1 c.in-Ok.ensures)
      c.answer_over-status.result.1 c.answer_over-status.result.0 c.answer_over-status.new.log c.answer_over-status.ensures c.if-status-ne0.true);
}

pub returns-then-put_last : goal.returns-then-put_last
returns-then-put_last g c = record {
  file = at_path _ (out_of c.args.request.now) c.args.place.now.path.now c.requires.named
      (put_in_place _ _ g.Log.Write.contents c.args.place.now.path.now c.args.log.now c.requires.temporary.0 c.in-Ok.writer (subst (λ n. IsUnwritten n c.in-Ok.writer) c.requires.temporary.1 c.in-Ok.ensures)
      c.answer_over-status.result.1 c.answer_over-status.result.0 c.answer_over-status.new.log c.answer_over-status.ensures c.if-status-ne0.false
      (put_under _ _ _ c.answer_over-status.result.1 c.requires.temporary.1 (c.put_last.ensures c.if-put_last.true)));
}

pub returns : goal.returns
returns g c = record {
  file = at_path _ (out_of c.args.request.now) c.args.place.now.path.now c.requires.named
      (not_put _ _ g.Log.Write.contents c.args.place.now.path.now c.args.log.now c.requires.temporary.0 c.in-Ok.writer (subst (λ n. IsUnwritten n c.in-Ok.writer) c.requires.temporary.1 c.in-Ok.ensures)
      c.answer_over-status.result.1 c.answer_over-status.result.0 c.answer_over-status.new.log c.answer_over-status.ensures c.if-status-ne0.false
      (out_of c.args.request.now) c.requires.named _ c.refuse_write-2.new.log c.refuse_write-2.ensures.status c.refuse_write-2.ensures.line);
}
