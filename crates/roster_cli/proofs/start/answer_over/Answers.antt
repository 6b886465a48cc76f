use Rattle.std.proofs.Common.{inl, inr, map, string_bytes, subst}
use Rattle.roster_cli.proofs.StartLemmas.{some_files}
use Rattle.std.specs.Io.Buffered.{writer_buffer, writer_contents}
use Rattle.roster_input.specs.JoinedBytes.{Left, joined_bytes}
use Rattle.roster_cli.specs.Start.{EndsOver, OpensAll}
use Rattle.roster_cli.proofs.start.answer_over.Goals as goal

pub returns-in-Ok : goal.returns-in-Ok
returns-in-Ok g c =
    inr (
      some_files _ c.if-is_empty.ensures,
      inl (record { files = c.in-Ok.files.items; files_are = subst (λ ps. OpensAll g.F.FnMut c.args.opener.now (map string_bytes ps) c.in-Ok.files.items c.open_all.new.opener) c.deref.ensures.value c.in-Ok.ensures.opened; ends = subst (λ (j : Left g.row.File.Denot). EndsOver (λ (left : Left g.row.File.Denot). joined_bytes g.File.Read.remaining left.readers) (writer_contents g.Out.Write.contents) writer_buffer g.Log.Write.contents c.args.request.now j c.run_and_flush-in-Ok.result.0 c.args.output c.run_and_flush-in-Ok.result.1 c.args.log.now c.run_and_flush-in-Ok.new.log) c.new.ensures c.run_and_flush-in-Ok.ensures.ends }),
    )
