use Rattle.std.proofs.Common.{◌∙◌, inl, string_bytes}
use Rattle.std.specs.Io.Buffered.{writer_buffer, writer_contents}
use Rattle.std.proofs.lemmas.List.{length-map}
use Rattle.roster_cli.specs.Answer.{out_of}
use Rattle.roster_cli.proofs.StartLemmas.{ends_away, ends_less, goes, opens_count, some_out, some_path}
use Rattle.roster_cli.proofs.start.answer_words.Goals as goal

pub returns-in-Ok : goal.returns-in-Ok
returns-in-Ok g c = record {
  answers = inl (record {
    request = c.in-Ok.request;
    asked = c.in-Ok.ensures.request;
    ends = goes (out_of c.in-Ok.request)
        (λ none. ends_less _ _ _ g.In.Read.remaining g.R.File.Read.remaining (writer_contents g.Out.Write.contents) writer_buffer g.Log.Write.contents c.in-Ok.request c.args.input _ c.args.output _ c.args.log.now _
        (λ files are. opens_count _ _ _ files _ are ∙ length-map c.in-Ok.request.files.items string_bytes) (c.answer_request.ensures.output none))
        c.answer_request.ensures.file
        (λ path is ended. record {
          same = some_out c.in-Ok.request.out path is c.answer_request.ensures.apart;
          spared = λ named. (some_path _ (out_of c.in-Ok.request) path is c.answer_request.ensures.inputs named).1;
          done = λ zero. let file = ended.done zero in ends_away _ _ _ _ _ _ _ c.in-Ok.request _ _ _ _ _ file.ended;
        });
  });
}
