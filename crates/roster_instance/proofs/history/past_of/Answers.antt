use Rattle.std.proofs.Common.{◌∙◌, ap, None, replicate, sym}
use Rattle.roster_instance.proofs.HistoryLemmas.{no_lines}
use Rattle.roster_instance.proofs.history.past_of.Goals as goal

pub add_all-requires : goal.add_all-requires
add_all-requires c =
    let s = c.args.scenario.now in
    c.in_ok-new.ensures ∙ ap (λ n. replicate n None) c.len.ensures ∙ sym (no_lines c.args.source.now s.nurses s.shifts)
