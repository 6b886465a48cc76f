use Rattle.std.proofs.Common.{◌∙◌, ◌*◌, ap, sym, length, replicate, None}
use Rattle.roster_instance.specs.Bundles.{index_of_line, work_meant}
use Rattle.roster_instance.proofs.TableLemmas.{table-empty}
use Rattle.roster_instance.proofs.roster.table_of.Goals as goal

pub add_all-requires : goal.add_all-requires
add_all-requires c =
    let names = c.args.scenario.now in
    c.in_ok-new.ensures ∙ ap (λ n. replicate {A = _} (7 * n) None) c.len.ensures
    ∙ sym (table-empty (index_of_line c.args.source.now names.nurses) (work_meant c.args.source.now names.shifts names.skills) (7 * length names.nurses))
