use Rattle.std.proofs.Common.{◌∙◌, None, ap, replicate, sym}
use Rattle.roster_bundle.specs.declared.bundle.Succession.{Succession}
use Rattle.roster_instance.specs.Bundles.{numbers_among}
use Rattle.roster_instance.specs.Names.{found}
use Rattle.roster_instance.proofs.TableLemmas.{table-empty}
use Rattle.roster_instance.proofs.scenario.successions_of.Goals as goal

pub add_all-requires : goal.add_all-requires
add_all-requires c =
    let source = c.args.source.now in
    let shifts = c.args.shifts.now in
    c.in_ok-new.ensures ∙ ap (λ n. replicate n None) c.len.ensures ∙
    sym (table-empty (λ (l : Succession). found source shifts l.shift) (λ (l : Succession). numbers_among source shifts l.forbidden) _)
