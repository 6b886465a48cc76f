use Rattle.std.proofs.Common.{◌≡◌, ◌∙◌, ◌/◌, ◌%◌, ◌+◌, ◌*◌, ◌++◌, ◌∷◌, [], ap, ap₂, sym, arith, unwrap_or, get_or, Option, None}
use Rattle.std.proofs.lemmas.List.{get_or_read}
use Rattle.std.proofs.lemmas.List.FromFn.{map-range_with_len_more}
use Rattle.roster_instance.specs.declared.choice.Choice.{Choice}
use Rattle.roster_instance.specs.declared.choice.Choice.TheVariants.{Off}
use Rattle.roster_instance.specs.Bundles.{choice_meant}
use Rattle.roster_instance.proofs.roster.row_of.Goals as goal
use Rattle.roster_instance.proofs.roster.row_of.Goals.{in-Some, in-None}

pub loop-day-preserved : goal.loop-day-preserved
loop-day-preserved c =
    let tables = c.args.tables.now in
    let nurse = c.args.nurse in
    let day = c.loop-day.day in
    let says = choice_meant tables nurse in
    let table = get_or_read tables (day / 7) c.index-tables-day.result (omega arith) c.index-tables-day.is [] in
    let cell = c.get.ensures ∙ ap (λ cells. get_or cells (7 * nurse + day % 7) None) table in
    let choice : c.match-get.choice ≡ says day = elim c.match-get.branch [
      | in-Some w ↦ w.choice-is ∙ ap (λ (o : Option Choice). unwrap_or o Off) (sym w.in-Some.is ∙ cell)
      | in-None w ↦ w.choice-is ∙ ap (λ (o : Option Choice). unwrap_or o Off) (sym w.in-None.is ∙ cell)
    ] in
    c.in_ok-push.ensures.items ∙ ap₂ (λ cs x. cs ++ x ∷ []) c.loop-day.invariant choice ∙ sym (map-range_with_len_more says 0 day day (omega arith))
