use Rattle.std.proofs.Common.{◌∙◌, ◌++◌, ◌∷◌, [], ap, ap₂, arith, map, sym, Vec, Global}
use Rattle.std.proofs.lemmas.List.{map_push}
use Rattle.std.proofs.lemmas.List.FromFn.{map-range_with_len_more}
use Rattle.roster_instance.specs.Bundles.{row_meant}
use Rattle.roster_instance.specs.Rosters.{Row}
use Rattle.roster_instance.specs.declared.choice.Choice.{Choice}
use Rattle.roster_instance.proofs.roster.rows_of.Goals as goal

abbrev items_of : Vec Choice Global → Row
items_of row = row.items

pub loop-nurse-preserved : goal.loop-nurse-preserved
loop-nurse-preserved c =
    let nurse = c.loop-nurse.nurse in
    ap (map items_of) c.in_ok-push.ensures.items ∙ map_push items_of c.loop-nurse.rows.items c.in_ok-row_of.field-0
    ∙ ap₂ (λ rows row. rows ++ row ∷ []) c.loop-nurse.invariant c.in_ok-row_of.ensures
    ∙ sym (map-range_with_len_more (row_meant c.args.tables.now) 0 nurse nurse (omega arith))
