use Rattle.std.proofs.Common.{◌∙◌, sym, rules, tests, Vec, Global}
use Rattle.std.proofs.lemmas.Iterator.{YieldsList-from_slice}
use Rattle.std.proofs.lemmas.Iterator.Search.{all_from_yields_List}
use Rattle.std.proofs.lemmas.List.Folds.{list_all-map}
use Rattle.roster_instance.specs.declared.choice.Choice.{Choice}
use Rattle.roster_instance.specs.Rosters.{is_row_of}
use Rattle.roster_instance.proofs.roster.all_fit.Goals as goal

pub returns : goal.returns
returns c =
    let rows = c.args.rows.now in
    all_from_yields_List (λ (row : Vec Choice Global). is_row_of c.args.case.now row.items) _ _ c.all.result c.all.ensures.ran (YieldsList-from_slice rows cc) (λ x b q k. search (rules, tests))
    ∙ sym (list_all-map (is_row_of c.args.case.now) (λ (row : Vec Choice Global). row.items) rows)
