use Rattle.std.proofs.Common.{◌∙◌, ap, map, slice_set, Vec, Global}
use Rattle.std.proofs.lemmas.List.{map-set}
use Rattle.roster_instance.specs.declared.choice.Choice.{Choice}
use Rattle.roster_instance.specs.Rosters.{Row, Rows}
use Rattle.roster_instance.proofs.roster.Roster.put_row.Goals as goal

pub returns : goal.returns
returns c =
    map-set (λ (row : Vec Choice Global). row.items) c.self.inside.rows.items c.args.nurse c.copy_from_slice.new.self
    ∙ ap (λ (row : Row). slice_set (map (λ (own : Vec Choice Global). own.items) c.self.inside.rows.items) c.args.nurse row) c.copy_from_slice.ensures.items
    ∙ ap (λ (rows : Rows). slice_set rows c.args.nurse c.args.row.now) c.self.view_is
