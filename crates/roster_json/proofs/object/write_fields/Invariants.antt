-- The fields before this one are written.
use Rattle.std.proofs.Common.{flat_map, take}
use Rattle.roster_text.specs.Io.{Writes}
use Rattle.roster_json.specs.Json.{member_of, next_text}
use Rattle.roster_json.proofs.object.write_fields.Given as goal

abbrev pub invariant-loop-field : goal.invariant-loop-field
invariant-loop-field g l = Writes g.W.Write.contents l.initial.out l.out (flat_map (λ field. next_text (member_of field)) (take l.field-index l.fields))
