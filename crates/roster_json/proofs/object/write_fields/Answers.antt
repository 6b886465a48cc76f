use Rattle.roster_json.specs.Json.{member_of, next_text}
use Rattle.roster_json.specs.declared.object.Field.{Field}
use Rattle.roster_json.proofs.Writing.{OnErr-always, items_stop}
use Rattle.roster_json.proofs.object.write_fields.Goals as goal

pub returns-in_err-write_field-clause-err : goal.returns-in_err-write_field-clause-err
returns-in_err-write_field-clause-err g c =
    OnErr-always c.from_residual.result _
    (items_stop _ _ _ _ (λ (field : Field). next_text (member_of field)) _ _ _ c.loop-field-test.true c.loop-field.invariant c.in_err-write_field.ensures.err)
