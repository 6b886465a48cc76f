use Rattle.roster_json.specs.Json.{escaped}
use Rattle.roster_json.proofs.Writing.{OnErr-always, items_stop}
use Rattle.roster_json.proofs.strings.write_escaped.Goals as goal

pub returns-in_err-write_byte-clause-err : goal.returns-in_err-write_byte-clause-err
returns-in_err-write_byte-clause-err g c =
    OnErr-always c.from_residual.result _ (items_stop _ _ _ _ escaped _ _ _ c.loop-byte-test.true c.loop-byte.invariant c.in_err-write_byte.ensures.err)
