use Rattle.std.proofs.Common.{◌∙◌, ◌<◌, flat_map, length, rules, subst}
use Rattle.std.specs.Prelude.{OnErr}
use Rattle.roster_text.specs.Io.{Stops}
use Rattle.roster_json.specs.Json.{escaped}
use Rattle.roster_json.proofs.Shapes.{chunk_bytes}
use Rattle.roster_json.proofs.Writing.{last_err}
use Rattle.roster_json.proofs.strings.write_chunk.Goals as goal

pub returns-clause-err : goal.returns-clause-err
returns-clause-err g c =
    let contents = g.W.Write.contents in
    let some : 0 < length c.invalid.result.now = search rules in
    subst (λ text. OnErr c.write_escaped-2.result (Stops contents c.args.out.now c.write_escaped-2.new.out text))
    (chunk_bytes c.args.chunk.now c.as_bytes.result.now c.invalid.result.now c.as_bytes-2.result.now (c.as_bytes.ensures.value ∙ c.valid.ensures) c.invalid.ensures some c.as_bytes-2.ensures.value)
    (last_err contents _ _ _ (flat_map escaped c.as_bytes.result.now) c.in_ok-write_escaped.ensures.ok c.write_escaped-2.result (flat_map escaped c.as_bytes-2.result.now) c.write_escaped-2.ensures.err)
