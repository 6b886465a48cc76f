-- The bytes before this one are written.
use Rattle.std.proofs.Common.{flat_map, take}
use Rattle.roster_text.specs.Io.{Writes}
use Rattle.roster_json.specs.Json.{escaped}
use Rattle.roster_json.proofs.strings.write_escaped.Given as goal

abbrev pub invariant-loop-byte : goal.invariant-loop-byte
invariant-loop-byte g l = Writes g.W.Write.contents l.initial.out l.out (flat_map escaped (take l.byte-index l.bytes))
