-- The lines of the nurses before this one are written.
use Rattle.std.specs.Prelude.{flat_map}
use Rattle.std.specs.List.{range_with_len}
use Rattle.roster_text.specs.Io.{Writes}
use Rattle.roster_json.specs.Reports.{size_line}
use Rattle.roster_json.proofs.sizes.write_json_sizes.Given as goal

abbrev pub invariant-loop-nurse : goal.invariant-loop-nurse
invariant-loop-nurse g l = Writes g.W.Write.contents l.initial.out l.out (flat_map (size_line l.case) (range_with_len 0 l.nurse))
