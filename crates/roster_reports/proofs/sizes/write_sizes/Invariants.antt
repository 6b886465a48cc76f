-- The lines of the nurses before this one are sent.
use Rattle.std.specs.Prelude.{flat_map}
use Rattle.std.specs.List.{range_with_len}
use Rattle.roster_text.specs.Io.{Sends}
use Rattle.roster_reports.specs.Lines.{sizes_line}
use Rattle.roster_reports.proofs.sizes.write_sizes.Given as goal

abbrev pub invariant-loop-nurse : goal.invariant-loop-nurse
invariant-loop-nurse g l = Sends g.W.Write.contents l.initial.output l.output 0 l.sent (flat_map (sizes_line l.case) (range_with_len 0 l.nurse))
