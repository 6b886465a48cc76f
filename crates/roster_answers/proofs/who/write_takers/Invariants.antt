use Rattle.std.specs.Prelude.{flat_map, take}
use Rattle.roster_text.specs.Io.{Writes}
use Rattle.roster_answers.specs.Answer.{who_line}
use Rattle.roster_answers.proofs.who.write_takers.Given as goal

abbrev pub invariant-loop-index : goal.invariant-loop-index
invariant-loop-index g l = Writes g.Out.Write.contents l.initial.output l.output (flat_map (who_line l.case l.json l.takers.missed) (take l.index l.takers.listed.items))
