use Rattle.std.proofs.Common.{◌≡◌, ◌-◌}
use Rattle.roster_text.specs.Reading.{times_at}
use Rattle.roster_text.proofs.Loops.{with_front}
use Rattle.roster_text.proofs.parser.Parser.times.Given as goal

abbrev pub invariant-loop : goal.invariant-loop
invariant-loop g l = with_front l.items.items (times_at g.T.Parse.read (l.count - l.counter) l.self) ≡ times_at g.T.Parse.read l.count l.fn.self
