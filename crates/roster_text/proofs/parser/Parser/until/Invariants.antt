use Rattle.std.proofs.Common.{◌≡◌, ◌-◌, suc, length}
use Rattle.roster_text.specs.Reading.{until_at, until_with}
use Rattle.roster_text.proofs.Loops.{with_front}
use Rattle.roster_text.proofs.parser.Parser.until.Given as goal

abbrev pub invariant-loop : goal.invariant-loop
invariant-loop g l = with_front l.items.items (until_with g.T.Parse.read l.keyword (suc (length l.fn.self) - l.counter) l.self) ≡ until_at g.T.Parse.read l.keyword l.fn.self
