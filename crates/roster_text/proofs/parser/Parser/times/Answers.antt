use Rattle.std.proofs.lemmas.Result.{err_from_is_err_and}
use Rattle.roster_text.specs.Reading.{times_at}
use Rattle.roster_text.proofs.Loops.{times_goes_on, times_stops, times_done}
use Rattle.roster_text.proofs.parser.Parser.times.Goals as goal

pub returns-in_err-parse : goal.returns-in_err-parse
returns-in_err-parse g c =
    let p = err_from_is_err_and c.from_residual-in_err-parse.result c.from_residual-in_err-parse.ensures.1 in
    rw (p.1, p.2) (times_stops g.T.Parse.read c.loop.items.items c.args.count c.loop.counter c.loop.self c.parse.new.parser c.in_err-parse.field-0.0 (times_at g.T.Parse.read c.args.count c.args.self.now) c.loop-test.true c.in_err-parse.ensures c.loop.invariant)

pub loop-preserved : goal.loop-preserved
loop-preserved g c = rw c.in_ok-push.ensures.items (times_goes_on g.T.Parse.read c.loop.items.items c.args.count c.loop.counter c.loop.self c.in_ok-parse.field-0 c.parse.new.parser (times_at g.T.Parse.read c.args.count c.args.self.now) c.loop-test.true c.in_ok-parse.ensures c.loop.invariant)

pub returns : goal.returns
returns g c = rw c.from_vec.ensures (times_done g.T.Parse.read c.loop.items.items c.args.count c.loop.counter c.loop.self (times_at g.T.Parse.read c.args.count c.args.self.now) c.loop-test.false c.loop.invariant)
