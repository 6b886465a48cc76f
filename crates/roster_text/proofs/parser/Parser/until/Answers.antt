use Rattle.std.proofs.Common.{◌≡◌, ◌<◌, true, false, suc, length, sym, arith}
use Rattle.std.proofs.lemmas.Result.{err_from_is_err_and}
use Rattle.roster_text.specs.Reading.{until_at, begins_section}
use Rattle.roster_text.proofs.Loops.{until_init, until_goes_on, until_stops, until_done, until_ends, tries, two_skips}
use Rattle.roster_text.proofs.parser.Parser.until.Goals as goal

pub loop-init : goal.loop-init
loop-init g c = rw c.new-items.ensures.items (until_init g.T.Parse.read c.args.keyword c.args.self.now)

pub returns-then-begins_section : goal.returns-then-begins_section
returns-then-begins_section g c =
    let ts = c.args.self.now in
    let lt : c.loop.counter < suc (length ts) = omega (arith, tries _ _ _ c.self.view_is) in
    let end : begins_section c.args.keyword c.loop.self ≡ true = sym c.if-begins_section.ensures in
    let done = until_done g.T.Parse.read c.args.keyword c.loop.items.items (suc (length ts)) c.loop.counter c.loop.self (until_at g.T.Parse.read c.args.keyword ts) lt end c.loop.invariant in
    rw (c.from_vec.ensures, c.skip-then-begins_section.ensures, c.skip.ensures, two_skips) done

pub returns-in_err-parse : goal.returns-in_err-parse
returns-in_err-parse g c =
    let ts = c.args.self.now in
    let lt : c.loop.counter < suc (length ts) = omega (arith, tries _ _ _ c.self.view_is) in
    let no_end : begins_section c.args.keyword c.loop.self ≡ false = sym c.if-begins_section.ensures in
    let p = err_from_is_err_and c.from_residual.result c.from_residual.ensures.1 in
    rw (p.1, p.2) (until_stops g.T.Parse.read c.args.keyword c.loop.items.items (suc (length ts)) c.loop.counter c.loop.self c.parse.new.parser c.in_err-parse.field-0.0 (until_at g.T.Parse.read c.args.keyword ts) lt no_end c.in_err-parse.ensures c.loop.invariant)

pub loop-preserved : goal.loop-preserved
loop-preserved g c =
    let ts = c.args.self.now in
    let lt : c.loop.counter < suc (length ts) = omega (arith, tries _ _ _ c.self.view_is) in
    let no_end : begins_section c.args.keyword c.loop.self ≡ false = sym c.if-begins_section.ensures in
    rw c.in_ok-push.ensures.items (until_goes_on g.T.Parse.read c.args.keyword c.loop.items.items (suc (length ts)) c.loop.counter c.loop.self c.in_ok-parse.field-0 c.parse.new.parser (until_at g.T.Parse.read c.args.keyword ts) lt no_end c.in_ok-parse.ensures c.loop.invariant)

pub returns : goal.returns
returns g c = until_ends g.T.Parse.read c.args.keyword c.loop.items.items (suc (length c.args.self.now)) c.loop.counter c.loop.self (until_at g.T.Parse.read c.args.keyword c.args.self.now) (omega (arith, tries _ _ _ c.self.view_is)) c.loop.invariant
