use Rattle.std.proofs.Common.{◌≡◌, ◌<◌, arith, length, rules}
use Rattle.roster_input.proofs.JoinedLemmas.{ended}
use Rattle.roster_input.proofs.joined.JoinedRead.read.Goals as goal

pub returns-clause-bytes : goal.returns-clause-bytes
returns-clause-bytes g c =
    let read = c.in_ok-taken.ensures.called in
    let none : c.in_ok-taken.taken ≡ 0 = omega arith in
    let room : 0 < length c.read_first.new.buf = search rules in (
      ended g.R.Read.remaining c.args.self.now.readers c.read_first.new.self.readers c.leave_first.new.self.readers read.first read.first_left read.rest c.read_first.result c.in_ok-taken.taken c.read_first.new.buf
          read.before read.after c.leave_first.ensures.readers c.in_ok-taken.was none room (search (rules, read.called)),
      λ one. absurd (omega (arith, one)),
    )
