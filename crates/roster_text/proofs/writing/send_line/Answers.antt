use Rattle.roster_text.proofs.Lines.{line_text_is}
use Rattle.roster_text.proofs.writing.send_line.Goals as goal

pub returns-clause-ok : goal.returns-clause-ok
returns-clause-ok g c = rw (line_text_is c.args.nurse.now c.args.day.now c.args.shift.now c.args.skill.now) c.send_pieces.ensures.ok

pub returns-clause-err : goal.returns-clause-err
returns-clause-err g c = rw (line_text_is c.args.nurse.now c.args.day.now c.args.shift.now c.args.skill.now) c.send_pieces.ensures.err
