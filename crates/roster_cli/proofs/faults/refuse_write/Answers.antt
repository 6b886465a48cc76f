use Rattle.std.proofs.Common.{◌++◌, codes, subst}
use Rattle.roster_answers.specs.Answer.{Logs}
use Rattle.roster_cli.proofs.faults.refuse_write.Goals as goal

pub returns-in-Some-clause-line : goal.returns-in-Some-clause-line
returns-in-Some-clause-line g c = rw c.in-Some.is (subst (λ path. Logs g.Log.Write.contents c.args.log.now c.refuse_path.new.log (path ++ codes ": write failed\n")) c.as_str.ensures.value c.refuse_path.ensures)
