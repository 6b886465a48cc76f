use Rattle.std.proofs.Common.{arith, refl}
use Rattle.roster_text.proofs.StartLemmas.{counted}
use Rattle.roster_text.proofs.starts.starts_at.Goals as goal

pub returns : goal.returns
returns c = counted _ refl refl c.args.text.now c.args.at 64 c.requires.after_first c.requires.within (omega arith) c.marks-2.ensures c.separators-2.ensures c.marks.ensures c.separators.ensures
