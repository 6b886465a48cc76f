use Rattle.std.proofs.Common.{refl}
use Rattle.roster_bundle.specs.Token.{is_mark}
use Rattle.roster_text.proofs.StartLemmas.{lanes_are, three}
use Rattle.roster_text.proofs.starts.marks.Goals as goal

pub returns : goal.returns
unfolding is_mark
returns c = lanes_are _ is_mark c.args.bytes _ c.fits-bytes (three 1 41 44 61 c.args.bytes c.fits-bytes.0) refl
