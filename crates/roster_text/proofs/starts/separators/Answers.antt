use Rattle.std.proofs.Common.{refl}
use Rattle.roster_bundle.specs.Token.{is_separator}
use Rattle.roster_text.proofs.StartLemmas.{lanes_are, three}
use Rattle.roster_text.proofs.starts.separators.Goals as goal

pub returns : goal.returns
unfolding is_separator
returns c = lanes_are _ is_separator c.args.bytes _ c.fits-bytes (three 4 13 32 10 c.args.bytes c.fits-bytes.0) refl
