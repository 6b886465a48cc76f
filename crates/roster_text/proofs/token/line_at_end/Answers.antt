use Rattle.std.proofs.Common.{rules}
use Rattle.roster_bundle.specs.Token.{line_feeds}
use Rattle.roster_text.proofs.token.line_at_end.Goals as goal

pub returns : goal.returns
unfolding line_feeds
returns c = search rules
