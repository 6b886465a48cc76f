-- Sets of lemmas for the functions of `token`.
use Rattle.roster_text.proofs.TokenLines.{line_at-feed, line_at-other, line_at-le}

pub ruleset line_rules = (line_at-feed, line_at-other, line_at-le)
