use Rattle.roster_laws.proofs.OneRow.{prices-with_row}
use Rattle.roster_row.proofs.RowLemmas.{keeps-of_offers, of_offers-keeps}
use Rattle.roster_row.proofs.laws.offers_give_the_allowed_rows.Goals as goal

pub returns-clause-allowed : goal.returns-clause-allowed
returns-clause-allowed c m from r keeps n within inside row days = (keeps-of_offers m from r n keeps within inside row days, of_offers-keeps m from r n keeps within inside row days)

pub returns-clause-prices : goal.returns-clause-prices
returns-clause-prices c m r n within row = prices-with_row r n within row m
