use Rattle.roster_offers.proofs.ScaleLaws.{label_low_at}
use Rattle.roster_offers.proofs.laws.scaled_labels_are_low.Goals as goal

pub returns : goal.returns
returns g c small weeks n scale is_scale offers of_case m d within s = label_low_at c small weeks n scale is_scale offers of_case m d within s
