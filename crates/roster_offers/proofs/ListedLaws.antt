-- The memory of a list stays as it is, from one call to the next.
use Rattle.std.proofs.Common.{◌∙◌, refl}
use Rattle.roster_offers.specs.declared.listed.RowList.{RowList}
use Rattle.roster_offers.specs.Listed.{KeepsList}

pub kept_self : (list : RowList) → KeepsList list list
kept_self list = record { days = refl; costs = refl; indices = refl; walk = refl; few = λ few. few }

pub kept_both : (old between new : RowList) → KeepsList old between → KeepsList between new → KeepsList old new
kept_both old between new first later = record {
  days = later.days ∙ first.days;
  costs = later.costs ∙ first.costs;
  indices = later.indices ∙ first.indices;
  walk = later.walk ∙ first.walk;
  few = λ few. later.few (first.few few);
}
