use Rattle.std.proofs.Common.{◌≡◌, ◌∙◌, ◌+◌, ◌*◌, ◌++◌, ◌∷◌, [], ap, List, slice_index_or}
use Rattle.roster_instance.specs.declared.choice.Choice.{Choice}
use Rattle.roster_instance.specs.declared.choice.Choice.TheVariants.{Off}
use Rattle.roster_instance.specs.Rosters.{choice_on, row_of}
use Rattle.roster_rules.specs.Penalties.{request_cost_on}
use Rattle.roster_rules.specs.Weights.{staffing_weight}
use Rattle.roster_offers.specs.declared.offer.Offer.{Offer}
use Rattle.roster_row.proofs.OfferLemmas.{present_is}
use Rattle.roster_row.proofs.offer.present_choice.Goals as goal

pub returns : goal.returns
returns g c =
    let k = c.args.held.now.case in
    let rows = c.args.held.now.roster in
    let n = c.args.nurse in
    let d = c.args.day in
    let now : Choice = choice_on (row_of rows n) d in
    let choice : Choice = slice_index_or c.row.result.now d Off in
    let asked_is = c.request_cost-asked.ensures.cost ∙ (λ i. request_cost_on (c.case.ensures i) n d (c.shift.ensures i)) in
    let same : choice ≡ now = ap (λ (row : List Choice). choice_on row d) c.row.ensures.row in
    record {
      offer = c.push.ensures.items
          ∙ ap (λ (xs : List Offer). xs ++ (record { choice = choice; price = staffing_weight * c.shortfall_by-lack.result.optimum + c.request_cost-asked.result }) ∷ []) c.new-offers.ensures
          ∙ ap (λ (o : Offer). o ∷ []) (present_is k rows n d choice now c.shortfall_by-lack.result.optimum c.request_cost-asked.result same c.shortfall_by-lack.ensures.optimum asked_is);
    }
