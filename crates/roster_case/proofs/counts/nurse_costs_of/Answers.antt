use Rattle.std.proofs.Common.{◌∙◌, ◌+◌, ◌≡◌, ap, arith}
use Rattle.std.proofs.lemmas.List.{length_push}
use Rattle.roster_instance.specs.Choices.{days_of}
use Rattle.roster_instance.specs.Rosters.{days_of_nurse}
use Rattle.roster_rules.specs.Penalties.{nurse_cost}
use Rattle.roster_case.proofs.PushLemmas.{each_more}
use Rattle.roster_case.proofs.counts.nurse_costs_of.Goals as goal

pub loop-nurse-preserved : goal.loop-nurse-preserved
loop-nurse-preserved c =
    let costs = c.loop-nurse.costs.items in
    let nurse = c.loop-nurse.nurse in
    let case = c.args.case.now in
    let roster = c.args.roster.now in
    let cost = c.nurse_cost.result in
    rw c.in_ok-push.ensures.items (record {
      nurses = length_push costs cost ∙ ap (λ n. n + 1) c.loop-nurse.invariant.nurses;
      costs_are = each_more (λ n k. k ≡ nurse_cost case n (days_of_nurse roster n)) costs cost 0 nurse c.loop-nurse.invariant.nurses c.loop-nurse.invariant.costs_are
          (c.nurse_cost.ensures.cost ∙ ap (λ row. nurse_cost case nurse (days_of row)) c.row.ensures);
    })

pub returns-clause-costs : goal.returns-clause-costs
returns-clause-costs c = λ n h. c.loop-nurse.invariant.costs_are n (omega (arith, h, c.loop-nurse-test.false, c.nurses-nurse-end.ensures.count))
