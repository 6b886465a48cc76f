use Rattle.std.proofs.Common.{◌∙◌, ◌+◌, ap, ap₂, arith, map, max, []}
use Rattle.roster_instance.specs.CaseParts.{case_of}
use Rattle.roster_instance.specs.Sizes.{greatest_of, cap}
use Rattle.roster_instance.specs.declared.rules.ContractRules.{ContractRules}
use Rattle.roster_instance.proofs.SizeLemmas.{product-within, states-are}
use Rattle.roster_instance.proofs.sizes.state_count.Goals as goal

pub overflow_mul-result-4 : goal.overflow_mul-result-4
overflow_mul-result-4 c =
    let few = c.args.scenario.now.counts.few_shifts in
    let within = product-within (c.len.result + 1) (c.greater.result + 1) (c.greatest_cap.result + 1) (c.cap-3.result + 1) (c.contract_of-rules.result.weekends + 1)
    (omega (arith, few, c.len.ensures)) (omega arith) (omega arith) (omega arith) (omega arith) in
    omega (arith, within)

pub returns : goal.returns
returns c =
    let rules = c.contract_of-rules.ensures in
    states-are (case_of c.args.scenario.now [] []) c.args.nurse c.len.result c.greater.result c.greatest_cap.result c.cap-3.result c.contract_of-rules.result.weekends
    c.len.ensures
    (c.greater.ensures ∙ ap₂ max (c.cap.ensures ∙ ap (λ (r : ContractRules). cap r.working) rules) (c.cap-2.ensures ∙ ap (λ (r : ContractRules). cap r.free) rules))
    (c.greatest_cap.ensures ∙ ap (λ rs. greatest_of (map cap rs)) c.deref.ensures.value)
    (c.cap-3.ensures ∙ ap (λ (r : ContractRules). cap r.total) rules)
    (ap (λ (r : ContractRules). r.weekends) rules)
