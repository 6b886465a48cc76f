use Rattle.std.proofs.Common.{◌≡◌, ◌∙◌, ◌+◌, ◌*◌, ap, arith, if◌then◌else◌, is_some, nat_le, not}
use Rattle.roster_instance.specs.declared.rules.ContractRules.{ContractRules}
use Rattle.roster_rules.specs.DayLaw.{splits_more, weekends_more}
use Rattle.roster_instance.specs.RunLaw.{day_violations}
use Rattle.roster_rules.specs.Weights.{free_run_weight, split_weight, weekend_weight, working_run_weight}
use Rattle.roster_state.specs.Transition.{free_more, free_run, split_more, weekend_more, working_more, working_run}
use Rattle.roster_state.proofs.BlockLaw.{apart_within}
use Rattle.roster_state.proofs.transition.cost_apart.Goals as goal

-- what each summand costs, by the nurse's own rules
runs : (c : goal.After-weekend_more) → c.runs_more.result ≡ working_more c.args.case.now c.args.nurse c.args.state c.args.shift + free_more c.args.case.now c.args.nurse c.args.state c.args.shift
runs c =
    let s = c.args.state in
    let works = is_some c.args.shift in
    c.runs_more.ensures.cost ∙ ap (λ (r : ContractRules). working_run_weight * day_violations r.working (working_run s) works + free_run_weight * day_violations r.free (free_run s) (not works)) c.requires.rules

split : (c : goal.After-weekend_more) → c.split_more.result ≡ split_more c.args.case.now c.args.nurse c.args.day c.args.state c.args.shift
split c = c.split_more.ensures.cost ∙ ap (λ (r : ContractRules). if r.whole_weekends then split_weight * splits_more c.args.day (is_some c.args.state.last) (is_some c.args.shift) else 0) c.requires.rules

weekend : (c : goal.After-weekend_more) → c.weekend_more.result ≡ weekend_more c.args.case.now c.args.nurse c.args.day c.args.state c.args.shift
weekend c = c.weekend_more.ensures.cost ∙ ap (λ (r : ContractRules). if nat_le r.weekends c.args.state.weekends then weekend_weight * weekends_more c.args.day (is_some c.args.state.last) (is_some c.args.shift) else 0) c.requires.rules

pub returns-clause-cost : goal.returns-clause-cost
returns-clause-cost c = omega (arith, runs c, c.shifts_more.ensures.cost, split c, weekend c)

pub returns-clause-within : goal.returns-clause-within
returns-clause-within c =
    let within = apart_within c.args.case.now c.args.nurse c.args.day c.args.state c.args.shift c.keeps_limits.ensures.small in
    omega (arith, within, runs c, c.shifts_more.ensures.cost, split c, weekend c)
