use Rattle.std.proofs.Common.{◌∙◌, ap}
use Rattle.roster_instance.specs.Faults.{below, first_fault}
use Rattle.roster_instance.specs.Meaning.{shift_count, skill_count}
use Rattle.roster_rules.specs.HardRules.{staffing_fault}
use Rattle.roster_costs.proofs.hard.first_understaffed.Goals as goal

pub returns : goal.returns
returns c =
    let k = c.args.case.now in
    c.first_understaffed_before.ensures
    ∙ ap (λ m. first_fault (below m (λ d. below (shift_count k) (λ s. below (skill_count k) (λ j. staffing_fault k c.args.roster.now d s j))))) c.days.ensures.count
