-- The slots of the days before this one are written.
use Rattle.roster_text.specs.Io.{Writes}
use Rattle.roster_instance.specs.Faults.{below}
use Rattle.roster_instance.specs.Meaning.{shift_count, skill_count}
use Rattle.roster_rules.specs.HardRules.{staffing_fault}
use Rattle.roster_json.specs.Breaches.{breaches_text}
use Rattle.roster_json.proofs.breaches.write_short_slots.Given as goal

abbrev pub invariant-loop-day : goal.invariant-loop-day
invariant-loop-day g l =
    Writes g.W.Write.contents l.initial.out l.out
    (breaches_text l.case (below l.day (λ d. below (shift_count l.case) (λ s. below (skill_count l.case) (λ k. staffing_fault l.case l.roster d s k)))))
