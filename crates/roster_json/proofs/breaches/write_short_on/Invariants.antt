-- The slots before this one are written: those of the shifts before, and in this shift those of the skills before.
use Rattle.roster_text.specs.Io.{Writes}
use Rattle.roster_instance.specs.Faults.{below}
use Rattle.roster_instance.specs.Meaning.{skill_count}
use Rattle.roster_rules.specs.HardRules.{staffing_fault}
use Rattle.roster_json.specs.Breaches.{breaches_text}
use Rattle.roster_json.proofs.breaches.write_short_on.Given as goal

abbrev pub invariant-loop-shift : goal.invariant-loop-shift
invariant-loop-shift g l =
    Writes g.W.Write.contents l.initial.out l.out (breaches_text l.case (below l.shift (λ s. below (skill_count l.case) (λ k. staffing_fault l.case l.roster l.day s k))))

abbrev pub invariant-loop-skill : goal.invariant-loop-skill
invariant-loop-skill g l = Writes g.W.Write.contents l.initial.out l.out (breaches_text l.case (below l.skill (λ k. staffing_fault l.case l.roster l.day l.shift k)))
