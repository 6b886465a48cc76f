use Rattle.std.proofs.Common.{◌∙◌, [], ap, arith, false, map, ◌∷◌, ◌++◌, sym, true}
use Rattle.std.proofs.Math.ListN.{set}
use Rattle.std.proofs.lemmas.List.{map_push}
use Rattle.roster_instance.specs.Bundles.{skill_named}
use Rattle.roster_instance.specs.Faults.{fault_if}
use Rattle.roster_instance.specs.Meaning.{skill_at}
use Rattle.roster_instance.specs.declared.fault.CaseFault.TheVariants.{Repeated}
use Rattle.roster_instance.proofs.FlagLemmas.{count-room, numbers_among-push, repeated_by_flag}
use Rattle.roster_instance.proofs.NameLemmas.{found-number}
use Rattle.roster_instance.proofs.Sections.{IsFirst-alone, IsFirst-after, both_none}
use Rattle.roster_instance.proofs.scenario.OwnSkillSectionSectionToken.add.Goals as goal

pub returns-then-self-skill-clause-first : goal.returns-then-self-skill-clause-first
returns-then-self-skill-clause-first c = λ earlier has.
    let s = c.args.self.now in
    let t = c.args.token.now in
    let k = c.in_ok-skill.skill in
    let own =
    repeated_by_flag s.source.now s.skills.now t k c.in_ok-skill.ensures.number s.taken earlier false (omega (arith, c.in_ok-skill.ensures.within)) has.flags
    ∙ ap (λ b. fault_if b (Repeated t.line)) c.if-self-skill.true in
    IsFirst-after _ _ _ c.in_ok-skill.ensures.none (IsFirst-alone _ _ own)

pub push-requires : goal.push-requires
push-requires c =
    let s = c.args.self.now in
    (omega arith, omega (arith, s.counted, count-room s.taken c.in_ok-skill.skill false (omega (arith, c.in_ok-skill.ensures.within)) c.if-self-skill.false))

pub returns-clause-built : goal.returns-clause-built
returns-clause-built c = λ earlier has.
    let s = c.args.self.now in
    let t = c.args.token.now in
    let k = c.in_ok-skill.skill in
    let number = c.in_ok-skill.ensures.number in
    record {
      flags = ap (λ flags. set flags k true) has.flags ∙ sym (numbers_among-push s.source.now s.skills.now t k number earlier);
      own_are =
          c.push.ensures.items
          ∙ ap (λ own. own ++ skill_at k ∷ []) has.own_are
          ∙ ap (λ n. map (skill_named s.source.now s.skills.now) earlier ++ skill_at n ∷ []) (sym (found-number s.source.now s.skills.now t k number))
          ∙ sym (map_push (skill_named s.source.now s.skills.now) earlier t);
    }

pub returns-clause-none : goal.returns-clause-none
returns-clause-none c = λ earlier has.
    let s = c.args.self.now in
    let t = c.args.token.now in
    let k = c.in_ok-skill.skill in
    let own =
    repeated_by_flag s.source.now s.skills.now t k c.in_ok-skill.ensures.number s.taken earlier false (omega (arith, c.in_ok-skill.ensures.within)) has.flags
    ∙ ap (λ b. fault_if b (Repeated t.line)) c.if-self-skill.false in
    both_none _ _ c.in_ok-skill.ensures.none own
