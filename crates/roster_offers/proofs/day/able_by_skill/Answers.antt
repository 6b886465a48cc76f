use Rattle.std.proofs.Common.{◌∙◌, ◌==◌, List, ap, arith, sym}
use Rattle.std.specs.List.{list_any}
use Rattle.std.proofs.lemmas.List.{length-set}
use Rattle.roster_instance.specs.declared.choice.Skill.{Skill}
use Rattle.roster_instance.specs.Meaning.{nurse_at}
use Rattle.roster_offers.proofs.AbleLemmas.{able_more, and_here, none_able}
use Rattle.roster_offers.proofs.day.able_by_skill.Goals as goal

pub loop-skill-preserved : goal.loop-skill-preserved
loop-skill-preserved c =
    let able = c.loop-skill.able in
    let skill = c.loop-skill.skill in
    record {
      length = length-set able skill c.is_able.result ∙ c.loop-skill.invariant.length;
      so_far = able_more (nurse_at c.args.case.now c.args.nurse).skills able skill c.is_able.result (omega (arith, c.loop-skill.invariant.length, c.skills-skill-end.ensures.within)) c.loop-skill.invariant.so_far
          (c.is_able.ensures ∙ ap (λ (skills : List Skill). list_any (λ own. own.0 == skill) skills) c.skills_of.ensures.skills);
    }

pub returns-then-is_absent : goal.returns-then-is_absent
returns-then-is_absent c = λ k h.
    let away = sym c.is_absent.ensures ∙ c.if-is_absent.true in
    none_able k (list_any (λ own. own.0 == k) (nurse_at c.args.case.now c.args.nurse).skills) _ (omega (arith, h, c.keeps_limits.ensures.skills)) away

pub returns : goal.returns
returns c = λ k h.
    let skills = (nurse_at c.args.case.now c.args.nurse).skills in
    let here = sym c.is_absent.ensures ∙ c.if-is_absent.false in
    c.loop-skill.invariant.so_far k (omega (arith, h, c.skills-skill-end.ensures.count)) ∙ and_here (list_any (λ own. own.0 == k) skills) _ here
