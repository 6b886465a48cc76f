use Rattle.std.proofs.Common.{◌≡◌, ◌∙◌, ap, arith, lt-ltb, nat_lt, subst, true}
use Rattle.std.specs.Prelude.{OnErr, OnOk}
use Rattle.roster_text.specs.Io.{Stops, Writes}
use Rattle.roster_instance.specs.Faults.{fault_if}
use Rattle.roster_instance.specs.Meaning.{minimum}
use Rattle.roster_instance.specs.declared.rules.Need.{Need}
use Rattle.roster_rules.specs.declared.fault.HardFault.TheVariants.{H2}
use Rattle.roster_json.specs.Breaches.{breaches_text}
use Rattle.roster_json.proofs.BreachLines.{one_line, slot_is, slot_named}
use Rattle.roster_json.proofs.breaches.write_if_short.Given as given
use Rattle.roster_json.proofs.breaches.write_if_short.Goals as goal

-- the object is the line of the breach
line : (g : given.Over) (c : goal.After-write_object g) → slot_named c.args.day c.as_bytes.result.now c.args.shift c.shift_name.result.now c.args.skill c.skill_name.result.now c.args.have c.need-need.result.minimum
    ≡ breaches_text c.args.case.now (fault_if (nat_lt c.args.have (minimum c.args.case.now c.args.day c.args.shift.0 c.args.skill.0)) (H2 c.args.day c.args.shift c.args.skill c.args.have (minimum c.args.case.now c.args.day c.args.shift.0 c.args.skill.0)))
line g c =
    let k = c.args.case.now in
    let least = minimum k c.args.day c.args.shift.0 c.args.skill.0 in
    let need_is : c.need-need.result.minimum ≡ least = ap (λ (n : Need). n.minimum) c.need-need.ensures.limits in
    let short : nat_lt c.args.have least ≡ true = lt-ltb c.args.have least (omega (arith, c.if-have-need.false, need_is)) in
    slot_is k c.args.day c.args.shift c.args.skill c.args.have c.need-need.result.minimum least c.as_bytes.result.now c.shift_name.result.now c.skill_name.result.now
    (c.as_bytes.ensures.value ∙ c.weekday.ensures) c.shift_name.ensures c.skill_name.ensures need_is
    ∙ one_line k (nat_lt c.args.have least) (H2 c.args.day c.args.shift c.args.skill c.args.have least) short

pub returns-clause-ok : goal.returns-clause-ok
returns-clause-ok g c =
    let made = c.write_object in
    subst (λ text. OnOk made.result (Writes g.W.Write.contents c.args.out.now made.new.out text)) (line g c) made.ensures.ok

pub returns-clause-err : goal.returns-clause-err
returns-clause-err g c =
    let made = c.write_object in
    subst (λ text. OnErr made.result (Stops g.W.Write.contents c.args.out.now made.new.out text)) (line g c) made.ensures.err
