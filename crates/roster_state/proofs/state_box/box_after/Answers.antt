use Rattle.std.proofs.Common.{◌≡◌, ◌∙◌, ◌+◌, ap, ap₂, min, refl, sym, subst, is_some, Bool, true, false, Option}
use mir.Val.{bool_byte}
use Rattle.roster_instance.specs.declared.rules.ContractRules.{ContractRules}
use Rattle.roster_instance.specs.declared.choice.Shift.{Shift}
use Rattle.roster_instance.specs.Counting.{one_if}
use Rattle.roster_rules.specs.DayLaw.{weekends_more}
use Rattle.roster_instance.specs.Meaning.{contract_of}
use Rattle.roster_instance.specs.Sizes.{cap}
use Rattle.roster_state.specs.Boxes.{InInterval}
use Rattle.roster_state.specs.Transition.{next_of}
use Rattle.roster_state.proofs.state_box.box_after.Goals as goal

as_one : (b : Bool) → bool_byte b ≡ one_if b
as_one true = refl
as_one false = refl

pub returns : goal.returns
unfolding next_of
returns c s last inside =
    let rules = c.contract_rules-rules.ensures.rules in
    let total : c.cap.result ≡ cap (contract_of c.args.case.now c.args.nurse).total = c.cap.ensures ∙ ap (λ (r : ContractRules). cap r.total) rules in
    let more = c.weekends_more-weekends.ensures.more ∙ ap₂ (λ b w. weekends_more c.args.day b w) c.is_some.ensures c.is_some-2.ensures ∙ ap (λ (l : Option Shift). weekends_more c.args.day (is_some l) (is_some c.args.shift)) (sym last) in
    let weekends = ap₂ (λ m y. min (s.weekends + m) y) more (ap (λ (r : ContractRules). r.weekends) rules) in
    let works : c.is_some-assignments.result ≡ is_some c.args.shift = c.is_some-assignments.ensures in
    let assignments = ap₂ (λ m y. min (s.assignments + m) y) (ap bool_byte works ∙ as_one (is_some c.args.shift)) total in
    record {
      run = c.run_after.ensures s last inside.run;
      shift_run = c.shift_run_after.ensures s last inside.shift_run;
      weekends = subst (InInterval c.raised.result) weekends (c.raised.ensures s.weekends inside.weekends);
      assignments = subst (InInterval c.raised-2.result) assignments (c.raised-2.ensures s.assignments inside.assignments);
    }
