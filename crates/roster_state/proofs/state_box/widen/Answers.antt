use Rattle.std.proofs.Common.{◌≡◌, ◌∙◌, ◌<◌, arith, false, inl, inr, length, rules, subst, sym}
use Rattle.std.proofs.lemmas.Bool.{cases_lt}
use Rattle.roster_instance.specs.Meaning.{forbids}
use Rattle.roster_state.specs.Boxes.{InBox, box_at}
use Rattle.roster_state.specs.Codes.{shift_digit}
use Rattle.roster_state.specs.Transition.{next_of}
use Rattle.roster_state.proofs.BoxLaw.{box_kept, box_set, box_shown, digit_few, last_of_digit}
use Rattle.roster_state.proofs.state_box.widen.Goals as goal

pub loop-digit-init : goal.loop-digit-init
loop-digit-init c =
    let long : length c.args.after.now ≡ 9 = search rules in
    let few : c.shift_digit-to.result < 9 = omega (arith, c.shift_digit-to.ensures.number, digit_few c.args.shift _ c.requires.shift c.keeps_limits.ensures.shifts) in
    record {
      leads = λ s below there allowed. absurd (omega (arith, below));
      keeps = λ s there. box_shown c.args.after.now c.shift_digit-to.result _ s (omega (arith, long, few)) (subst (λ d. InBox (box_at c.args.after.now d) s) (sym c.shift_digit-to.ensures.number) there);
    }

pub loop-digit-preserved : goal.loop-digit-preserved
loop-digit-preserved c =
    let digit = c.loop-digit.digit in
    let old = c.loop-digit.invariant in
    let long : length c.args.boxes.now ≡ 9 = search rules in
    let few : digit < 9 = omega (arith, c.loop-digit-test.true, c.shifts.ensures, c.keeps_limits.ensures.shifts) in
    record {
      leads = λ s below there allowed. elim (cases_lt (shift_digit s.last) digit) [
        | inl before ↦ c.box_with-state_box.ensures.keeps _ (old.leads s before there allowed)
        | inr from ↦
            let is : shift_digit s.last ≡ digit = omega (arith, from, below) in
            let last = last_of_digit s.last digit is ∙ sym c.shift_numbered-last.ensures in
            c.box_with-state_box.ensures.leads s last (box_shown c.args.boxes.now digit _ s (omega (arith, long, few)) (subst (λ d. InBox (box_at c.args.boxes.now d) s) is there))
            (subst (λ l. forbids c.args.case.now.successions l c.args.shift ≡ false) last allowed)
      ];
      keeps = λ s there. c.box_with-state_box.ensures.keeps s (old.keeps s there);
    }

pub returns-clause-leads : goal.returns-clause-leads
returns-clause-leads c s below there allowed =
    let long : length c.args.after.now ≡ 9 = search rules in
    let few : c.shift_digit-to.result < 9 = omega (arith, c.shift_digit-to.ensures.number, digit_few c.args.shift _ c.requires.shift c.keeps_limits.ensures.shifts) in
    box_set c.args.after.now c.shift_digit-to.result (shift_digit c.args.shift) c.loop-digit.state_box (next_of c.args.case.now c.args.nurse c.args.day s c.args.shift) (sym c.shift_digit-to.ensures.number) (omega (arith, long, few))
    (c.loop-digit.invariant.leads s (omega (arith, below, c.loop-digit-test.false, c.shifts.ensures.count)) there allowed)

pub returns-clause-keeps : goal.returns-clause-keeps
returns-clause-keeps c digit s there =
    let long : length c.args.after.now ≡ 9 = search rules in
    let few : c.shift_digit-to.result < 9 = omega (arith, c.shift_digit-to.ensures.number, digit_few c.args.shift _ c.requires.shift c.keeps_limits.ensures.shifts) in
    box_kept c.args.after.now c.shift_digit-to.result digit c.loop-digit.state_box s (omega (arith, long, few))
    (λ here. c.loop-digit.invariant.keeps s (subst (λ d. InBox (box_at c.args.after.now d) s) c.shift_digit-to.ensures.number here)) there
