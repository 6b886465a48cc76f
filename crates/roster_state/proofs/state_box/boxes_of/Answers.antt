use Rattle.std.proofs.Common.{◌≡◌, ◌∙◌, ◌≢◌, ap, arith, subst, sym}
use Rattle.roster_rules.specs.Prefix.{Summary}
use Rattle.roster_state.specs.declared.state_box.StateBox.{StateBox}
use Rattle.roster_state.specs.Boxes.{InBox}
use Rattle.roster_state.specs.Codes.{shift_digit}
use Rattle.roster_state.proofs.BoxLaw.{box_alone, no_other_box}
use Rattle.roster_state.proofs.state_box.boxes_of.Goals as goal
use Rattle.roster_state.proofs.state_box.boxes_of.Goals.{After-shift_digit}

to : (c : After-shift_digit) → c.shift_digit.result ≡ shift_digit c.args.state.now.last
to c = c.shift_digit.ensures.number ∙ ap (λ (s : Summary). shift_digit s.last) c.state.view_is

pub returns-clause-inside : goal.returns-clause-inside
returns-clause-inside c =
    let is = to (goal.at.returns-clause-inside c).After-shift_digit in
    subst (λ (x : StateBox). InBox x c.args.state.now) (sym (box_alone c.shift_digit.result _ c.of.result (sym is) (omega (arith, is, c.requires)))) c.of.ensures.inside

pub returns-clause-alone : goal.returns-clause-alone
returns-clause-alone c =
    let is = to (goal.at.returns-clause-alone c).After-shift_digit in
    box_alone c.shift_digit.result _ c.of.result (sym is) (omega (arith, is, c.requires)) ∙ c.of.ensures.alone

pub returns-clause-others : goal.returns-clause-others
returns-clause-others c digit ne =
    let is = to (goal.at.returns-clause-others c).After-shift_digit in
    let other : digit ≢ c.shift_digit.result = λ e. ne (e ∙ is) in
    no_other_box c.shift_digit.result digit c.of.result other
