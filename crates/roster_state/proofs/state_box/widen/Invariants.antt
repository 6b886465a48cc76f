use Rattle.std.proofs.Common.{◌≡◌, ◌<◌, false}
use Rattle.roster_instance.specs.Meaning.{forbids}
use Rattle.roster_rules.specs.Prefix.{Summary}
use Rattle.roster_state.specs.Boxes.{InBox, box_at}
use Rattle.roster_state.specs.Codes.{shift_digit}
use Rattle.roster_state.specs.Transition.{next_of}
use Rattle.roster_state.proofs.state_box.widen.Given as goal

abbrev pub invariant-loop-digit : goal.invariant-loop-digit
invariant-loop-digit l = record {
  leads : (s : Summary) → shift_digit s.last < l.digit → InBox (box_at l.boxes (shift_digit s.last)) s → forbids l.case.successions s.last l.shift ≡ false → InBox l.state_box (next_of l.case l.nurse l.day s l.shift);
  keeps : (s : Summary) → InBox (box_at l.fn.after (shift_digit l.shift)) s → InBox l.state_box s;
}
