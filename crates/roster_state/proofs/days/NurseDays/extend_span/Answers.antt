use Rattle.std.proofs.Common.{◌∙◌, ap, arith, option_map}
use Rattle.roster_rules.specs.Prefix.{Summary}
use Rattle.roster_state.specs.Transition.{transition_of}
use Rattle.roster_state.specs.Spans.{moved_on}
use Rattle.roster_state.proofs.SpanLaw.{transition_alike}
use Rattle.roster_state.proofs.days.NurseDays.extend_span.Goals as goal

pub returns-clause-transitions : goal.returns-clause-transitions
returns-clause-transitions c i b in_strips in_places =
    let k = c.args.self.now.case.now in
    let n = c.args.self.now.nurse in
    let span = c.args.span.now in
    ap (option_map (moved_on i b)) (c.transition.ensures.next ∙ ap (λ (s : Summary). transition_of k n c.args.day s c.args.shift) c.state-first.ensures)
    ∙ transition_alike k n c.args.day span.block span.strips span.begin span.end c.requires.alike i b in_strips in_places (omega (arith, c.requires.places)) c.args.shift

pub overflow_cast-span-2 : goal.overflow_cast-span-2
overflow_cast-span-2 c =
    let small = (c.keeps_limits.ensures.small.contracts c.args.self.now.nurse).total in
    omega (arith, c.requires.places, small.least, small.greatest)
