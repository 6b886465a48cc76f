use Rattle.std.proofs.Common.{◌∙◌, ap, arith, sym, true}
use Rattle.std.proofs.Math.ListN.{set}
use Rattle.std.proofs.lemmas.List.{set_past}
use Rattle.roster_instance.proofs.FlagLemmas.{numbers_among-push}
use Rattle.roster_instance.proofs.scenario.ForbiddenSectionSectionToken.add.Goals as goal

pub returns-then-shift-lt8-clause-built : goal.returns-then-shift-lt8-clause-built
returns-then-shift-lt8-clause-built c = λ earlier are.
    let s = c.args.self.now in
    let k = c.in_ok-shift.shift in
    ap (λ flags. set flags k true) are
    ∙ sym (numbers_among-push s.source.now s.shifts.now c.args.token.now k c.in_ok-shift.ensures.number earlier)

pub returns-else-shift-lt8-clause-built : goal.returns-else-shift-lt8-clause-built
returns-else-shift-lt8-clause-built c = λ earlier are.
    let s = c.args.self.now in
    let k = c.in_ok-shift.shift in
    sym (set_past s.flags k true (omega arith))
    ∙ ap (λ flags. set flags k true) are
    ∙ sym (numbers_among-push s.source.now s.shifts.now c.args.token.now k c.in_ok-shift.ensures.number earlier)
