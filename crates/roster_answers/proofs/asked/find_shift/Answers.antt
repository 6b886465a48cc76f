use Rattle.std.proofs.Common.{◌∙◌, ap, arith, below_more, option_map, sym}
use Rattle.std.specs.Prelude.{bytes_eq}
use Rattle.roster_instance.specs.Meaning.{shift_at}
use Rattle.roster_answers.proofs.AskedLemmas.{found_at, none_found}
use Rattle.roster_answers.proofs.asked.find_shift.Goals as goal

pub returns-then-eq : goal.returns-then-eq
returns-then-eq c =
    let name = c.args.name.now in
    ap (option_map shift_at) (found_at c.args.case.now.shift_names name c.loop-number.number (omega (arith, c.loop-number-test.true)) c.loop-number.invariant.others (ap (bytes_eq name) (sym c.shift_name.ensures) ∙ sym c.eq.ensures ∙ c.if-eq.true))

pub loop-number-preserved : goal.loop-number-preserved
loop-number-preserved c =
    let name = c.args.name.now in
    record { others = below_more _ _ c.loop-number.invariant.others (ap (bytes_eq name) (sym c.shift_name.ensures) ∙ sym c.eq.ensures ∙ c.if-eq.false) }

pub returns : goal.returns
returns c = ap (option_map shift_at) (none_found c.args.case.now.shift_names c.args.name.now (λ k below. c.loop-number.invariant.others k (omega (arith, below))))
