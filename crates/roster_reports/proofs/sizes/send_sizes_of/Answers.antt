use Rattle.std.proofs.Common.{◌≡◌, ◌∙◌, subst}
use Rattle.std.specs.Prelude.{IfErr, IfOk}
use Rattle.roster_text.specs.Io.{BreaksIn, Sends}
use Rattle.roster_reports.specs.Lines.{sizes_line}
use Rattle.roster_reports.proofs.PieceLemmas.{search_pieces, sizes_pieces-are}
use Rattle.roster_reports.proofs.sizes.send_sizes_of.Given as given
use Rattle.roster_reports.proofs.sizes.send_sizes_of.Goals as goal

line : (g : given.Over) (c : goal.After-send_pieces g) → search_pieces c.nurse_name.result.now c.product-states.result c.days-days.result c.choice_count-choices.result ≡ sizes_line c.args.case.now c.args.nurse
line g c =
    sizes_pieces-are c.args.case.now c.args.nurse c.nurse_name.result.now c.product-states.result c.days-days.result c.choice_count-choices.result
    c.nurse_name.ensures (c.product-states.ensures.product ∙ c.of.ensures.states) c.days-days.ensures.count c.choice_count-choices.ensures.count

pub returns-clause-ok : goal.returns-clause-ok
returns-clause-ok g c =
    let out = c.send_pieces in
    subst (λ text. IfOk out.result (λ after. Sends g.W.Write.contents c.args.output.now out.new.out c.args.sent after text)) (line g c) out.ensures.ok

pub returns-clause-err : goal.returns-clause-err
returns-clause-err g c =
    let out = c.send_pieces in
    subst (λ text. IfErr out.result (BreaksIn g.W.Write.contents c.args.output.now out.new.out c.args.sent text)) (line g c) out.ensures.err
