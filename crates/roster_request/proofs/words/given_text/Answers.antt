use Rattle.std.proofs.Common.{◌∙◌, List, Some, ap, is_some, option_map, sym, true≢false, ℕ}
use Rattle.std.specs.Borrow.{Bor}
use Rattle.std.proofs.lemmas.Result.{IfOk-weaker}
use Rattle.clap.specs.Words.{found_of}
use Rattle.clap.proofs.WalkLemmas.{first_value-rows}
use Rattle.roster_request.proofs.words.given_text.Goals as goal

pub unreachable-requires : goal.unreachable-requires
unreachable-requires c =
    let none =
    sym (first_value-rows (found_of c.args.given.now) c.args.name.now) ∙ sym c.get_str.ensures ∙ ap (option_map (λ (s : Bor (List ℕ)). s.now)) c.in_default.is in
    true≢false (sym c.requires ∙ ap is_some none)

pub returns : goal.returns
returns c =
    let given = sym (first_value-rows (found_of c.args.given.now) c.args.name.now) ∙ sym c.in-Some.ensures in
    IfOk-weaker c.from_str.result _ _ (λ s same. given ∙ ap (λ x. Some x) (sym same)) c.from_str.ensures.ok
