use Rattle.std.proofs.Common.{◌≡◌, ◌∙◌, List, [], Option, Some, None, map, option_map, unwrap_or, refl, ap, take, rules, arith, codes}
use Rattle.std.specs.Borrow.{Bor}
use Rattle.std.proofs.lemmas.Grind.{common_steps}
use Rattle.std.proofs.lemmas.List.{take_all}
use Rattle.clap.specs.Words.{Text, found_of, raw_values, matched_of}
use Rattle.clap.proofs.WalkLemmas.{raw_values-rows}
use Rattle.roster_request.proofs.words.files_of.Goals as goal

pub loop-file-preserved : goal.loop-file-preserved
loop-file-preserved c = grind (arith, common_steps)

-- the default for a slice that may be missing, as texts
texts_or : (o : Option (Bor (List (Bor Text)))) (d : Bor (List (Bor Text))) → map (λ (v : Bor Text). v.now) d.now ≡ []
    → map (λ (v : Bor Text). v.now) (unwrap_or o d).now ≡ unwrap_or (option_map (λ (s : Bor (List (Bor Text))). map (λ (v : Bor Text). v.now) s.now) o) []
texts_or None d e = e
texts_or (Some s) d e = refl

pub returns : goal.returns
returns c =
    let found = found_of c.args.given.now in
    let given : map (λ (v : Bor Text). v.now) c.unwrap_or-file-items.result.now ≡ unwrap_or (option_map raw_values (matched_of found (codes "FILE"))) [] =
    ap (λ (s : Bor (List (Bor Text))). map (λ (v : Bor Text). v.now) s.now) c.unwrap_or-file-items.ensures
    ∙ texts_or c.get_strs.result _ refl ∙ ap (λ o. unwrap_or o []) c.get_strs.ensures in
    let rows = ap (λ o. unwrap_or o []) (raw_values-rows found (codes "FILE")) in
    let whole : take c.loop-file.file-index c.unwrap_or-file-items.result.now ≡ c.unwrap_or-file-items.result.now = search (rules, take_all) in
    c.loop-file.invariant ∙ ap (map (λ (v : Bor Text). v.now)) whole ∙ given ∙ rows
