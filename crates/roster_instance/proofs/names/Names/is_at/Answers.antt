use Rattle.std.proofs.Common.{◌<◌, ◌≡◌, ◌∙◌, [], ap, arith, get_or, length, map, rules, sym}
use Rattle.std.specs.Prelude.{bytes_eq}
use Rattle.std.proofs.lemmas.List.{get_or-map, length-map}
use Rattle.roster_instance.specs.Names.{find_name}
use Rattle.roster_instance.specs.Tables.{is_at}
use Rattle.roster_instance.proofs.NameLemmas.{index-is}
use Rattle.roster_instance.proofs.names.Names.is_at.Goals as goal

pub returns-in-Some : goal.returns-in-Some
returns-in-Some c =
    let name = c.args.name.now in
    let number = c.args.number in
    let owned = c.self.inside.names.keys in
    let all = map (λ own. own.items) owned in
    let keys : c.as_slice-names.result.now ≡ owned = c.as_slice-names.ensures.keys in
    let within : number < length owned = search rules in
    let here : c.in-Some.own.now ≡ get_or owned number c.in-Some.own.now = search rules in
    let at : get_or all number [] ≡ c.as_slice.result.now = get_or-map (λ own. own.items) owned number c.in-Some.own.now [] within ∙ ap (λ own. own.items) (sym here) ∙ sym c.as_slice.ensures.value in
    c.eq.ensures ∙ ap (bytes_eq name) (sym at) ∙ index-is all name number c.self.invariant (omega (arith, within, length-map owned (λ own. own.items)))
    ∙ ap (λ names. is_at number (find_name names name)) c.self.view_is
