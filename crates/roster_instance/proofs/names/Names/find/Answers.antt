use Rattle.std.proofs.Common.{◌<◌, ◌∙◌, ap, length, subst, sym}
use Rattle.std.specs.Prelude.{IfSome}
use Rattle.roster_instance.specs.Names.{find_name}
use Rattle.roster_instance.proofs.NameLemmas.{find_name-keys, find_name-within}
use Rattle.roster_instance.proofs.names.Names.find.Goals as goal

pub returns-clause-number : goal.returns-clause-number
returns-clause-number c =
    let name = c.args.name.now in
    c.get_index_of.ensures.index ∙ sym (find_name-keys (λ k. k.items) c.self.inside.names.keys name) ∙ ap (λ names. find_name names name) c.self.view_is

pub returns-clause-within : goal.returns-clause-within
returns-clause-within c =
    let names = c.args.self.now in
    subst (λ number. IfSome number (λ n. n < length names)) (sym (returns-clause-number c)) (find_name-within names c.args.name.now)
