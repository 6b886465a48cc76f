use Rattle.std.proofs.Common.{◌++◌, ◌∙◌, Ok, ap, map, refl, string_bytes}
use Rattle.std.specs.declared.alloc.AllocError.{AllocError}
use Rattle.std.specs.Vec.Iter.{into_iter_items}
use Rattle.std.proofs.lemmas.Iterator.Adapters.{YieldsList-from_vec, items_from_extend}
use Rattle.roster_cli.proofs.start.words_of.Goals as goal

pub returns-clause-words : goal.returns-clause-words
returns-clause-words c =
    let given = c.in-Ok.given in
    let added = items_from_extend {E = AllocError} (Ok c.in_ok-extend.field-0) c.in_ok-extend.ensures.ran (YieldsList-from_vec (into_iter_items given) refl given.rest.ok.0) in
    record { args = given; given_is = c.in-Ok.is; words_are = ap (map string_bytes) (added.0 ∙ ap (λ xs. xs ++ into_iter_items given) c.in_ok-words.ensures.items) }
