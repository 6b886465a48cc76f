use Rattle.std.proofs.Common.{◌≡◌, ◌∙◌, ◌++◌, ◌∷◌, [], ℕ, None, Option, Some, false, ap, is_some, map, not, refl, rules, subst, sym}
use Rattle.roster_instance.specs.Names.{HaveTheirPlaces, find_name}
use Rattle.roster_instance.proofs.NameLemmas.{known-keys, places-more, texts-added}
use Rattle.roster_instance.proofs.names.Names.add.Goals as goal

pub returns-then-contains-clause-taken : goal.returns-then-contains-clause-taken
returns-then-contains-clause-taken c =
    let name = c.args.name.now in
    ap not (sym c.if-contains.true ∙ c.contains.ensures ∙ sym (known-keys (λ k. k.items) c.self.inside.names.keys name) ∙ ap (λ names. is_some (find_name names name)) c.self.view_is)

pub returns-clause-taken : goal.returns-clause-taken
returns-clause-taken c =
    let name = c.args.name.now in
    ap not (sym c.if-contains.false ∙ c.contains.ensures ∙ sym (known-keys (λ k. k.items) c.self.inside.names.keys name) ∙ ap (λ names. is_some (find_name names name)) c.self.view_is)

pub returns-clause-added : goal.returns-clause-added
returns-clause-added c =
    let name = c.args.name.now in
    ap (map (λ k. k.items)) c.in_ok-insert.ensures.keys
    ∙ texts-added (λ k. k.items) c.self.inside.names.keys c.in_ok-from_slice.field-0 name c.in_ok-from_slice.ensures.items (sym c.contains.ensures ∙ c.if-contains.false)
    ∙ ap (λ names. names ++ name ∷ []) c.self.view_is

is_none : (o : Option ℕ) → is_some o ≡ false → o ≡ None
is_none None e = refl
is_none (Some x) e = absurd (cc)

pub invariant_of-self-2 : goal.invariant_of-self-2
invariant_of-self-2 c =
    let name = c.args.name.now in
    let keys = c.self.inside.names.keys in
    let names = map (λ k. k.items) keys in
    let unknown = sym c.contains.ensures ∙ c.if-contains.false in
    let more = ap (map (λ k. k.items)) c.in_ok-insert.ensures.keys ∙ texts-added (λ k. k.items) keys c.in_ok-from_slice.field-0 name c.in_ok-from_slice.ensures.items unknown in
    subst HaveTheirPlaces (sym more) (places-more names name (is_none (find_name names name) (known-keys (λ k. k.items) keys name ∙ unknown)) c.self.invariant)

pub invariant_of-self-in_err-insert : goal.invariant_of-self-in_err-insert
invariant_of-self-in_err-insert c =
    let same : c.insert.new.self.keys ≡ c.self.inside.names.keys = search rules in
    rw same c.self.invariant
