use Rattle.std.proofs.Common.{◌≡◌, ◌∙◌, ◌+◌, ◌++◌, ◌∷◌, [], List, ap, subst, sym, take}
use Rattle.std.proofs.lemmas.List.{take_more}
use Rattle.std.proofs.lemmas.Result.{err_from_is_err_and}
use Rattle.roster_instance.specs.Checking.{IsFirst}
use Rattle.roster_instance.specs.Faults.{each}
use Rattle.roster_instance.specs.declared.fault.CaseFault.{CaseFault}
use Rattle.roster_instance.proofs.Sections.{IsFirst-each, each-more_none}
use Rattle.roster_instance.proofs.section.add_all.Goals as goal

pub returns-in_err-add-clause-first : goal.returns-in_err-add-clause-first
returns-in_err-add-clause-first g c =
    let s = g.S.Section in
    let items = c.args.items.now in
    let item = c.item-item.result in
    let i = c.loop-item.item-index in
    let faults : List g.row.T.Denot → g.row.T.Denot → List CaseFault = s.faults (s.about c.args.section.now) in
    let first : IsFirst (faults (take i items) item) c.in_err-add.field-0.0 =
    subst (λ about. IsFirst (s.faults about (take i items) item) c.in_err-add.field-0.0) c.loop-item.invariant.same
    (c.in_err-add.ensures.first (take i items) c.loop-item.invariant.built) in
    let whole : IsFirst (each faults items) c.in_err-add.field-0.0 =
    IsFirst-each faults items i item c.in_err-add.field-0.0 c.loop-item-test.true c.loop-item.invariant.none
    (subst (λ (x : g.row.T.Denot). IsFirst (faults (take i items) x) c.in_err-add.field-0.0) c.item-item.is first) in
    let p = err_from_is_err_and c.from_residual.result c.from_residual.ensures.1 in
    rw (p.1, p.2) whole

pub loop-item-preserved : goal.loop-item-preserved
loop-item-preserved g c =
    let s = g.S.Section in
    let items = c.args.items.now in
    let item = c.item-item.result in
    let i = c.loop-item.item-index in
    let faults : List g.row.T.Denot → g.row.T.Denot → List CaseFault = s.faults (s.about c.args.section.now) in
    let front : take i items ++ item ∷ [] ≡ take (i + 1) items =
    ap (λ (x : g.row.T.Denot). take i items ++ x ∷ []) c.item-item.is ∙ sym (take_more items i item c.loop-item-test.true) in
    let none : faults (take i items) item ≡ [] =
    subst (λ about. s.faults about (take i items) item ≡ []) c.loop-item.invariant.same
    (c.in_ok-add.ensures.none (take i items) c.loop-item.invariant.built) in
    record {
      same = c.add.ensures.same ∙ c.loop-item.invariant.same;
      built = subst (s.built c.add.new.self) front (c.in_ok-add.ensures.built (take i items) c.loop-item.invariant.built);
      none = ap (each faults) (sym front) ∙ each-more_none faults (take i items) item c.loop-item.invariant.none none;
    }
