use Rattle.std.proofs.Common.{◌≡◌, ◌∙◌, inr, length, sym}
use Rattle.std.proofs.lemmas.Bool.{eqb-true}
use Rattle.roster_bound.proofs.choosing.choose.Goals as goal

-- nothing was found

pub returns-then-is_empty-clause-none : goal.returns-then-is_empty-clause-none
returns-then-is_empty-clause-none g c =
    let none : length c.candidates-tried.result.items ≡ 0 = eqb-true _ _ (sym c.is_empty.ensures ∙ c.if-is_empty.true) in
    inr (c.candidates-tried.ensures none)
