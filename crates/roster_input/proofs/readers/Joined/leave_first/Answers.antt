use Rattle.std.proofs.Common.{◌∙◌, ap, drop, sym}
use Rattle.std.proofs.lemmas.List.{drop-drop}
use Rattle.roster_input.proofs.readers.Joined.leave_first.Goals as goal

pub returns-clause-readers : goal.returns-clause-readers
returns-clause-readers g c = sym (drop-drop 1 c.self.inside.done c.self.inside.readers.items) ∙ ap (λ l. drop 1 l.readers) c.self.view_is
