use Rattle.std.proofs.Common.{◌≡◌, ◌⊎◌, ◌∷◌, [], inl, inr, lit<, refl, subst, sym}
use Rattle.std.specs.Prelude.{Contains}
use Rattle.std.proofs.lemmas.Bool.{cases_eq}
use Rattle.roster_cli.proofs.AnswerLemmas.{status_listed}
use Rattle.roster_cli.proofs.RunLemmas.{write_failed}
use Rattle.roster_cli.proofs.answer.run_saving.Goals as goal

pub returns-clause-status : goal.returns-clause-status
returns-clause-status g c = go (cases_eq c.run_command.result 0)
  where
    go : (c.run_command.result ≡ 0) ⊎ (c.run_command.result ≡ 0 → ⊥) → Contains (0 ∷ 1 ∷ 3 ∷ 4 ∷ []) c.run_command.result
    go (inl done) = subst (Contains (0 ∷ 1 ∷ 3 ∷ 4 ∷ [])) (sym done) (0, lit< tt, refl)
    go (inr other) = let stops = c.run_command.ensures.refused other in subst (Contains (0 ∷ 1 ∷ 3 ∷ 4 ∷ [])) (sym stops.status_is) (status_listed stops.fault)

pub returns-clause-write_failed : goal.returns-clause-write_failed
returns-clause-write_failed g c =
    write_failed (record { remaining = g.R.Read.remaining; before = c.args.input.now; after = c.run_command.new.input }) (record { contents = g.Out.Write.contents; before = c.args.output.now; after = c.run_command.new.output })
    (record { contents = g.Log.Write.contents; before = c.args.log.now; after = c.run_command.new.log }) c.args.request.now c.run_command.result c.run_command.ensures.done c.run_command.ensures.refused
