use Rattle.std.proofs.Common.{◌∙◌, ap}
use Rattle.roster_instance.specs.Meaning.{Meaning}
use Rattle.roster_instance.specs.Rosters.{fits_case}
use Rattle.roster_answers.proofs.AnswerLemmas.{fits_kept}
use Rattle.roster_answers.proofs.reading.keep_roster.Goals as goal

pub invariant_of-result : goal.invariant_of-result
invariant_of-result c =
    let parts = c.into_parts-case in
    record { fits = ap (λ (m : Meaning). fits_case m parts.result.1) c.in_ok-case.ensures.kept ∙ fits_kept parts.result.0 parts.result.1 c.args.keep parts.result.1 parts.ensures.fits }
