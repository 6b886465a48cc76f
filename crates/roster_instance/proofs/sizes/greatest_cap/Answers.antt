use Rattle.std.proofs.Common.{◌∙◌, ap, ap₂, map, max, sym, take}
use Rattle.std.proofs.lemmas.List.{map_more}
use Rattle.roster_instance.specs.Sizes.{greatest_of, cap}
use Rattle.roster_instance.proofs.SizeLemmas.{greatest_of-push}
use Rattle.roster_instance.proofs.sizes.greatest_cap.Goals as goal

pub loop-run-preserved : goal.loop-run-preserved
loop-run-preserved c =
    let runs = c.args.runs.now in
    let i = c.loop-run.run-index in
    c.greater-greatest.ensures ∙ ap₂ max c.loop-run.invariant c.cap.ensures
    ∙ sym (ap greatest_of (map_more cap runs i _ c.loop-run-test.true) ∙ greatest_of-push (map cap (take i runs)) _)
