use Rattle.std.proofs.Common.{◌≡◌, ◌∙◌, ◌<◌, ℕ, ap₂, arith, length}
use Rattle.std.proofs.lemmas.List.{length-set}
use Rattle.roster_instance.specs.declared.choice.Choice.{Choice}
use Rattle.roster_near.specs.Drawn.{choice_found}
use Rattle.roster_near.proofs.Writing.{row_more}
use Rattle.roster_near.proofs.space.NearSpace.write_found.Goals as goal

-- one more day is written, and nothing else changes
pub loop-day-preserved : goal.loop-day-preserved
loop-day-preserved c =
    let l = c.loop-day in
    let i = l.invariant in
    let self = c.args.self.now in
    let is : ℕ → Choice = choice_found self.problem self.found c.args.free c.args.given.now in
    let here : c.choice_found.result ≡ is l.day =
    c.choice_found.ensures ∙ ap₂ (λ p f. choice_found p f c.args.free c.args.given.now l.day) i.problem i.found in
    let inside : l.day < length l.self.row.items = omega (arith, c.loop-day-test.true, i.length) in
    record {
      row = row_more l.self.row.items is l.day c.choice_found.result inside i.row here;
      length = length-set l.self.row.items l.day c.choice_found.result ∙ i.length;
      problem = i.problem;
      found = i.found;
    }
