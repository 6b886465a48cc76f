use Rattle.std.proofs.Common.{ℕ, ◌<◌, ap, arith, below_more, length}
use Rattle.arrayvec.specs.ArrayVec.{ArrayVec}
use Rattle.roster_bound.specs.declared.choosing.Candidate.{Candidate}
use Rattle.roster_bound.specs.PooledUses.{AgreeOn}
use Rattle.roster_bound.proofs.choosing.candidates.Goals as goal
use Rattle.roster_bound.proofs.choosing.candidates.Goals.{then-candidate-gt0, else-candidate-gt0}

-- nothing is found: so it was before, and the last one splits nothing

pub loop-day-preserved : goal.loop-day-preserved
loop-day-preserved c =
    let count : ArrayVec Candidate → ℕ = λ found. length found.items in
    elim c.if-candidate-gt0.branch [
      | then-candidate-gt0 w ↦ record {
        before = λ none. absurd (omega (arith, none, ap count w.found-is, w.keep_more_even.ensures));
        here = λ none. absurd (omega (arith, none, ap count w.found-is, w.keep_more_even.ensures));
      }
      | else-candidate-gt0 w ↦ record {
        before = λ none. c.loop-day.invariant.before (omega (arith, none, ap count w.found-is));
        here = λ none. below_more _ _ (c.loop-day.invariant.here (omega (arith, none, ap count w.found-is)))
            (c.most_even_decision-candidate.ensures (omega (arith, w.if-candidate-gt0.false)));
      }
    ]

pub loop-nurse-preserved : goal.loop-nurse-preserved
loop-nurse-preserved c = λ none n d n_in d_in.
    let agree : ℕ → Type 0 = λ m. AgreeOn c.args.pool.now c.args.uses.now m d in
    let all_days : d < c.loop-day.day = omega (arith, d_in, c.loop-day-test.false, c.days-day-end.ensures.count) in
    below_more agree _ (λ m m_in. c.loop-day.invariant.before none m d m_in d_in)
    (c.loop-day.invariant.here none d all_days) n n_in

pub returns : goal.returns
returns c = λ none n d n_in d_in.
    let all_nurses : n < c.loop-nurse.nurse = omega (arith, n_in, c.loop-nurse-test.false, c.nurses-nurse-end.ensures.count) in
    c.loop-nurse.invariant none n d all_nurses d_in
