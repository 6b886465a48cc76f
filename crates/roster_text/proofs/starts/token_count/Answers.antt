use Rattle.std.proofs.Common.{◌≡◌, ◌+◌, ◌-◌, ◌*◌, ◌/◌, ◌∙◌, length, ap, arith}
use Rattle.roster_text.specs.Starts.{starts_in}
use Rattle.roster_text.proofs.StartLemmas.{length-tokens_from, starts-le, starts_upto}
use Rattle.roster_text.proofs.starts.token_count.Goals as goal

pub overflow_add-count : goal.overflow_add-count
overflow_add-count c =
    let text = c.args.text.now in
    let at = c.min-first.result + c.loop-vector.vector * 64 in
    let more : c.starts_at-count.result ≡ starts_in text at 64 = c.starts_at-count.ensures in
    record { fits = omega (arith, c.loop-vector.invariant, more, starts-le text 0 at, starts-le text at 64) }

pub loop-vector-preserved : goal.loop-vector-preserved
loop-vector-preserved c =
    let at = c.min-first.result + c.loop-vector.vector * 64 in
    let next : c.min-first.result + (c.loop-vector.vector + 1) * 64 ≡ at + 64 = omega arith in
    let more : c.starts_at-count.result ≡ starts_in c.args.text.now at 64 = c.starts_at-count.ensures in
    omega (arith, c.loop-vector.invariant, more, starts_upto c.args.text.now at 64, ap (starts_in c.args.text.now 0) next)

-- all positions: the first, the whole vectors after it, and the rest
pub overflow_add-result : goal.overflow_add-result
overflow_add-result c =
    let text = c.args.text.now in
    let at = c.min-first.result + (length text - c.min-first.result) / 64 * 64 in
    let end : c.loop-vector.vector ≡ (length text - c.min-first.result) / 64 = omega arith in
    let counted = c.loop-vector.invariant ∙ ap (λ k. starts_in text 0 (c.min-first.result + k * 64)) end in
    record { fits = omega (arith, counted, c.starts_between.ensures, starts-le text 0 at, starts-le text at (length text - at)) }

pub returns : goal.returns
returns c =
    let text = c.args.text.now in
    let at = c.min-first.result + (length text - c.min-first.result) / 64 * 64 in
    let end : c.loop-vector.vector ≡ (length text - c.min-first.result) / 64 = omega arith in
    let all : at + (length text - at) ≡ length text - 0 = omega arith in
    let counted = c.loop-vector.invariant ∙ ap (λ k. starts_in text 0 (c.min-first.result + k * 64)) end in
    omega (arith, counted, c.starts_between.ensures, starts_upto text at (length text - at), ap (starts_in text 0) all, length-tokens_from text 0)
