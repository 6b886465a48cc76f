use Rattle.std.proofs.Common.{◌-◌, ℕ, ap, arith, cond, sym, ◌∙◌}
use Rattle.roster_text.proofs.StartLemmas.{starts-le, starts_next}
use Rattle.roster_text.proofs.starts.starts_between.Goals as goal
use Rattle.roster_text.proofs.starts.starts_between.Goals.{then-begins_at, else-begins_at}

pub loop-at-init : goal.loop-at-init
loop-at-init c = omega (arith, starts-le c.args.text.now c.args.from (c.args.from - c.args.from))

pub overflow_add-count : goal.overflow_add-count
overflow_add-count c = record { fits = omega (arith, c.loop-at.invariant, starts-le c.args.text.now c.args.from (c.loop-at.at - c.args.from)) }

pub loop-at-preserved : goal.loop-at-preserved
loop-at-preserved c =
    let next = starts_next c.args.text.now c.args.from c.loop-at.at c.loop-at.auto.at in
    elim c.if-begins_at.branch [
      | then-begins_at w ↦ omega (arith, next, c.loop-at.invariant, w.count-is, ap {B = ℕ} (λ b. cond b 1 0) (sym c.begins_at.ensures ∙ w.if-begins_at.true))
      | else-begins_at w ↦ omega (arith, next, c.loop-at.invariant, w.count-is, ap {B = ℕ} (λ b. cond b 1 0) (sym c.begins_at.ensures ∙ w.if-begins_at.false))
    ]
