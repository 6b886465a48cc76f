use Rattle.std.proofs.Common.{Bool, if◌then◌else◌, ◌≡◌, ◌∙◌, ◌+◌, ◌∷◌, [], ap, arith, length, subst, sym, ℕ}
use Rattle.std.proofs.lemmas.List.{length-append}
use Rattle.arrayvec.specs.ArrayVec.{ArrayVec}
use Rattle.roster_instance.specs.Meaning.{forbids}
use Rattle.roster_partial.proofs.AllowedLaw.{AreAllowed, all_allowed, none_yet, one_passed_over, one_put}
use Rattle.roster_partial.proofs.allowed.allowed_after.Goals as goal
use Rattle.roster_partial.proofs.allowed.allowed_after.Goals.{then-not-is_forbidden, else-not-is_forbidden}

pub loop-index-init : goal.loop-index-init
loop-index-init c = record {
  allowed = subst (AreAllowed c.args.case.now c.args.state.last c.args.offers.now 0) (sym c.new-indices.ensures) (none_yet c.args.case.now c.args.state.last c.args.offers.now);
  counted = omega (arith, ap length c.new-indices.ensures);
}

pub is_forbidden-requires : goal.is_forbidden-requires
is_forbidden-requires c = omega (arith, c.loop-index.invariant.counted, c.loop-index-test.true, c.requires.room)

pub push-requires : goal.push-requires
push-requires c = (omega arith, omega (arith, c.loop-index.invariant.allowed.few, c.loop-index-test.true, c.requires.few))

pub loop-index-preserved : goal.loop-index-preserved
loop-index-preserved c =
    let k = c.args.case.now in
    let last = c.args.state.last in
    let offers = c.args.offers.now in
    let index = c.loop-index.index in
    let old = c.loop-index.invariant in
    elim c.if-not-is_forbidden.branch [
      | then-not-is_forbidden w ↦
          let put = ap (λ (p : ArrayVec ℕ). p.items) w.indices-is ∙ w.push.ensures.items in
          record {
            allowed = one_put k last offers index c.loop-index-test.true c.loop-index.indices.items old.allowed c.if-not-is_forbidden.indices.items put;
            counted = omega (arith, c.is_forbidden.ensures.counted, ap {B = ℕ} (λ (b : Bool). if b then 1 else 0) w.if-not-is_forbidden.true, ap length put, length-append c.loop-index.indices.items (index ∷ []), old.counted);
          }
      | else-not-is_forbidden w ↦
          let forbidden = sym (c.is_forbidden.ensures.forbidden ∙ ap (forbids k.successions last) c.shift.ensures) ∙ w.if-not-is_forbidden.false in
          record {
            allowed = subst (λ (p : ArrayVec ℕ). AreAllowed k last offers (index + 1) p.items) (sym w.indices-is) (one_passed_over k last offers index c.loop-index-test.true c.loop-index.indices.items old.allowed forbidden);
            counted = omega (arith, c.is_forbidden.ensures.counted, ap {B = ℕ} (λ (b : Bool). if b then 1 else 0) w.if-not-is_forbidden.false, ap (λ (p : ArrayVec ℕ). length p.items) w.indices-is, old.counted);
          }
    ]

pub returns : goal.returns
returns c =
    let all : c.loop-index.index ≡ length c.args.offers.now = omega (arith, c.loop-index-test.false, c.loop-index.auto.index-end) in
    record {
      allowed = all_allowed c.args.case.now c.args.state.last c.args.offers.now c.loop-index.index c.loop-index.indices.items all c.loop-index.invariant.allowed;
      counted = omega (arith, c.loop-index.invariant.counted, all);
    }
