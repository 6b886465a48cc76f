use Rattle.std.proofs.Common.{◌≡◌, ◌+◌, ◌-◌, ◌<◌, ap, arith, length, subst, sym, ◌∙◌, slice_index_or}
use Rattle.std.proofs.lemmas.List.{get_or-drop, get_or-take}
use Rattle.roster_tables.specs.Halves.{IsWritten, halves}
use Rattle.roster_tables.proofs.HalfLaws.{written_both}
use Rattle.roster_tables.proofs.pointers.set_halves.Goals as goal

pub returns-then-half-first : goal.returns-then-half-first
returns-then-half-first c =
    let place : length c.args.bytes.now + (c.args.first - length c.args.bytes.now) ≡ c.args.first = omega (arith, c.if-half-first.true) in
    subst (λ j. IsWritten j c.args.run.now (halves c.args.bytes.now) (halves c.set_high_at.new.bytes)) place c.set_high_at.ensures

-- ---- a front in the low halves, the rest in the high ones

pub set_low_at-requires-else-half-first-clause-small : goal.set_low_at-requires-else-half-first-clause-small
set_low_at-requires-else-half-first-clause-small c i below =
    let capacity = length c.args.bytes.now - c.args.first in
    let low : i < capacity = omega (arith, below, c.split_at.ensures.front_len) in
    subst (λ k. k < 16) (sym (ap (λ xs. slice_index_or xs i 0) c.split_at.ensures.front ∙ get_or-take capacity c.args.run.now i 0 low)) (c.requires.small i (omega (arith, low, c.if-end-half.false)))

pub set_high_at-requires-else-half-first-clause-small : goal.set_high_at-requires-else-half-first-clause-small
set_high_at-requires-else-half-first-clause-small c i below =
    let capacity = length c.args.bytes.now - c.args.first in
    let inside : capacity + i < length c.args.run.now = omega (arith, below, c.split_at.ensures.back_len) in
    subst (λ k. k < 16) (sym (ap (λ xs. slice_index_or xs i 0) c.split_at.ensures.back ∙ get_or-drop capacity c.args.run.now i 0)) (c.requires.small (capacity + i) inside)

pub returns-else-half-first : goal.returns-else-half-first
returns-else-half-first c =
    let half = length c.args.bytes.now in
    let first = c.args.first in
    let middle = c.set_low_at-else-half-first.new.bytes in
    let new = halves c.set_high_at-else-half-first.new.bytes in
    let back = c.split_at.result.1.now in
    let place : length middle + 0 ≡ first + (half - first) = omega (arith, c.set_low_at-else-half-first.auto.bytes, c.if-half-first.false) in
    written_both first c.args.run.now (half - first) (omega (arith, c.if-end-half.false)) c.split_at.result.0.now back c.split_at.ensures.front c.split_at.ensures.back (halves c.args.bytes.now) (halves middle) new c.set_low_at-else-half-first.ensures
    (subst (λ j. IsWritten j back (halves middle) new) place c.set_high_at-else-half-first.ensures)
