use Rattle.std.proofs.Common.{◌≡◌, ℕ, ◌+◌, ◌*◌, min, take, arith}
use Rattle.std.specs.Str.Parse.{digits_value}
use Rattle.std.proofs.lemmas.Int.Digits.{digits_value_more}
use Rattle.roster_text.proofs.parser.number_of.Goals as goal

capped : (v d : ℕ) → min (min v 1000000 * 10 + d) 1000000 ≡ min (v * 10 + d) 1000000
capped v d = omega arith

pub loop-byte-preserved : goal.loop-byte-preserved
loop-byte-preserved c =
    let more = digits_value_more 10 c.args.text.now c.loop-byte.byte-index c.loop-byte-test.true in
    let v = digits_value 10 (take c.loop-byte.byte-index c.args.text.now) in
    rw (c.min-value.ensures, c.digit_value.ensures.value, c.loop-byte.invariant, more) (capped v _)
