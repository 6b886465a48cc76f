use Rattle.std.proofs.Common.{◌<◌, ℕ, List, ◌++◌, None, Some, IfSome, length, take, rules, arith, ap}
use Rattle.std.specs.Prelude.{Option}
use Rattle.std.specs.Io.KnownBytes.{Consumes}
use Rattle.std.proofs.KnownBytes.{Consumes-trans}
use Rattle.std.proofs.lemmas.Grind.{common_steps}
use Rattle.roster_bundle.specs.Limits.{most_bytes}
use Rattle.roster_text.proofs.reading.read_all.Goals as goal

-- a reader that gave more than the limit has more bytes than the limit
more_than_limit : (a b : Option (List ℕ)) (bs : List ℕ) → Consumes a b bs → most_bytes < length bs → IfSome a (λ given. most_bytes < length given)
more_than_limit None b bs p h = tt
more_than_limit (Some x) None bs p h = absurd p
more_than_limit (Some x) (Some y) bs p h = let e = ap length p in grind (arith, common_steps)

pub returns-then-len-taken-clause-too_long : goal.returns-then-len-taken-clause-too_long
returns-then-len-taken-clause-too_long g c = λ _.
    more_than_limit _ _ _ (Consumes-trans _ _ _ _ _ c.reading.invariant.given c.in-Ok.ensures.bytes.0) (grind (arith, common_steps))

pub returns-then-len-taken-clause-taken : goal.returns-then-len-taken-clause-taken
returns-then-len-taken-clause-taken g c =
    (c.reading.bytes.items ++ take c.in-Ok.taken c.read.new.buf, search (rules, Consumes-trans))

pub reading-preserved : goal.reading-preserved
reading-preserved g c = record {
  given = rw c.in_ok-extend_from_slice.ensures.items (Consumes-trans _ _ _ _ _ c.reading.invariant.given c.in-Ok.ensures.bytes.0);
  kept = grind (arith, common_steps);
  failures = search rules;
  chunk = search rules;
}

pub returns-in_err-extend_from_slice-clause-taken : goal.returns-in_err-extend_from_slice-clause-taken
returns-in_err-extend_from_slice-clause-taken g c =
    (c.reading.bytes.items ++ take c.in-Ok.taken c.read.new.buf, search (rules, Consumes-trans))
