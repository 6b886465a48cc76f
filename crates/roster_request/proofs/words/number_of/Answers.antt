use Rattle.std.proofs.Common.{◌≤◌, ℕ, Option, arith, subst}
use Rattle.std.specs.Prelude.{IsSomeAnd}
use Rattle.std.specs.Str.Parse.{ExplainsUnsignedError, HasUnsignedDigitsIfOk, ParsesUnsigned}
use Rattle.clap.specs.Words.{found_of, rows_of}
use Rattle.roster_request.specs.CommandLine.{IsNumberOf}
use Rattle.roster_request.proofs.NumberLemmas.{number_read}
use Rattle.roster_request.proofs.words.number_of.Goals as goal

pub unreachable-requires : goal.unreachable-requires
unreachable-requires c =
    let found = found_of c.args.given.now in
    let name = c.args.option.name.now in
    let most = c.args.option.most in
    let read = number_read name 0 most (omega arith) found (λ bs r. ParsesUnsigned 32 10 bs r × ExplainsUnsignedError 10 bs r × HasUnsignedDigitsIfOk bs r) (λ t r g. g.0) c.requires c.get_one.result c.get_one.ensures.value in
    subst (λ (o : Option ℕ). IsSomeAnd o (λ n. IsNumberOf name n (rows_of found) × (0 ≤ n) × (n ≤ most))) c.in_default.is read

pub returns-clause-number : goal.returns-clause-number
returns-clause-number c =
    let found = found_of c.args.given.now in
    let name = c.args.option.name.now in
    let most = c.args.option.most in
    let read = number_read name 0 most (omega arith) found (λ bs r. ParsesUnsigned 32 10 bs r × ExplainsUnsignedError 10 bs r × HasUnsignedDigitsIfOk bs r) (λ t r g. g.0) c.requires c.get_one.result c.get_one.ensures.value in
    (subst (λ (o : Option ℕ). IsSomeAnd o (λ n. IsNumberOf name n (rows_of found) × (0 ≤ n) × (n ≤ most))) c.in-Some.is read).0

pub returns-clause-range : goal.returns-clause-range
returns-clause-range c =
    let found = found_of c.args.given.now in
    let name = c.args.option.name.now in
    let most = c.args.option.most in
    let read = number_read name 0 most (omega arith) found (λ bs r. ParsesUnsigned 32 10 bs r × ExplainsUnsignedError 10 bs r × HasUnsignedDigitsIfOk bs r) (λ t r g. g.0) c.requires c.get_one.result c.get_one.ensures.value in
    (subst (λ (o : Option ℕ). IsSomeAnd o (λ n. IsNumberOf name n (rows_of found) × (0 ≤ n) × (n ≤ most))) c.in-Some.is read).2
