use Rattle.std.proofs.Common.{◌∙◌, ◌≤◌, ℕ, List, None, Option, Some, arith, inl, inr, subst, sym}
use Rattle.std.specs.Prelude.{IfSome, IsSomeAnd}
use Rattle.std.specs.Str.Parse.{ExplainsUnsignedError, HasUnsignedDigitsIfOk, ParsesUnsigned}
use Rattle.clap.specs.Words.{Row, Text, found_of, rows_of}
use Rattle.clap.proofs.WalkLemmas.{one_text-rows}
use Rattle.roster_request.specs.CommandLine.{IsNumberIfGiven, IsNumberOf}
use Rattle.roster_request.proofs.NumberLemmas.{number_read}
use Rattle.roster_request.proofs.words.number_if_given.Goals as goal
use Rattle.roster_request.proofs.words.number_if_given.Goals.{After-get_one}

-- a number in the range, or none
abbrev IsGiven : Text → ℕ → ℕ → List Row → Option ℕ → Type 0
IsGiven name least most rows o = IsNumberIfGiven name o rows × IfSome o (λ n. (least ≤ n) × (n ≤ most))

given_some : (name : Text) (least most : ℕ) (rows : List Row) (o : Option ℕ) → IsSomeAnd o (λ n. IsNumberOf name n rows × (least ≤ n) × (n ≤ most)) → IsGiven name least most rows o
given_some name least most rows None h = absurd h
given_some name least most rows (Some n) h = (h.0, (h.1, h.2))

given : (c : After-get_one) → IsGiven c.args.option.name.now c.args.option.least c.args.option.most (rows_of (found_of c.args.given.now)) c.get_one.result
given c =
    let found = found_of c.args.given.now in
    let name = c.args.option.name.now in
    let least = c.args.option.least in
    let most = c.args.option.most in
    elim c.requires [
      | inl none ↦ subst (IsGiven name least most (rows_of found)) (sym (c.get_one.ensures.none (one_text-rows found name ∙ none))) (none, tt)
      | inr has ↦
          given_some name least most (rows_of found) c.get_one.result
          (number_read name least most (omega arith) found (λ bs r. ParsesUnsigned 32 10 bs r × ExplainsUnsignedError 10 bs r × HasUnsignedDigitsIfOk bs r) (λ t r g. g.0) has c.get_one.result c.get_one.ensures.value)
    ]

pub returns-clause-number : goal.returns-clause-number
returns-clause-number c = (given (goal.at.returns-clause-number c).After-get_one).0

pub returns-clause-range : goal.returns-clause-range
returns-clause-range c = (given (goal.at.returns-clause-range c).After-get_one).1
