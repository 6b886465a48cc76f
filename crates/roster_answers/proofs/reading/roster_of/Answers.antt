use Rattle.std.proofs.lemmas.Result.{err_from_is_err_and}
use Rattle.roster_bundle.specs.Token.{all_seen, tokens_of}
use Rattle.roster_text.proofs.SmallNumbers.{small_numbers}
use Rattle.roster_answers.proofs.AnswerLemmas.{as_many_solutions, first_of_roster}
use Rattle.roster_answers.proofs.reading.roster_of.Goals as goal

pub from_bundle-requires-clause-small : goal.from_bundle-requires-clause-small
from_bundle-requires-clause-small c = small_numbers (all_seen c.args.source.now (tokens_of c.args.source.now)) c.args.bundle.now c.requires

pub from_bundle-requires-2 : goal.from_bundle-requires-2
from_bundle-requires-2 c = as_many_solutions c.args.source.now c.args.bundle.now c.in_ok-case.case c.requires c.in_ok-case.ensures.meant

pub returns-in_err-roster-clause-refused : goal.returns-in_err-roster-clause-refused
returns-in_err-roster-clause-refused c =
    let ok = c.in_ok-case.ensures in
    let first = first_of_roster c.args.source.now c.args.bundle.now c.in_ok-case.case c.in_err-roster.field-0.0 ok.meant ok.taken c.in_err-roster.ensures.refused in
    let p = err_from_is_err_and c.from_residual-in_err-roster.result c.from_residual-in_err-roster.ensures.1 in
    rw (p.1, p.2) first
