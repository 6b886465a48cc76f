use Rattle.std.proofs.Common.{◌<◌, length, sym, ◌∙◌, arith, rules}
use Rattle.roster_text.proofs.TokenLemmas.{IsNextStart, next_start_is, IsNextEnd, next_end_is, tokens_from-end}
use Rattle.roster_text.proofs.token.ScannerIterator.next.Goals as goal
use Rattle.roster_text.proofs.token.ScannerIterator.next.Goals.{After-next_start-start, After-token_end-self}

-- the position that `next_start` found
started : (c : After-next_start-start) → IsNextStart c.args.self.now.text.now c.args.self.now.at c.next_start-start.result.0
started c = next_start_is _ _ _ c.args.self.now.in_text c.args.self.now.between_tokens c.next_start-start.ensures.position

pub token_end-self-requires : goal.token_end-self-requires
token_end-self-requires c =
    let within = (started (goal.at.token_end-self-requires c).After-next_start-start).within in
    search rules

-- the position that `token_end` found
ended : (c : After-token_end-self) → IsNextEnd c.args.self.now.text.now c.next_start-start.result.0 c.token_end-self.result
ended c =
    let position = next_start_is _ _ _ c.args.self.now.in_text c.args.self.now.between_tokens c.next_start-start.ensures.position in
    let inside : c.next_start-start.result.0 < length c.args.self.now.text.now = search rules in
    next_end_is _ _ _ inside position.between (position.stands inside) c.token_end-self.ensures

pub returns-then-start-self-clause-steps : goal.returns-then-start-self-clause-steps
returns-then-start-self-clause-steps c =
    let none = tokens_from-end c.args.self.now.text.now c.next_start-start.result.0 (omega arith) in
    ((started (goal.at.returns-then-start-self-clause-steps c).After-next_start-start).same ∙ none, none)

pub invariant_of-self-2 : goal.invariant_of-self-2
invariant_of-self-2 c =
    let end = ended (goal.at.invariant_of-self-2 c).After-token_end-self in
    record { in_text = end.within; on_line = c.next_start-start.ensures.line ∙ sym end.same_line; between_tokens = end.between }

pub returns-clause-steps : goal.returns-clause-steps
returns-clause-steps c =
    let end = ended (goal.at.returns-clause-steps c).After-token_end-self in
    (started (goal.at.returns-clause-steps c).After-next_start-start).same ∙ rw c.next_start-start.ensures.line end.first

pub returns-clause-goes : goal.returns-clause-goes
returns-clause-goes c =
    let step = returns-clause-steps c in
    search rules
