use Rattle.std.proofs.Common.{◌≡◌, ◌∙◌, ◌+◌, ap, arith, subst, sym}
use Rattle.roster_rules.specs.Prefix.{Summary}
use Rattle.roster_state.specs.Codes.{code_of}
use Rattle.roster_state.proofs.CodeLemmas.{place-code, places-within}
use Rattle.roster_state.proofs.block.Block.first.Goals as goal

none_yet : (c : goal.After-code) → c.args.self.now.assignments ≡ 0
none_yet c = subst (λ (s : Summary). s.assignments ≡ 0) c.self.view_is c.self.invariant

is : (c : goal.After-code) → c.code.result ≡ code_of c.args.ranges.now c.args.self.now
is c = c.code.ensures.code ∙ ap (code_of c.args.ranges.now) c.self.view_is

pub returns-clause-each : goal.returns-clause-each
returns-clause-each c a inside = place-code _ _ (none_yet c) a ∙ ap (λ n. n + a) (sym (is c))

pub returns-clause-within : goal.returns-clause-within
returns-clause-within c = omega (arith, is c, places-within c.args.ranges.now c.args.self.now (none_yet c) c.requires)
