use Rattle.std.proofs.Common.{◌∙◌, ap, not}
use Rattle.roster_instance.specs.Faults.{fault_if, first_fault}
use Rattle.roster_instance.specs.declared.fault.CaseFault.TheVariants.{Repeated}
use Rattle.roster_instance.proofs.NameLemmas.{repeated-new}
use Rattle.roster_instance.proofs.names.Names.add_token.Goals as goal

pub returns-then-not-branch-clause-first : goal.returns-then-not-branch-clause-first
returns-then-not-branch-clause-first c = λ earlier are other.
    ap first_fault (repeated-new c.args.source.now c.args.self.now earlier c.args.token c.text.result.now c.in_ok-add.field-0 are c.text.ensures c.in_ok-add.ensures.taken
    ∙ ap (λ new. fault_if (not new) (Repeated c.args.token.line)) c.if-not-branch.true)

pub returns-clause-none : goal.returns-clause-none
returns-clause-none c = λ earlier are.
    repeated-new c.args.source.now c.args.self.now earlier c.args.token c.text.result.now c.in_ok-add.field-0 are c.text.ensures c.in_ok-add.ensures.taken
    ∙ ap (λ new. fault_if (not new) (Repeated c.args.token.line)) c.if-not-branch.false
