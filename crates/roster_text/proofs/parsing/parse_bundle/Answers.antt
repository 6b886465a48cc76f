use Rattle.std.proofs.Common.{◌≡◌, length}
use Rattle.roster_bundle.specs.SmallNumbers.{SaysSmallNumbers}
use Rattle.roster_bundle.specs.Token.{all_seen, line_at_end}
use Rattle.roster_text.proofs.FirstFaults.{is_spelled, is_accepted, is_refused, of_spelled}
use Rattle.roster_text.proofs.SmallNumbers.{small_numbers}
use Rattle.roster_text.proofs.parsing.parse_bundle.Goals as goal

pub returns-clause-spelled : goal.returns-clause-spelled
returns-clause-spelled c = is_spelled (line_at_end c.args.source.now) (all_seen c.args.source.now c.args.tokens.now) c.bundle_of.result c.bundle_of.ensures

pub returns-clause-small : goal.returns-clause-small
returns-clause-small c = of_spelled SaysSmallNumbers (all_seen c.args.source.now c.args.tokens.now) c.bundle_of.result (small_numbers _) (returns-clause-spelled c)

pub returns-clause-weeks : goal.returns-clause-weeks
returns-clause-weeks c =
    of_spelled (λ b. length b.week_data ≡ b.scenario.weeks.value) (all_seen c.args.source.now c.args.tokens.now) c.bundle_of.result (λ b s. s.week_data_parts) (returns-clause-spelled c)

pub returns-clause-solutions : goal.returns-clause-solutions
returns-clause-solutions c =
    of_spelled (λ b. length b.solutions ≡ b.scenario.weeks.value) (all_seen c.args.source.now c.args.tokens.now) c.bundle_of.result (λ b s. s.solution_parts) (returns-clause-spelled c)

pub returns-clause-accepted : goal.returns-clause-accepted
returns-clause-accepted c = is_accepted (line_at_end c.args.source.now) (all_seen c.args.source.now c.args.tokens.now) c.bundle_of.result c.bundle_of.ensures

pub returns-clause-refused : goal.returns-clause-refused
returns-clause-refused c = is_refused (line_at_end c.args.source.now) (all_seen c.args.source.now c.args.tokens.now) c.bundle_of.result c.bundle_of.ensures
