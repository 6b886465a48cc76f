use Rattle.std.proofs.Common.{◌∙◌, ◌<◌, ap, ap₂, arith}
use Rattle.roster_instance.specs.Meaning.{nurse_count, week_count}
use Rattle.roster_instance.specs.Rosters.{is_row_of}
use Rattle.roster_instance.proofs.RosterFacts.{row_fits}
use Rattle.roster_tests.proofs.state_tests.rows_cost.Goals as goal

pub row_cost-requires-clause-nurse : goal.row_cost-requires-clause-nurse
row_cost-requires-clause-nurse c = omega (arith, c.loop-nurse-test.true, c.nurses-nurse-end.ensures.count, ap nurse_count (c.new-meter.ensures.same ∙ c.loop-nurse.invariant))

pub row_cost-requires-clause-row : goal.row_cost-requires-clause-row
row_cost-requires-clause-row c =
    let within : c.loop-nurse.nurse < nurse_count c.args.case.now = omega (arith, c.loop-nurse-test.true, c.nurses-nurse-end.ensures.count) in
    ap₂ is_row_of (c.new-meter.ensures.same ∙ c.loop-nurse.invariant) c.row.ensures ∙ row_fits c.args.case.now c.args.roster.now c.loop-nurse.nurse c.requires within

pub row_cost-requires-clause-room : goal.row_cost-requires-clause-room
row_cost-requires-clause-room c = omega (arith, c.new-meter.ensures.none, c.keeps_limits.ensures.weeks, ap week_count (c.new-meter.ensures.same ∙ c.loop-nurse.invariant))
