use Rattle.std.proofs.Common.{◌∙◌, ◌+◌, ◌<◌, ap, arith, length, map, take}
use Rattle.roster_instance.specs.Rosters.{Row, Rows}
use Rattle.roster_instance.proofs.PutRows.{days-with_row, one_row_more, same_days, same_nurses}
use Rattle.roster_instance.proofs.roster.Roster.put_rows.Goals as goal

pub put_row-requires-clause-days : goal.put_row-requires-clause-days
put_row-requires-clause-days c =
    ap (λ (row : Row). length row) c.row.ensures ∙ same_days c.loop-nurse.self c.args.rows.now c.loop-nurse.invariant.days c.loop-nurse.nurse (omega arith)

pub loop-nurse-preserved : goal.loop-nurse-preserved
loop-nurse-preserved c =
    let r = c.loop-nurse.self in
    let other = c.args.rows.now in
    let nurse = c.loop-nurse.nurse in
    let inside : nurse < length other = omega arith in
    let within : nurse < length r = omega (arith, same_nurses r other c.loop-nurse.invariant.days) in
    let as_many = ap (λ (row : Row). length row) c.row.ensures ∙ same_days r other c.loop-nurse.invariant.days nurse inside in
    record {
      days = ap (λ (rows : Rows). map (λ (row : Row). length row) rows) c.put_row.ensures ∙ days-with_row r nurse c.row.result.now within as_many ∙ c.loop-nurse.invariant.days;
      before = ap (λ (rows : Rows). take (nurse + 1) rows) c.put_row.ensures ∙ one_row_more r other nurse c.row.result.now within inside c.loop-nurse.invariant.before c.row.ensures;
    }
