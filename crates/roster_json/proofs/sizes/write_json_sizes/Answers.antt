use Rattle.std.proofs.Common.{◌≡◌, arith, flat_map, subst}
use Rattle.std.specs.List.{range_with_len}
use Rattle.roster_instance.specs.Meaning.{nurse_count}
use Rattle.roster_text.specs.Io.{Stops, Writes}
use Rattle.roster_json.specs.Reports.{json_sizes, size_line}
use Rattle.roster_json.proofs.Writing.{OnErr-always, range_more, range_stops}
use Rattle.roster_json.proofs.sizes.write_json_sizes.Goals as goal

pub returns-in_err-write_size-clause-err : goal.returns-in_err-write_size-clause-err
unfolding json_sizes
returns-in_err-write_size-clause-err g c =
    let contents = g.W.Write.contents in
    let line = size_line c.args.case.now in
    OnErr-always c.from_residual.result _
    (subst (λ n. Stops contents c.args.out.now c.write_size.new.out (flat_map line (range_with_len 0 n))) c.nurses-nurse-end.ensures.count
    (range_stops contents _ _ _ line c.loop-nurse.nurse c.loop-nurse.invariant c.nurses-nurse-end.result c.loop-nurse-test.true c.in_err-write_size.ensures.err))

pub loop-nurse-preserved : goal.loop-nurse-preserved
loop-nurse-preserved g c =
    range_more g.W.Write.contents _ _ _ (size_line c.args.case.now) c.loop-nurse.nurse c.loop-nurse.invariant c.in_ok-write_size.ensures.ok

pub returns-clause-ok : goal.returns-clause-ok
unfolding json_sizes
returns-clause-ok g c =
    let all : c.loop-nurse.nurse ≡ nurse_count c.args.case.now = omega (arith, c.loop-nurse-test.false, c.loop-nurse.auto.nurse-end, c.nurses-nurse-end.ensures.count) in
    subst (λ n. Writes g.W.Write.contents c.args.out.now c.loop-nurse.out (flat_map (size_line c.args.case.now) (range_with_len 0 n))) all c.loop-nurse.invariant
