use Rattle.std.proofs.Common.{◌≡◌, ◌+◌, ◌-◌, arith, flat_map, subst, sym}
use Rattle.std.specs.List.{range_with_len}
use Rattle.std.proofs.lemmas.Result.{err_from_is_err_and}
use Rattle.roster_text.specs.Io.{BreaksIn, Sends, Writes}
use Rattle.roster_text.proofs.Texts.{BreaksIn-after, BreaksIn-append, Sends-append, Sends-nil, StopsIn-from_breaks_in}
use Rattle.roster_bundle.proofs.Ranges.{flat_map-range_more}
use Rattle.roster_instance.specs.Meaning.{nurse_count}
use Rattle.roster_reports.specs.Lines.{sizes_line}
use Rattle.roster_reports.proofs.PieceLemmas.{sizes_text-all, sizes_text-split}
use Rattle.roster_reports.proofs.sizes.write_sizes.Goals as goal

pub loop-nurse-init : goal.loop-nurse-init
loop-nurse-init g c = Sends-nil g.W.Write.contents c.args.output.now 0 (omega arith)

pub returns-in_err-sent-clause-err : goal.returns-in_err-sent-clause-err
returns-in_err-sent-clause-err g c =
    let contents = g.W.Write.contents in
    let new = c.send_sizes_of.new.output in
    let line = sizes_line c.args.case.now in
    let i = c.loop-nurse.nurse in
    let n = c.nurses-nurse-end.result in
    let fault = c.in_err-sent.field-0.0 in
    let p = err_from_is_err_and c.from_residual.result c.from_residual.ensures.1 in
    let breaks =
    BreaksIn-append contents c.args.output.now new 0 _ (flat_map line (range_with_len (i + 1) (n - (i + 1)))) fault
    (BreaksIn-after contents c.args.output.now c.loop-nurse.output new 0 c.loop-nurse.sent (flat_map line (range_with_len 0 i)) (line i) fault c.loop-nurse.invariant c.in_err-sent.ensures.err) in
    rw (p.1, p.2) (StopsIn-from_breaks_in contents c.args.output.now new _ fault
    (subst (λ text. BreaksIn contents c.args.output.now new 0 text fault) (sym (sizes_text-split c.args.case.now i n c.loop-nurse-test.true c.nurses-nurse-end.ensures.count)) breaks))

pub loop-nurse-preserved : goal.loop-nurse-preserved
loop-nurse-preserved g c =
    let line = sizes_line c.args.case.now in
    let i = c.loop-nurse.nurse in
    subst (Sends g.W.Write.contents c.args.output.now c.send_sizes_of.new.output 0 c.in_ok-sent.sent) (sym (flat_map-range_more line i))
    (Sends-append g.W.Write.contents c.args.output.now c.loop-nurse.output c.send_sizes_of.new.output 0 c.loop-nurse.sent c.in_ok-sent.sent (flat_map line (range_with_len 0 i)) (line i) c.loop-nurse.invariant c.in_ok-sent.ensures.ok)

pub returns-clause-ok : goal.returns-clause-ok
returns-clause-ok g c =
    let all : c.loop-nurse.nurse ≡ nurse_count c.args.case.now = omega (arith, c.loop-nurse-test.false, c.loop-nurse.auto.nurse-end, c.nurses-nurse-end.ensures.count) in
    subst (Writes g.W.Write.contents c.args.output.now c.loop-nurse.output) (sizes_text-all c.args.case.now c.loop-nurse.nurse all) c.loop-nurse.invariant.writes
