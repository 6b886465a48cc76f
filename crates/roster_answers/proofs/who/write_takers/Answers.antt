use Rattle.std.proofs.Common.{◌<◌, ◌+◌, ◌++◌, List, arith, drop, flat_map, get_or, length, subst, sym, take}
use Rattle.roster_text.specs.Io.{Stops, Writes}
use Rattle.roster_text.proofs.Texts.{Stops-after, Stops-append, Writes-append}
use Rattle.roster_answers.proofs.AnswerLemmas.{OnErr-always}
use Rattle.roster_who.specs.declared.taker.Taker.{Taker}
use Rattle.roster_answers.specs.Answer.{who_line}
use Rattle.roster_answers.proofs.WhoLemmas.{lines_more, lines_split}
use Rattle.roster_answers.proofs.who.write_takers.Goals as goal

nobody : Taker
nobody = record { nurse = 0; missed = 0; penalty = 0; changed = 0 }

pub returns-in_err-write_line-clause-err : goal.returns-in_err-write_line-clause-err
unfolding nobody
returns-in_err-write_line-clause-err g c =
    let contents = g.Out.Write.contents in
    let line = who_line c.args.case.now c.args.json c.args.takers.now.missed in
    let xs = c.args.takers.now.listed.items in
    let i = c.loop-index.index in
    let inside : i < length xs = omega (arith, c.loop-index-test.true, c.as_slice-listed.ensures.len, c.loop-index.auto.index-end) in
    let stops = Stops-after contents c.args.output.now c.loop-index.output c.write_line.new.output (flat_map line (take i xs)) (line (get_or c.as_slice-listed.result.now i nobody)) c.loop-index.invariant
    c.in_err-write_line.ensures.err in
    let of_list = subst (λ (ys : List Taker). Stops contents c.args.output.now c.write_line.new.output (flat_map line (take i xs) ++ line (get_or ys i nobody))) c.as_slice-listed.ensures.value stops in
    OnErr-always c.from_residual.result _
    (subst (Stops contents c.args.output.now c.write_line.new.output) (sym (lines_split line xs i nobody inside))
    (Stops-append contents c.args.output.now c.write_line.new.output _ (flat_map line (drop (i + 1) xs)) of_list))

pub loop-index-preserved : goal.loop-index-preserved
unfolding nobody
loop-index-preserved g c =
    let contents = g.Out.Write.contents in
    let line = who_line c.args.case.now c.args.json c.args.takers.now.missed in
    let xs = c.args.takers.now.listed.items in
    let i = c.loop-index.index in
    let inside : i < length xs = omega (arith, c.loop-index-test.true, c.as_slice-listed.ensures.len, c.loop-index.auto.index-end) in
    let written = Writes-append contents c.args.output.now c.loop-index.output c.write_line.new.output (flat_map line (take i xs)) (line (get_or c.as_slice-listed.result.now i nobody)) c.loop-index.invariant c.in_ok-write_line.ensures.ok in
    let of_list = subst (λ (ys : List Taker). Writes contents c.args.output.now c.write_line.new.output (flat_map line (take i xs) ++ line (get_or ys i nobody))) c.as_slice-listed.ensures.value written in
    subst (Writes contents c.args.output.now c.write_line.new.output) (sym (lines_more line xs i nobody inside)) of_list
