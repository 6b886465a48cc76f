use Rattle.std.proofs.Common.{◌≡◌, ◌∙◌, ◌<◌, [], ap, arith, below_more, slice_index_or, sym}
use Rattle.std.specs.Prelude.{bytes_eq}
use Rattle.std.proofs.lemmas.List.FromFn.{get_or-map-range_with_len, length-map-range_with_len}
use Rattle.roster_instance.specs.Meaning.{day_count}
use Rattle.roster_answers.specs.Answer.{day_name, day_names}
use Rattle.roster_answers.proofs.AskedLemmas.{found_at, none_found}
use Rattle.roster_answers.proofs.asked.find_day.Goals as goal

pub returns-then-is_day-clause-found : goal.returns-then-is_day-clause-found
returns-then-is_day-clause-found c =
    let k = c.args.case.now in
    let name = c.args.name.now in
    let day = c.loop-day.day in
    let inside : day < day_count k = omega (arith, c.loop-day-test.true) in
    let at : slice_index_or (day_names k) day [] ≡ day_name day = get_or-map-range_with_len day_name 0 (day_count k) day day [] inside (omega arith) in
    found_at (day_names k) name day (omega (arith, inside, length-map-range_with_len day_name 0 (day_count k))) c.loop-day.invariant.others (ap (bytes_eq name) at ∙ sym c.is_day.ensures ∙ c.if-is_day.true)

pub loop-day-preserved : goal.loop-day-preserved
loop-day-preserved c =
    let k = c.args.case.now in
    let name = c.args.name.now in
    let day = c.loop-day.day in
    let inside : day < day_count k = omega (arith, c.loop-day-test.true) in
    let at : slice_index_or (day_names k) day [] ≡ day_name day = get_or-map-range_with_len day_name 0 (day_count k) day day [] inside (omega arith) in
    record { others = below_more _ _ c.loop-day.invariant.others (ap (bytes_eq name) at ∙ sym c.is_day.ensures ∙ c.if-is_day.false) }

pub returns-clause-found : goal.returns-clause-found
returns-clause-found c =
    let k = c.args.case.now in
    none_found (day_names k) c.args.name.now (λ m below. c.loop-day.invariant.others m (omega (arith, below, length-map-range_with_len day_name 0 (day_count k))))
