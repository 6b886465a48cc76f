use Rattle.std.proofs.Common.{◌≡◌, ◌∙◌, ◌+◌, ◌-◌, ◌<◌, ◌%◌, suc, ap, arith, subst}
use Rattle.roster_instance.specs.Meaning.{day_count}
use Rattle.roster_offers.specs.Lists.{offers_on}
use Rattle.roster_tables.specs.Days.{LabelsOn, PointersOn, extensions_below}
use Rattle.roster_tables.specs.Search.{extensions_on}
use Rattle.roster_tables.proofs.SearchLaws.{opened_labels, opened_pointers, opened_capacity, opened_extensions}
use Rattle.roster_tables.proofs.search.label_days.Goals as goal
use Rattle.roster_tables.proofs.search.label_days.Goals.{In-loop-day}

-- ---- one more day

-- the day, and its extensions
record DayHere (c : In-loop-day) : Type 0 where
  again : c.loop-day.day ≡ c.loop-day.day - 1 + 1
  within : c.loop-day.day - 1 < day_count c.args.days.now.search.case.now
  sum : extensions_below c.args.days.now c.loop-day.day ≡ extensions_below c.args.days.now (c.loop-day.day - 1) + extensions_on c.args.days.now.search.case.now c.args.days.now.search.nurse (offers_on c.args.days.now.search.offers.now) c.args.days.now.boxes.now (c.loop-day.day - 1)

day_here : (c : In-loop-day) → DayHere c
day_here c =
    let next : c.loop-day.day ≡ suc (c.loop-day.day - 1) = omega (arith, c.loop-day-test.true) in
    record {
      again = omega (arith, c.loop-day-test.true);
      within = omega (arith, c.loop-day.auto.day, c.loop-day-test.true, c.days-count.ensures.count);
      sum = ap (extensions_below c.args.days.now) next;
    }

-- ---- an even day

pub open_day-open-requires-clause-day : goal.open_day-open-requires-clause-day
open_day-open-requires-clause-day c = (day_here (goal.at.open_day-open-requires-clause-day c).In-loop-day).within

pub open_day-open-requires-clause-later : goal.open_day-open-requires-clause-later
open_day-open-requires-clause-later c =
    let odd : c.loop-day.day % 2 ≡ 1 = omega (arith, c.loop-day-test.true, c.if-day-eq0.true) in
    subst (λ d. LabelsOn c.args.days.now d c.loop-day.odd) (day_here (goal.at.open_day-open-requires-clause-later c).In-loop-day).again (c.loop-day.invariant.odd odd)

pub label_day-requires-clause-tables : goal.label_day-requires-clause-tables
label_day-requires-clause-tables c =
    opened_capacity c.open_day-open.ensures (day_here (goal.at.label_day-requires-clause-tables c).In-loop-day).within c.loop-day.even c.loop-day.pointers (omega (arith, c.requires.labels_capacity, c.loop-day.invariant.lengths.of_labels)) (omega (arith, c.requires.pointers_capacity, c.loop-day.invariant.pointers_length))

pub label_day-requires-clause-room : goal.label_day-requires-clause-room
label_day-requires-clause-room c =
    let here = day_here (goal.at.label_day-requires-clause-room c).In-loop-day in
    omega (arith, opened_extensions c.open_day-open.ensures here.within, c.loop-day.invariant.exactly, c.requires.room, here.sum)

pub loop-day-preserved-then-day-eq0 : goal.loop-day-preserved-then-day-eq0
loop-day-preserved-then-day-eq0 c =
    let i = c.loop-day.invariant in
    let here = day_here (goal.at.loop-day-preserved-then-day-eq0 c).In-loop-day in
    let is = c.open_day-open.ensures in
    let e = c.label_day.ensures in
    let new = c.label_day.new in
    record {
      even = λ _. opened_labels is here.within new.labels new.pointers e.tables;
      odd = λ odd. absurd (omega (arith, odd, c.if-day-eq0.true));
      pointers = opened_pointers is here.within c.loop-day.even new.labels c.loop-day.pointers new.pointers e.tables e.outside (subst (λ d. PointersOn c.args.days.now d c.loop-day.pointers) here.again i.pointers);
      lengths = record { of_labels = e.outside.of_labels.length_stays ∙ i.lengths.of_labels; of_numbers = i.lengths.of_numbers };
      pointers_length = e.outside.of_pointers.length_stays ∙ i.pointers_length;
      exactly = omega (arith, i.exactly, e.exactly, opened_extensions is here.within, here.sum);
    }

-- ---- an odd day

pub open_day-open-requires-else-day-eq0-clause-day : goal.open_day-open-requires-else-day-eq0-clause-day
open_day-open-requires-else-day-eq0-clause-day c = (day_here (goal.at.open_day-open-requires-else-day-eq0-clause-day c).In-loop-day).within

pub open_day-open-requires-else-day-eq0-clause-later : goal.open_day-open-requires-else-day-eq0-clause-later
open_day-open-requires-else-day-eq0-clause-later c =
    let even : c.loop-day.day % 2 ≡ 0 = omega (arith, c.loop-day-test.true, c.if-day-eq0.false) in
    subst (λ d. LabelsOn c.args.days.now d c.loop-day.even) (day_here (goal.at.open_day-open-requires-else-day-eq0-clause-later c).In-loop-day).again (c.loop-day.invariant.even even)

pub label_day-requires-else-day-eq0-clause-tables : goal.label_day-requires-else-day-eq0-clause-tables
label_day-requires-else-day-eq0-clause-tables c =
    opened_capacity c.open_day-open-else-day-eq0.ensures (day_here (goal.at.label_day-requires-else-day-eq0-clause-tables c).In-loop-day).within c.loop-day.odd c.loop-day.pointers
    (omega (arith, c.requires.labels_capacity, c.requires.equal_lengths, c.loop-day.invariant.lengths.of_numbers)) (omega (arith, c.requires.pointers_capacity, c.loop-day.invariant.pointers_length))

pub label_day-requires-else-day-eq0-clause-room : goal.label_day-requires-else-day-eq0-clause-room
label_day-requires-else-day-eq0-clause-room c =
    let here = day_here (goal.at.label_day-requires-else-day-eq0-clause-room c).In-loop-day in
    omega (arith, opened_extensions c.open_day-open-else-day-eq0.ensures here.within, c.loop-day.invariant.exactly, c.requires.room, here.sum)

pub loop-day-preserved : goal.loop-day-preserved
loop-day-preserved c =
    let i = c.loop-day.invariant in
    let here = day_here (goal.at.loop-day-preserved c).In-loop-day in
    let is = c.open_day-open-else-day-eq0.ensures in
    let e = c.label_day-else-day-eq0.ensures in
    let new = c.label_day-else-day-eq0.new in
    record {
      even = λ even. absurd (omega (arith, even, c.if-day-eq0.false));
      odd = λ _. opened_labels is here.within new.labels new.pointers e.tables;
      pointers = opened_pointers is here.within c.loop-day.odd new.labels c.loop-day.pointers new.pointers e.tables e.outside (subst (λ d. PointersOn c.args.days.now d c.loop-day.pointers) here.again i.pointers);
      lengths = record { of_labels = i.lengths.of_labels; of_numbers = e.outside.of_labels.length_stays ∙ i.lengths.of_numbers };
      pointers_length = e.outside.of_pointers.length_stays ∙ i.pointers_length;
      exactly = omega (arith, i.exactly, e.exactly, opened_extensions is here.within, here.sum);
    }

-- ---- after the first day

pub returns-clause-labels : goal.returns-clause-labels
returns-clause-labels c =
    let none : c.loop-day.day ≡ 0 = omega (arith, c.loop-day-test.false) in
    let even : c.loop-day.day % 2 ≡ 0 = omega (arith, none) in
    subst (λ d. LabelsOn c.args.days.now d c.loop-day.even) none (c.loop-day.invariant.even even)

pub returns-clause-pointers : goal.returns-clause-pointers
returns-clause-pointers c =
    let none : c.loop-day.day ≡ 0 = omega (arith, c.loop-day-test.false) in
    subst (λ d. PointersOn c.args.days.now d c.loop-day.pointers) none c.loop-day.invariant.pointers

pub returns-clause-exactly : goal.returns-clause-exactly
returns-clause-exactly c =
    let none : c.loop-day.day ≡ 0 = omega (arith, c.loop-day-test.false) in
    omega (arith, c.loop-day.invariant.exactly, ap (extensions_below c.args.days.now) none)
