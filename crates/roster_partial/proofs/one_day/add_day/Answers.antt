use Rattle.std.proofs.Common.{◌≡◌, ◌∙◌, ◌+◌, ◌-◌, ◌*◌, ◌<◌, ◌≤◌, [], IfSome, IsSomeAnd, Option, ap, arith, drop, length, refl, subst, suc, sym, take, ℕ}
use Rattle.std.proofs.lemmas.List.{drop_all, get_or-take, length-drop, take_all}
use Rattle.arrayvec.specs.ArrayVec.{ArrayVec}
use Rattle.roster_bundle.specs.Limits.{greatest_u64}
use Rattle.roster_rules.specs.Prefix.{Summary}
use Rattle.roster_offers.specs.Cheapest.{cheaper, cheapest}
use Rattle.roster_offers.proofs.Cheapest.{cheaper_none}
use Rattle.roster_state.specs.Codes.{shift_digit, sizes_of}
use Rattle.roster_state.proofs.CodeLemmas.{fits-all}
use Rattle.roster_partial.specs.declared.rows.Entry.{Entry}
use Rattle.roster_partial.specs.Allowed.{AreListed, MayFollow, listed_after}
use Rattle.roster_partial.specs.Rows.{IsEntryOf, best_of, count_in, day_in, entry_numbered, rows_in}
use Rattle.roster_partial.specs.Searches.{best_put, days_on, entry_before, offered}
use Rattle.roster_partial.proofs.TransitionLaws.{read_day}
use Rattle.roster_partial.proofs.AllowedLaw.{look_some}
use Rattle.roster_partial.proofs.AddLaws.{cheapest_of_all, count_more, entry_of_day, next_entry, extensions_left}
use Rattle.roster_partial.proofs.RowCells.{rows_counted}
use Rattle.roster_partial.proofs.RowLaws.{pruned_is_none}
use Rattle.roster_partial.proofs.one_day.add_day.Goals as goal
use Rattle.roster_partial.proofs.one_day.add_day.Goals.{After-indices_after, In-befores}

-- the day's offers, as they are read
offers : (c : In-befores) → c.as_slice-offers.result.now ≡ offered c.args.limited.now.completion_bounds.search c.args.at.day
offers c =
    let search = c.args.limited.now.completion_bounds.search in
    c.as_slice-offers.ensures.value ∙ sym (read_day search.offers.now c.args.at.day c.index-offers-at.result (omega (arith, c.requires.day, c.args.limited.now.completion_bounds.search.for_nurse.days)) c.index-offers-at.is)

-- the partial row, as it is in the list before those that were appended
read : (c : In-befores) → entry_numbered (rows_in c.befores.rows) c.befores.before ≡ entry_before c.args.at c.befores.rows c.befores.before
read c = sym (get_or-take c.args.at.end (rows_in c.befores.rows) c.befores.before _ c.befores-test.true)

-- as it was before
stood : (c : In-befores) → entry_before c.args.at c.befores.rows c.befores.before ≡ entry_numbered (rows_in c.args.rows.now) c.befores.before
stood c = ap (λ xs. entry_numbered xs c.befores.before) c.befores.invariant.front

inside : (c : In-befores) → c.befores.before < count_in c.befores.rows
inside c = omega (arith, c.befores-test.true, c.befores.invariant.rows.inside, rows_counted c.befores.rows (count_in c.befores.rows) refl)

entry : (c : In-befores) → IsEntryOf (days_on c.args.limited.now c.args.at.day (rows_in c.args.rows.now)) (entry_numbered (rows_in c.args.rows.now) c.befores.before)
entry c =
    entry_of_day c.args.limited.now c.args.at.day c.args.first (rows_in c.args.rows.now) c.requires.rows.inside c.befores.before (omega (arith, c.befores.auto.before)) (omega (arith, c.befores-test.true, c.requires.end)) c.requires.rows.entries

-- enough extensions are left for the offers of one row more
left : (c : In-befores) → c.befores.meter + length (offered c.args.limited.now.completion_bounds.search c.args.at.day) ≤ greatest_u64
left c =
    extensions_left c.args.meter.now c.befores.meter (c.befores.before - c.args.first) (c.args.at.end - c.args.first) (length (offered c.args.limited.now.completion_bounds.search c.args.at.day)) greatest_u64
    (omega (arith, c.befores.auto.before, c.befores-test.true)) c.befores.invariant.counted c.requires.room

-- what is counted with the offers that may follow
counts : (c : After-indices_after) → c.as_slice-offers.result.now ≡ offered c.args.limited.now.completion_bounds.search c.args.at.day → (c.befores.meter ≤ c.allow.new.meter) × (c.allow.new.meter + length c.indices_after.result.now ≤ c.befores.meter + length (offered c.args.limited.now.completion_bounds.search c.args.at.day))
counts c same =
    let listed = subst (λ (o : Option (ArrayVec ℕ)). IsSomeAnd o (λ indices. (c.befores.meter ≤ c.allow.new.meter) × (c.allow.new.meter + length indices.items ≤ c.befores.meter + length c.as_slice-offers.result.now))) c.indices_after.ensures c.allow.ensures.listed in
    (listed.0, omega (arith, ap length same, listed.1))

pub cost_at-cost-requires-clause-inside : goal.cost_at-cost-requires-clause-inside
cost_at-cost-requires-clause-inside c = inside c

pub row_state-state-requires-clause-inside : goal.row_state-state-requires-clause-inside
row_state-state-requires-clause-inside c = inside (goal.at.row_state-state-requires-clause-inside c).In-befores

pub allow-requires-clause-digit : goal.allow-requires-clause-digit
allow-requires-clause-digit c =
    let search = c.args.limited.now.completion_bounds.search in
    let of = (goal.at.allow-requires-clause-digit c).In-befores in
    let digit = ap (λ (s : Summary). shift_digit s.last) (c.row_state-state.ensures ∙ ap (λ (e : Entry). e.state) (read of ∙ stood of)) in
    omega (arith, digit, (fits-all (sizes_of search.case.now search.nurse) _ (entry of).fits).last, c.keeps_limits.ensures.shifts, c.befores.invariant.lasts)

pub allow-requires-clause-each : goal.allow-requires-clause-each
allow-requires-clause-each c = subst (λ xs. AreListed c.args.limited.now.completion_bounds.search.case.now xs c.befores.allowed) (sym (offers (goal.at.allow-requires-clause-each c).In-befores)) c.befores.invariant.listed

pub allow-requires-clause-room : goal.allow-requires-clause-room
allow-requires-clause-room c =
    let of = (goal.at.allow-requires-clause-room c).In-befores in
    omega (arith, ap length (offers of), left of)

pub indices_after-requires-clause-listed : goal.indices_after-requires-clause-listed
indices_after-requires-clause-listed c = look_some c.befores.meter c.allow.new.meter (c.befores.meter + length c.as_slice-offers.result.now) (listed_after c.allow.new.allowed c.row_state-state.result.last) c.allow.ensures.listed

pub befores-init : goal.befores-init
befores-init c =
    let limited = c.args.limited.now in
    let at = c.args.at in
    let rows = rows_in c.args.rows.now in
    let none : day_in c.args.rows.now at.end ≡ [] = drop_all at.end rows (omega (arith, c.requires.end)) in
    let no_days : c.args.first - c.args.first ≡ 0 = omega arith in
    let front = take_all at.end rows (omega (arith, c.requires.end)) in
    record {
      rows = record { inside = omega (arith, c.requires.end); entries = λ k d below. absurd (omega (arith, below, ap length none)); held = c.requires.rows.held };
      front = front;
      best = ap (cheapest (best_of (days_on limited (suc at.day) (take at.end rows)))) none ∙ sym (ap (λ n. cheapest (best_of (days_on limited at.day rows)) (take n (day_in c.args.rows.now c.args.first))) no_days);
      counted = omega arith;
      each = omega (arith, c.requires.end);
      lasts = c.none_allowed-allowed.ensures.long;
      listed = c.none_allowed-allowed.ensures.each limited.completion_bounds.search.case.now (offered limited.completion_bounds.search at.day);
    }

-- no row within the limit begins with a partial row that costs more than the limit
pub befores-preserved-then-cost-limited : goal.befores-preserved-then-cost-limited
befores-preserved-then-cost-limited c =
    let limited = c.args.limited.now in
    let at = c.args.at in
    let first = c.args.first in
    let before = c.befores.before in
    let rows = rows_in c.args.rows.now in
    let of = (goal.at.befores-preserved-then-cost-limited c).In-befores in
    let from : first ≤ before = omega (arith, c.befores.auto.before) in
    let days = days_on limited at.day rows in
    let costs = c.cost_at-cost.ensures ∙ ap (λ (e : Entry). e.cost) (read of ∙ stood of) in
    let none = pruned_is_none days (entry_numbered rows before) (omega (arith, costs, c.if-cost-limited.true)) in
    let i = c.befores.invariant in
    record {
      rows = i.rows;
      front = i.front;
      best = next_entry (best_of days) rows first before _ _ from (omega (arith, c.befores-test.true, c.requires.end)) i.best (sym (ap (cheaper (best_put limited at c.befores.rows)) none ∙ cheaper_none (best_put limited at c.befores.rows)));
      counted = count_more c.args.meter.now c.befores.meter c.befores.meter (length (offered limited.completion_bounds.search at.day)) (before - first) (before + 1 - first) (omega (arith, from)) i.counted (omega arith);
      each = i.each;
      lasts = i.lasts;
      listed = i.listed;
    }

pub extend_by_all-requires-clause-room : goal.extend_by_all-requires-clause-room
extend_by_all-requires-clause-room c =
    let g = goal.at.extend_by_all-requires-clause-room c in
    omega (arith, (counts g.After-indices_after (offers g.In-befores)).1, left g.In-befores)

pub extend_by_all-requires-clause-allowed : goal.extend_by_all-requires-clause-allowed
extend_by_all-requires-clause-allowed c =
    let case = c.args.limited.now.completion_bounds.search.case.now in
    let last = c.row_state-state.result.last in
    subst (λ xs. MayFollow case last xs c.indices_after.result.now) (offers (goal.at.extend_by_all-requires-clause-allowed c).In-befores)
    (subst (λ (o : Option (ArrayVec ℕ)). IfSome o (λ indices. MayFollow case last c.as_slice-offers.result.now indices.items)) c.indices_after.ensures (c.allow.ensures.each last))

pub extend_by_all-requires-clause-onward : goal.extend_by_all-requires-clause-onward
extend_by_all-requires-clause-onward c =
    let of = (goal.at.extend_by_all-requires-clause-onward c).In-befores in
    record {
      inside = c.befores-test.true;
      entry = subst (λ earlier. IsEntryOf (days_on c.args.limited.now c.args.at.day earlier) (entry_numbered earlier c.befores.before)) (sym c.befores.invariant.front) (entry of);
      state = c.row_state-state.ensures ∙ ap (λ (e : Entry). e.state) (read of);
      cost = c.cost_at-cost.ensures ∙ ap (λ (e : Entry). e.cost) (read of);
      low = c.if-cost-limited.false;
    }

pub returns-then-not-extend_by_all-clause-front : goal.returns-then-not-extend_by_all-clause-front
returns-then-not-extend_by_all-clause-front c = c.extend_by_all.ensures.front ∙ c.befores.invariant.front

pub returns-then-not-extend_by_all-clause-counted : goal.returns-then-not-extend_by_all-clause-counted
returns-then-not-extend_by_all-clause-counted c =
    let g = goal.at.returns-then-not-extend_by_all-clause-counted c in
    let size = length (offered c.args.limited.now.completion_bounds.search c.args.at.day) in
    let all = c.args.at.end - c.args.first in
    omega (arith, c.extend_by_all.ensures.counted, (counts g.After-indices_after (offers g.In-befores)).1, extensions_left c.args.meter.now c.befores.meter (c.befores.before - c.args.first) all size (c.args.meter.now + all * size) (omega (arith, c.befores.auto.before, c.befores-test.true)) c.befores.invariant.counted (omega arith))

pub returns-then-not-extend_by_all-clause-each : goal.returns-then-not-extend_by_all-clause-each
returns-then-not-extend_by_all-clause-each c =
    let g = goal.at.returns-then-not-extend_by_all-clause-each c in
    omega (arith, c.befores.invariant.each, c.extend_by_all.ensures.each, (counts g.After-indices_after (offers g.In-befores)).0)

pub befores-preserved : goal.befores-preserved
befores-preserved c =
    let limited = c.args.limited.now in
    let at = c.args.at in
    let first = c.args.first in
    let before = c.befores.before in
    let g = goal.at.befores-preserved c in
    let now = c.extend_by_all.new.rows in
    let from : first ≤ before = omega (arith, c.befores.auto.before) in
    let offers = offers g.In-befores in
    let counts = counts g.After-indices_after offers in
    let i = c.befores.invariant in
    let next =
    subst (λ earlier. best_put limited at now ≡ cheaper (best_put limited at c.befores.rows) (best_of (days_on limited at.day earlier) (entry_numbered earlier before))) i.front (c.extend_by_all.ensures.best c.if-not-extend_by_all.false) in
    record {
      rows = c.extend_by_all.ensures.rows;
      front = c.extend_by_all.ensures.front ∙ i.front;
      best = next_entry (best_of (days_on limited at.day (rows_in c.args.rows.now))) (rows_in c.args.rows.now) first before _ _ from (omega (arith, c.befores-test.true, c.requires.end)) i.best next;
      counted = count_more c.args.meter.now c.befores.meter c.extend_by_all.new.meter (length (offered limited.completion_bounds.search at.day)) (before - first) (before + 1 - first) (omega (arith, from)) i.counted (omega (arith, c.extend_by_all.ensures.counted, counts.1));
      each = omega (arith, i.each, c.extend_by_all.ensures.each, counts.0);
      lasts = c.allow.ensures.long ∙ i.lasts;
      listed = subst (λ xs. AreListed limited.completion_bounds.search.case.now xs c.allow.new.allowed) offers c.allow.ensures.each;
    }

pub returns-clause-best : goal.returns-clause-best
returns-clause-best c = λ _.
    let limited = c.args.limited.now in
    let rows = rows_in c.args.rows.now in
    let first = c.args.first in
    let day = c.args.at.day in
    c.befores.invariant.best
    ∙ ap (cheapest (best_of (days_on limited day rows))) (take_all (c.befores.before - first) (drop first rows) (omega (arith, c.befores-test.false, c.requires.end, length-drop first rows)))
    ∙ sym (cheapest_of_all limited day first rows c.requires.rows.inside (drop first rows) c.requires.rows.entries)

pub returns-clause-counted : goal.returns-clause-counted
returns-clause-counted c =
    let size = length (offered c.args.limited.now.completion_bounds.search c.args.at.day) in
    let all : c.befores.before ≡ c.args.at.end = omega (arith, c.befores-test.false, c.befores.auto.before-end (omega (arith, c.requires.end, c.requires.rows.inside))) in
    omega (arith, c.befores.invariant.counted, ap (λ n. (n - c.args.first) * size) all)
