-- The groups of a day, one after another: by last shift, run and run of the shift.
use Rattle.std.proofs.Common.{◌≡◌, ◌∙◌, ◌+◌, ◌*◌, ◌<◌, ◌≤◌, ◌⊎◌, ℕ, true, inl, inr, ap, arith, refl, subst, sym, List, length, slice_index_or}
use Rattle.std.proofs.lemmas.Bool.{cases_lt}
use Rattle.std.proofs.lemmas.List.{get_or_default}
use Rattle.std.proofs.lemmas.Nat.{mul-le}
use Rattle.roster_instance.specs.Counting.{sum_below}
use Rattle.roster_instance.specs.Meaning.{Meaning}
use Rattle.roster_rules.specs.Prefix.{Summary}
use Rattle.roster_state.specs.declared.state_box.StateBox.{StateBox}
use Rattle.roster_state.specs.Boxes.{InBox, InInterval, box_at, empty_box}
use Rattle.roster_state.specs.Codes.{Sizes, code_of, fits_sizes, product, shift_digit, sizes_of}
use Rattle.roster_state.proofs.BoxLaw.{last_of_digit}
use Rattle.roster_state.proofs.CodeLemmas.{Fits, all-fit, fits-all, shift_digit-shift_numbered}
use Rattle.roster_tables.specs.declared.day.OpenDay.{OpenDay}
use Rattle.roster_tables.specs.declared.days.SearchDays.{SearchDays}
use Rattle.roster_tables.specs.Counts.{group_of, states_of_last, states_of_run, states_on, states_with}
use Rattle.roster_tables.specs.Days.{EndLabels}
use Rattle.roster_tables.specs.OpenDays.{AreTables, IsGroupOf, KeepTables, KeepsRest, IsReachableBy, IsReachableOn, best_from, best_with, group_places}
use Rattle.roster_tables.proofs.CellLaws.{tables_then, tables_wider}
use Rattle.roster_tables.proofs.CountLaws.{Goes, exactly_more, exactly_on, goes_over, goes_only, goes_within, over_part, sum_more, sum_part, sum_to}
use Rattle.roster_tables.specs.Tables.{CellsOf, PointsWhereBest, IsReachable, IsReachableLike, best_at_end, label_of}
use Rattle.roster_tables.proofs.GroupLaws.{weekends_before}

-- ---- the order of the groups

abbrev pub group_key : (last run shift_run : ℕ) → ℕ
group_key last run shift_run = last * 1000000 + run * 1000 + shift_run

abbrev pub key_of : Summary → ℕ
key_of s = group_key (shift_digit s.last) s.run s.shift_run

abbrev pub group_number : Sizes → (last run shift_run : ℕ) → ℕ
group_number z last run shift_run = (last * z.run + run) * z.shift_run + shift_run

-- how many there are
abbrev pub groups : Sizes → ℕ
groups z = z.last * z.run * z.shift_run

pub group_digit : (last run shift_run : ℕ) → shift_digit (group_of last run shift_run).last ≡ last
group_digit last run shift_run = shift_digit-shift_numbered last

-- sizes of at most 1000 runs each
pub record FewRuns (z : Sizes) : Type 0 where
  pub run : z.run ≤ 1000
  pub shift_run : z.shift_run ≤ 1000

-- the box of a last shift's number, as it is read from the list
pub box_is : (here boxes : List StateBox) (last : ℕ) (d : StateBox) → here ≡ boxes → last < length boxes → slice_index_or boxes last d ≡ box_at here last
box_is here boxes last d same inside = get_or_default boxes last d empty_box inside ∙ ap (λ (x : List StateBox). box_at x last) (sym same)

pub few_of : (z y : Sizes) (runs shift_runs : ℕ) → z ≡ y → runs ≡ z.run → runs ≤ 1000 → shift_runs ≡ z.shift_run → shift_runs ≤ 1000 → FewRuns y
few_of z y runs shift_runs same run_is run shift_run_is shift_run = subst FewRuns same (record { run = omega (arith, run_is, run); shift_run = omega (arith, shift_run_is, shift_run) })

module _ (c : Meaning) (n : ℕ) (boxes : List StateBox) (few : FewRuns (sizes_of c n)) (s : Summary) (reachable : IsReachable c n boxes s) where
  abbrev pub z : Sizes
  z = sizes_of c n

  abbrev pub fit : Fits z s
  fit = fits-all z s reachable.fits

  module _ (last : ℕ) where
    inside : shift_digit s.last ≡ last → InBox (box_at boxes last) s
    inside here = subst (λ (x : StateBox). InBox x s) (ap (box_at boxes) here) reachable.inside

    pub before_first_run : {begin end : ℕ} → Goes (box_at boxes last).run z.run begin end → key_of s < group_key last begin 0 → key_of s < group_key last 0 0
    before_first_run {begin} goes below = go (cases_lt (shift_digit s.last) last) (cases_lt last (shift_digit s.last))
      where
        go : (shift_digit s.last < last) ⊎ (last ≤ shift_digit s.last) → (last < shift_digit s.last) ⊎ (shift_digit s.last ≤ last) → key_of s < group_key last 0 0
        go (inl low) q = omega (arith, low, fit.run, fit.shift_run, few.run, few.shift_run)
        go (inr from_last) (inl high) = absurd (omega (arith, high, below, (goes_within goes).0, (goes_within goes).1, few.run))
        go (inr from_last) (inr to_last) = let here : shift_digit s.last ≡ last = omega (arith, from_last, to_last) in absurd (omega (arith, here, below, (goes_over goes (inside here).run fit.run).0))

    pub after_last_run : {begin end : ℕ} → Goes (box_at boxes last).run z.run begin end → (to : ℕ) → to ≡ end → key_of s < group_key (last + 1) 0 0 → key_of s < group_key last to 0
    after_last_run goes to is below = go (cases_lt (shift_digit s.last) last)
      where
        go : (shift_digit s.last < last) ⊎ (last ≤ shift_digit s.last) → key_of s < group_key last to 0
        go (inl low) = omega (arith, low, fit.run, fit.shift_run, few.run, few.shift_run)
        go (inr high) = let here : shift_digit s.last ≡ last = omega (arith, high, below) in omega (arith, here, is, (goes_over goes (inside here).run fit.run).1, fit.shift_run, few.shift_run)

    pub before_first_shift_run : (run : ℕ) → run < z.run → {begin end : ℕ} → Goes (box_at boxes last).shift_run z.shift_run begin end → key_of s < group_key last run begin → key_of s < group_key last run 0
    before_first_shift_run run few_runs {begin} goes below = go (cases_lt (key_of s) (group_key last run 0))
      where
        go : (key_of s < group_key last run 0) ⊎ (group_key last run 0 ≤ key_of s) → key_of s < group_key last run 0
        go (inl low) = low
        go (inr high) =
            let most : begin ≤ 1000 = omega (arith, (goes_within goes).0, (goes_within goes).1, few.shift_run) in
            let here : shift_digit s.last ≡ last = omega (arith, high, below, few_runs, most, fit.run, fit.shift_run, few.run, few.shift_run) in
            let run_is : s.run ≡ run = omega (arith, here, high, below, most, fit.shift_run, few.shift_run) in
            absurd (omega (arith, here, run_is, below, (goes_over goes (inside here).shift_run fit.shift_run).0))

    pub after_last_shift_run : (run : ℕ) → run < z.run → {begin end : ℕ} → Goes (box_at boxes last).shift_run z.shift_run begin end → (to : ℕ) → to ≡ end → key_of s < group_key last (run + 1) 0 → key_of s < group_key last run to
    after_last_shift_run run few_runs goes to is below = go (cases_lt (key_of s) (group_key last run 0))
      where
        go : (key_of s < group_key last run 0) ⊎ (group_key last run 0 ≤ key_of s) → key_of s < group_key last run to
        go (inl low) = omega (arith, low)
        go (inr high) =
            let here : shift_digit s.last ≡ last = omega (arith, high, below, few_runs, fit.run, fit.shift_run, few.run, few.shift_run) in
            let run_is : s.run ≡ run = omega (arith, here, high, below, fit.shift_run, few.shift_run) in
            omega (arith, here, run_is, is, (goes_over goes (inside here).shift_run fit.shift_run).1)

  -- after the last group
  pub before_all : (last : ℕ) → z.last ≤ last → key_of s < group_key last 0 0
  before_all last all = omega (arith, all, fit.last, fit.run, fit.shift_run, few.run, few.shift_run)

  -- one more group
  pub of_group : (last run shift_run : ℕ) → run < 1000 → shift_run < 1000 → key_of s < group_key last run (shift_run + 1) → (key_of s < group_key last run shift_run) ⊎ IsReachableLike c n boxes (group_of last run shift_run) s
  of_group last run shift_run few_runs few_shift_runs below = go (cases_lt (key_of s) (group_key last run shift_run))
    where
      go : (key_of s < group_key last run shift_run) ⊎ (group_key last run shift_run ≤ key_of s) → (key_of s < group_key last run shift_run) ⊎ IsReachableLike c n boxes (group_of last run shift_run) s
      go (inl low) = inl low
      go (inr high) =
          let here : shift_digit s.last ≡ last = omega (arith, high, below, few_runs, few_shift_runs, fit.run, fit.shift_run, few.run, few.shift_run) in
          let run_is : s.run ≡ run = omega (arith, here, high, below, few_shift_runs, fit.shift_run, few.shift_run) in
          inr (record { reachable = reachable; last = last_of_digit s.last last here; run = run_is; shift_run = omega (arith, here, run_is, high, below) })

  -- ---- numbers of groups, and of their states

  pub number_before : (last run shift_run : ℕ) → run < 1000 → shift_run < 1000 → key_of s < group_key last run shift_run → group_number z (shift_digit s.last) s.run s.shift_run < group_number z last run shift_run
  number_before last run shift_run few_runs few_shift_runs below = by_last (cases_lt (shift_digit s.last) last)
    where
      by_front : shift_digit s.last * z.run + s.run < last * z.run + run → group_number z (shift_digit s.last) s.run s.shift_run < group_number z last run shift_run
      by_front front = let more = weekends_before (shift_digit s.last * z.run + s.run) (last * z.run + run) z.shift_run s.shift_run front fit.shift_run in omega (arith, more)

      by_run : shift_digit s.last ≡ last → (s.run < run) ⊎ (run ≤ s.run) → group_number z (shift_digit s.last) s.run s.shift_run < group_number z last run shift_run
      by_run here (inl low) = by_front (omega (arith, ap (λ d. d * z.run) here, low))
      by_run here (inr high) =
          let run_is : s.run ≡ run = omega (arith, here, high, below, few_shift_runs, fit.shift_run, few.shift_run) in
          let front : shift_digit s.last * z.run + s.run ≡ last * z.run + run = λ i. here i * z.run + run_is i in
          omega (arith, ap (λ x. x * z.shift_run) front, here, run_is, below)

      by_last : (shift_digit s.last < last) ⊎ (last ≤ shift_digit s.last) → group_number z (shift_digit s.last) s.run s.shift_run < group_number z last run shift_run
      by_last (inl low) = let more = weekends_before (shift_digit s.last) last z.run s.run low fit.run in by_front (omega (arith, more))
      by_last (inr high) = let here : shift_digit s.last ≡ last = omega (arith, high, below, few_runs, few_shift_runs) in by_run here (cases_lt s.run run)

  pub code_before : (last run shift_run : ℕ) → group_number z (shift_digit s.last) s.run s.shift_run < group_number z last run shift_run → code_of z s < group_number z last run shift_run * z.weekends * z.assignments
  unfolding code_of
  code_before last run shift_run low =
      let x = group_number z (shift_digit s.last) s.run s.shift_run in
      let y = group_number z last run shift_run in
      weekends_before (x * z.weekends + s.weekends) (y * z.weekends) z.assignments s.assignments (weekends_before x y z.weekends s.weekends low fit.weekends) fit.assignments

module _ (z : Sizes) (last run shift_run : ℕ) where
  pub group_code : code_of z (group_of last run shift_run) ≡ group_number z last run shift_run * z.weekends * z.assignments
  unfolding code_of
  group_code = ap (λ d. (((d * z.run + run) * z.shift_run + shift_run) * z.weekends + 0) * z.assignments + 0) (group_digit last run shift_run) ∙ omega arith

  module _ (last_fits : last < z.last) (run_fits : run < z.run) (shift_run_fits : shift_run < z.shift_run) where
    pub number_within : group_number z last run shift_run < groups z
    number_within = weekends_before (last * z.run + run) (z.last * z.run) z.shift_run shift_run (weekends_before last z.last z.run run last_fits run_fits) shift_run_fits

    pub group_fits : 0 < z.weekends → 0 < z.assignments → fits_sizes z (group_of last run shift_run) ≡ true
    group_fits some_weekends some_assignments =
        all-fit z (group_of last run shift_run)
        (record { last = subst (λ d. d < z.last) (sym (group_digit last run shift_run)) last_fits; run = run_fits; shift_run = shift_run_fits; assignments = some_assignments; weekends = some_weekends })

    pub group_end : code_of z (group_of last run shift_run) + z.weekends * z.assignments ≤ product z
    group_end =
        let number = group_number z last run shift_run in
        let more : (number + 1) * (z.weekends * z.assignments) ≤ groups z * (z.weekends * z.assignments) = mul-le (number + 1) (z.weekends * z.assignments) (groups z) (z.weekends * z.assignments) (omega (arith, number_within)) (omega arith) in
        omega (arith, more, group_code)

-- ---- the cells of the groups so far

module _ (c : Meaning) (n : ℕ) (boxes : List StateBox) where
  -- one more group
  module _ (few : FewRuns (sizes_of c n)) (last run shift_run : ℕ) (few_runs : run < 1000) (few_shift_runs : shift_run < 1000) where
    pub cells_grouped : (right : Summary → ℕ → Type 0) (place : ℕ → ℕ) (old new : List ℕ) → ((code : ℕ) → code < code_of (sizes_of c n) (group_of last run shift_run) → slice_index_or new (place code) 0 ≡ slice_index_or old (place code) 0)
        → CellsOf (IsReachableLike c n boxes (group_of last run shift_run)) (sizes_of c n) right place new → CellsOf (λ s. IsReachable c n boxes s × (key_of s < group_key last run shift_run)) (sizes_of c n) right place old
        → CellsOf (λ s. IsReachable c n boxes s × (key_of s < group_key last run (shift_run + 1))) (sizes_of c n) right place new
    cells_grouped right place old new same here before s which = go (of_group c n boxes few s which.0 last run shift_run few_runs few_shift_runs which.1)
      where
        go : (key_of s < group_key last run shift_run) ⊎ IsReachableLike c n boxes (group_of last run shift_run) s → right s (slice_index_or new (place (code_of (sizes_of c n) s)) 0)
        go (inr like) = here s like
        go (inl low) =
            let number = number_before c n boxes few s which.0 last run shift_run few_runs few_shift_runs low in
            let below : code_of (sizes_of c n) s < code_of (sizes_of c n) (group_of last run shift_run) = omega (arith, code_before c n boxes few s which.0 last run shift_run number, group_code (sizes_of c n) last run shift_run) in
            subst (right s) (sym (same (code_of (sizes_of c n) s) below)) (before s (which.0, low))

-- ---- what has been done for a day

-- how many states are reachable, of those before a last shift, before a run with it, and before a run of the
-- shift with both
abbrev pub lasts_below : OpenDay → ℕ → ℕ
lasts_below day last = sum_below last (states_of_last day.days.search.case.now day.days.search.nurse day.boxes.now)

abbrev pub runs_below : OpenDay → (last run : ℕ) → ℕ
runs_below day last run = lasts_below day last + sum_to (box_at day.boxes.now last).run run (states_of_run day.days.search.case.now day.days.search.nurse day.boxes.now last)

abbrev pub groups_below : OpenDay → (last run shift_run : ℕ) → ℕ
groups_below day last run shift_run = runs_below day last run + sum_to (box_at day.boxes.now last).shift_run shift_run (λ q. states_with day.days.search.case.now day.days.search.nurse day.boxes.now (group_of last run q))

-- the tables of the states before a key, the rest of them, and the meter after that many states
pub record DayDone (day : OpenDay) (key states : ℕ) (labels_old labels pointers_old pointers : List ℕ) (initial counted : ℕ) : Type 0 where
  pub tables : AreTables day (λ s. IsReachableOn day s × (key_of s < key)) labels pointers
  pub outside : KeepTables day 0 (product day.days.ranges) labels_old labels pointers_old pointers
  pub exactly : counted ≡ initial + states * length day.offers.now

-- on to a key before which no other state is reachable
pub done_on : {day : OpenDay} {key states : ℕ} {labels_old labels pointers_old pointers : List ℕ} {initial counted : ℕ} → DayDone day key states labels_old labels pointers_old pointers initial counted
    → (next more : ℕ) → ((s : Summary) → IsReachableOn day s → key_of s < next → key_of s < key) → states ≡ more → DayDone day next more labels_old labels pointers_old pointers initial counted
done_on {day} {initial = initial} {counted = counted} old next more none same = record {
  tables = record { labels_are = λ s which. old.tables.labels_are s (which.0, none s which.0 which.1); pointers_are = λ s which. old.tables.pointers_are s (which.0, none s which.0 which.1) };
  outside = old.outside;
  exactly = exactly_on (length day.offers.now) initial counted old.exactly same;
}

-- what labelling a group does
pub record GroupDone (day : OpenDay) (group : Summary) (labels_old labels pointers_old pointers : List ℕ) (counted new : ℕ) : Type 0 where
  pub tables : AreTables day (IsReachableBy day group) labels pointers
  pub outside : KeepTables day (code_of day.days.ranges group) (group_places day.days) labels_old labels pointers_old pointers
  pub exactly : new ≡ counted + states_with day.days.search.case.now day.days.search.nurse day.boxes.now group * length day.offers.now

module _ (day : OpenDay) (last run shift_run : ℕ) (last_fits : last < day.days.ranges.last) {first_run end_run : ℕ} (runs : Goes (box_at day.boxes.now last).run (sizes_of day.days.search.case.now day.days.search.nurse).run first_run end_run) (run_low : first_run ≤ run) (run_high : run < end_run)
    {first_shift_run end_shift_run : ℕ} (shift_runs : Goes (box_at day.boxes.now last).shift_run (sizes_of day.days.search.case.now day.days.search.nurse).shift_run first_shift_run end_shift_run) (shift_run_low : first_shift_run ≤ shift_run) (shift_run_high : shift_run < end_shift_run) where
  abbrev y : Sizes
  y = sizes_of day.days.search.case.now day.days.search.nurse

  abbrev group_here : Summary
  group_here = group_of last run shift_run

  run_fits : run < y.run
  run_fits = omega (arith, run_high, (goes_within runs).1)

  shift_run_fits : shift_run < y.shift_run
  shift_run_fits = omega (arith, shift_run_high, (goes_within shift_runs).1)

  last_in : last < y.last
  last_in = subst (λ (x : Sizes). last < x.last) day.days.own_ranges last_fits

  pub group_is : IsGroupOf day group_here
  group_is =
      let digit = sym (group_digit last run shift_run) in
      record {
        fits = subst (λ x. fits_sizes x group_here ≡ true) (sym day.days.own_ranges) (group_fits y last run shift_run last_in run_fits shift_run_fits (omega arith) (omega arith));
        no_weekends = refl;
        no_assignments = refl;
        run = subst (λ d. InInterval (box_at day.boxes.now d).run run) digit (goes_only runs run_low run_high);
        shift_run = subst (λ d. InInterval (box_at day.boxes.now d).shift_run shift_run) digit (goes_only shift_runs shift_run_low shift_run_high);
      }

  -- it is one of the states of the day
  pub group_part : groups_below day last run shift_run + states_with day.days.search.case.now day.days.search.nurse day.boxes.now group_here ≤ states_on day.days.search.case.now day.days.search.nurse day.boxes.now
  group_part =
      let of_run = over_part shift_runs shift_run (λ q. states_with day.days.search.case.now day.days.search.nurse day.boxes.now (group_of last run q)) shift_run_low shift_run_high in
      let of_last = over_part runs run (states_of_run day.days.search.case.now day.days.search.nurse day.boxes.now last) run_low run_high in
      omega (arith, of_run, of_last, sum_part last y.last (states_of_last day.days.search.case.now day.days.search.nurse day.boxes.now) last_in)

  module _ (few : FewRuns y) {labels_old labels pointers_old pointers : List ℕ} {initial counted : ℕ} (old : DayDone day (group_key last run shift_run) (groups_below day last run shift_run) labels_old labels pointers_old pointers initial counted)
      {labels_new pointers_new : List ℕ} {new : ℕ} (done : GroupDone day group_here labels labels_new pointers pointers_new counted new) where
    few_runs : run < 1000
    few_runs = omega (arith, run_fits, few.run)

    few_shift_runs : shift_run < 1000
    few_shift_runs = omega (arith, shift_run_fits, few.shift_run)

    pub group_done : DayDone day (group_key last run (shift_run + 1)) (groups_below day last run (shift_run + 1)) labels_old labels_new pointers_old pointers_new initial new
    group_done =
        let same_code = ap (λ x. code_of x group_here) (sym day.days.own_ranges) in
        let end = subst (λ (x : Sizes). code_of x group_here + x.weekends * x.assignments ≤ product x) (sym day.days.own_ranges) (group_end y last run shift_run last_in run_fits shift_run_fits) in
        let grouped = cells_grouped day.days.search.case.now day.days.search.nurse day.boxes.now few last run shift_run few_runs few_shift_runs in
        record {
          tables = record {
            labels_are = grouped (λ s label. label ≡ label_of (best_from day s)) (λ j. j) labels labels_new (λ j low. done.outside.of_labels.others.before j (omega (arith, low, same_code))) done.tables.labels_are old.tables.labels_are;
            pointers_are = grouped (λ s. PointsWhereBest (best_with day s) day.offers.now (best_from day s)) (λ j. day.first + j) pointers pointers_new
                (λ j low. done.outside.of_pointers.others.before (day.first + j) (omega (arith, low, same_code))) done.tables.pointers_are old.tables.pointers_are;
          };
          outside = tables_then old.outside (tables_wider done.outside 0 (product day.days.ranges) (omega arith) (omega (arith, end)));
          exactly =
              let more = sum_more shift_runs shift_run (λ q. states_with day.days.search.case.now day.days.search.nurse day.boxes.now (group_of last run q)) shift_run_low shift_run_high in
              exactly_more (groups_below day last run shift_run) (states_with day.days.search.case.now day.days.search.nurse day.boxes.now group_here) (groups_below day last run (shift_run + 1)) (length day.offers.now) initial counted new old.exactly done.exactly (omega (arith, more));
        }

-- ---- what has been done after the last day

pub record EndDone (days : SearchDays) (boxes : List StateBox) (key : ℕ) (old labels : List ℕ) : Type 0 where
  pub labels_are : EndLabels (λ s. IsReachable days.search.case.now days.search.nurse boxes s × (key_of s < key)) days labels
  pub length_stays : length labels ≡ length old

pub end_on : {days : SearchDays} {boxes : List StateBox} {key : ℕ} {old labels : List ℕ} → EndDone days boxes key old labels → (next : ℕ) → ((s : Summary) → IsReachable days.search.case.now days.search.nurse boxes s → key_of s < next → key_of s < key) → EndDone days boxes next old labels
end_on done next none = record { labels_are = λ s which. done.labels_are s (which.0, none s which.0 which.1); length_stays = done.length_stays }

module _ (days : SearchDays) (boxes : List StateBox) (few : FewRuns (sizes_of days.search.case.now days.search.nurse)) (last run shift_run : ℕ) (in_run : run < (sizes_of days.search.case.now days.search.nurse).run) (in_shift_run : shift_run < (sizes_of days.search.case.now days.search.nurse).shift_run) where
  pub end_more : {old labels new : List ℕ} → EndDone days boxes (group_key last run shift_run) old labels → EndLabels (IsReachableLike days.search.case.now days.search.nurse boxes (group_of last run shift_run)) days new → KeepsRest (code_of days.ranges (group_of last run shift_run)) (group_places days) labels new
      → EndDone days boxes (group_key last run (shift_run + 1)) old new
  end_more {old} {labels} {new} done here outside = record {
    labels_are = cells_grouped days.search.case.now days.search.nurse boxes few last run shift_run (omega (arith, in_run, few.run)) (omega (arith, in_shift_run, few.shift_run)) (λ s label. label ≡ label_of (best_at_end days.search.case.now days.search.nurse days.search.scale s)) (λ j. j) labels new
        (λ j low. outside.others.before j (omega (arith, low, ap (λ x. code_of x (group_of last run shift_run)) (sym days.own_ranges)))) here done.labels_are;
    length_stays = outside.length_stays ∙ done.length_stays;
  }
