-- A pass: the steps of some nurses in their order.
use Rattle.std.proofs.Common.{◌≡◌, ◌≢◌, ◌∙◌, ◌+◌, ◌-◌, ◌*◌, ◌<◌, ◌≤◌, ◌⊎◌, ◌++◌, ℕ, zero, suc, Bool, true, false, not, inl, inr, ap, arith, nat_lt, refl, subst, sym, List, [], ◌∷◌, None}
use Rattle.std.specs.Prelude.{if◌then◌else◌}
use Rattle.std.specs.List.{fold, range_with_len}
use Rattle.std.proofs.lemmas.Bool.{cases_Bool, false_from_ne_true, ltb-false, ltb-true, true≢false}
use Rattle.std.proofs.lemmas.Nat.{mul-le}
use Rattle.std.proofs.lemmas.List.Elements.{Contains-append_right}
use Rattle.std.proofs.lemmas.List.FromFn.{get_or-range_with_len, length-range_with_len}
use Rattle.std.proofs.lemmas.List.Sums.{fold-append}
use Rattle.roster_instance.specs.Meaning.{Meaning, nurse_count}
use Rattle.roster_instance.specs.Rosters.{Rows}
use Rattle.roster_rules.specs.AllowedRows.{best_row}
use Rattle.roster_rules.specs.Improver.{round, run, same_rows, step}
use Rattle.roster_rules.specs.Penalties.{penalty}
use Rattle.roster_laws.specs.Greatest.{greatest_extension_count}
use Rattle.roster_laws.proofs.Runs.{run-goes_on, run-settled, run-stopped}
use Rattle.roster_laws.proofs.SameRows.{same_rows_is, same_rows_of}
use Rattle.roster_timer.specs.Deadlines.{is_at_end, is_up, time_of}
use Rattle.roster_timer.specs.declared.deadline.Deadline.{Deadline}
use Rattle.roster_polish.specs.declared.descend.Pass.{Pass}
use Rattle.roster_polish.specs.declared.descend.Pass.TheVariants.{Changed, Stopped, Unchanged}
use Rattle.roster_polish.specs.Descents.{AreAllNurses, IsPass, LeadTo}
use Rattle.roster_polish.specs.Polished.{first_searches, descent_rounds, rounds_made, descent_searches}
use Rattle.roster_laws.specs.Settled.{HasBestRow, settled_at}
use Rattle.roster_polish.specs.Settled.{Spends, extensions_of}
use Rattle.roster_polish.proofs.Steps.{both_of, falls_if, has_best, is_same, one_and_rest}

-- the steps of the nurses from the first to before this one led from one roster to another, and changed it or
-- not
pub record PassTo (c : Meaning) (from : ℕ) (old now : Rows) (changed : Bool) (first n : ℕ) : Type 0 where
  pub above : first ≤ n
  pub steps : LeadTo c from (range_with_len first (n - first)) old now
  pub same : changed ≡ false → now ≡ old
  pub falls : changed ≡ true → penalty c now < penalty c old
  pub no_dearer : penalty c now ≤ penalty c old
  pub best : changed ≡ false → (m : ℕ) → first ≤ m → m < n → HasBestRow c from now m

-- one number more in a row
range_push : (a n j : ℕ) → a + n ≡ j → range_with_len a (suc n) ≡ range_with_len a n ++ j ∷ []
range_push a zero j e = let same : a ≡ j = omega (arith, e) in ap (λ k. k ∷ []) same
range_push a (suc n) j e = ap (λ l. a ∷ l) (range_push (a + 1) n j (omega (arith, e)))

module _ (c : Meaning) (from : ℕ) (old : Rows) (first : ℕ) where
  pub pass_begins : PassTo c from old old false first first
  pass_begins = record {
    above = omega arith;
    steps = let none : first - first ≡ 0 = omega arith in sym (ap (λ m. fold (step c (best_row c from)) old (range_with_len first m)) none);
    same = λ e. refl;
    falls = λ e. absurd (true≢false (sym e));
    no_dearer = omega arith;
    best = λ e m above below. absurd (below_none first m above below);
  }
    where
      below_none : (a m : ℕ) → a ≤ m → m < a → ⊥
      below_none a m above below = omega (arith, above, below)

  module _ (now : Rows) (changed : Bool) (n : ℕ) (p : PassTo c from old now changed first n) where
    module _ (new : Rows) (is : new ≡ step c (best_row c from) now n) (moved : Bool) (moved_is : moved ≡ not (same_rows new now)) where
      steps_more : LeadTo c from (range_with_len first (n + 1 - first)) old new
      steps_more =
          let one : n + 1 - first ≡ suc (n - first) = omega (arith, p.above) in
          let there : first + (n - first) ≡ n = omega (arith, p.above) in
          is ∙ ap (λ s. step c (best_row c from) s n) p.steps
          ∙ sym (fold-append (step c (best_row c from)) old (range_with_len first (n - first)) (n ∷ []))
          ∙ ap (fold (step c (best_row c from)) old) (sym (ap (range_with_len first) one ∙ range_push first (n - first) n there))

      above_more : first ≤ n + 1
      above_more = omega (arith, p.above)

      pub pass_moves : moved ≡ true → PassTo c from old new true first (n + 1)
      pass_moves steps =
          let less : penalty c new < penalty c now = falls_if c from now new n is moved moved_is steps in
          record {
            above = above_more;
            steps = steps_more;
            same = λ e. absurd (true≢false e);
            falls = λ e. omega (arith, less, p.no_dearer);
            no_dearer = omega (arith, less, p.no_dearer);
            best = λ e. absurd (true≢false e);
          }

      pub pass_stays : moved ≡ false → PassTo c from old new changed first (n + 1)
      pass_stays stays =
          let still : new ≡ now = is_same c from now new n is moved moved_is stays in
          let last : HasBestRow c from new n = has_best c from now new n is moved moved_is stays in
          let go : (e : changed ≡ false) (m : ℕ) → first ≤ m → m < n + 1 → (nat_lt m n ≡ true) ⊎ (nat_lt m n ≡ false) → HasBestRow c from new m =
          λ e m above below. elim [
            | inl before ↦ subst (λ s. HasBestRow c from s m) (sym still) (p.best e m above (ltb-true m n before))
            | inr not_before ↦ (let here : n ≡ m = omega (arith, below, ltb-false m n not_before) in subst (HasBestRow c from new) here last)
          ] in
          record {
            above = above_more;
            steps = steps_more;
            same = λ e. still ∙ p.same e;
            falls = λ e. omega (arith, ap (penalty c) still, p.falls e);
            no_dearer = omega (arith, ap (penalty c) still, p.no_dearer);
            best = λ e m above below. go e m above below (cases_Bool (nat_lt m n));
          }

    -- ---- its end

    pub pass_is_round : first ≡ 0 → n ≡ nurse_count c → now ≡ round c (best_row c from) old
    unfolding round
    pass_is_round none all =
        let count : n - first ≡ nurse_count c = omega (arith, none, all) in
        p.steps ∙ (λ i. fold (step c (best_row c from)) old (range_with_len (none i) (count i)))

    -- the pass from the first nurse on is of all of them
    pub is_pass : (end : Pass) → (first ≡ 0 → end ≢ Stopped → n ≡ nurse_count c) → IsPass c from first old now end
    is_pass end all = record { count = n - first; steps = p.steps; all = λ none going. omega (arith, none, all none going) }

    pub pass_differs : changed ≡ true → same_rows now old ≡ false
    pass_differs some = false_from_ne_true (same_rows now old) (λ e. no_less (penalty c now) (penalty c old) (p.falls some) (ap (penalty c) (same_rows_is now old e)))
      where
        no_less : (a b : ℕ) → a < b → a ≡ b → ⊥
        no_less a b less same = omega (arith, less, same)

    pub pass_same : changed ≡ false → same_rows now old ≡ true
    pass_same none = same_rows_of now old (p.same none)

-- ---- passes, one after another

-- the steps of some nurses lead from one roster to another
pub record StepsTo (c : Meaning) (from : ℕ) (old now : Rows) : Type 0 where
  pub nurses : List ℕ
  pub steps : LeadTo c from nurses old now

pub no_steps : (c : Meaning) (from : ℕ) (r : Rows) → StepsTo c from r r
no_steps c from r = record { nurses = []; steps = refl }

pub lead_then : (c : Meaning) (from : ℕ) (old now new : Rows) (nurses more : List ℕ) → LeadTo c from nurses old now → LeadTo c from more now new → LeadTo c from (nurses ++ more) old new
lead_then c from old now new nurses more before is = is ∙ ap (λ s. fold (step c (best_row c from)) s more) before ∙ sym (fold-append (step c (best_row c from)) old nurses more)

pub steps_then : (c : Meaning) (from : ℕ) (old now new : Rows) → StepsTo c from old now → (more : List ℕ) → LeadTo c from more now new → StepsTo c from old new
steps_then c from old now new before more is = record {
  nurses = before.nurses ++ more;
  steps = lead_then c from old now new before.nurses more before.steps is;
}

-- a pass over all nurses has the step of each
pub all_stepped : (c : Meaning) (before : List ℕ) (first count : ℕ) → first ≡ 0 → count ≡ nurse_count c → AreAllNurses c (before ++ range_with_len first count)
all_stepped c before first count none all n inside =
    let within : n < count = omega (arith, inside, all) in
    let here : first + n ≡ n = omega (arith, none) in
    Contains-append_right before (range_with_len first count) n (n, omega (arith, within, length-range_with_len first count), get_or-range_with_len first count n n within ∙ here)

-- ---- a round in a run

module _ (c : Meaning) (from : ℕ) (old now : Rows) (rounds made : ℕ) (next : made < rounds) (is_round : now ≡ round c (best_row c from) old) where
  one_more : rounds - made ≡ suc (rounds - (made + 1))
  one_more = omega (arith, next)

  pub run_goes_on : same_rows now old ≡ false → run c (best_row c from) (rounds - made) old ≡ run c (best_row c from) (rounds - (made + 1)) now
  run_goes_on differs =
      ap (λ m. run c (best_row c from) m old) one_more ∙ run-goes_on c (best_row c from) (rounds - (made + 1)) old (ap (λ r. same_rows r old) (sym is_round) ∙ differs)
      ∙ ap (run c (best_row c from) (rounds - (made + 1))) (sym is_round)

  pub run_ends : same_rows now old ≡ true → run c (best_row c from) (rounds - made) old ≡ settled_at now
  run_ends same =
      ap (λ m. run c (best_row c from) m old) one_more ∙ run-settled c (best_row c from) (rounds - (made + 1)) old (ap (λ r. same_rows r old) (sym is_round) ∙ same)
      ∙ ap settled_at (sym (same_rows_is now old same))

  -- ---- how many rounds it makes

  round_more : (m : ℕ) → same_rows (round c (best_row c from) old) old ≡ false → rounds_made c from (suc m) old ≡ suc (rounds_made c from m (round c (best_row c from) old))
  unfolding rounds_made
  round_more m differs = rw differs refl

  round_last : (m : ℕ) → same_rows (round c (best_row c from) old) old ≡ true → rounds_made c from (suc m) old ≡ 1
  unfolding rounds_made
  round_last m same = rw same refl

  pub rounds_go_on : same_rows now old ≡ false → rounds_made c from (rounds - made) old ≡ suc (rounds_made c from (rounds - (made + 1)) now)
  rounds_go_on differs =
      ap (λ m. rounds_made c from m old) one_more ∙ round_more (rounds - (made + 1)) (ap (λ r. same_rows r old) (sym is_round) ∙ differs)
      ∙ ap (λ r. suc (rounds_made c from (rounds - (made + 1)) r)) (sym is_round)

  pub rounds_end : same_rows now old ≡ true → rounds_made c from (rounds - made) old ≡ 1
  rounds_end same = ap (λ m. rounds_made c from m old) one_more ∙ round_last (rounds - (made + 1)) (ap (λ r. same_rows r old) (sym is_round) ∙ same)

pub rounds_stop : (c : Meaning) (from : ℕ) (r : Rows) (rounds made : ℕ) → made ≡ rounds → rounds_made c from (rounds - made) r ≡ 0
unfolding rounds_made
rounds_stop c from r rounds made all = let none : rounds - made ≡ 0 = omega (arith, all) in ap (λ m. rounds_made c from m r) none

one_more_or_last : (last : Bool) (rest most : ℕ) → rest ≤ most → (if last then 1 else suc rest) ≤ suc most
one_more_or_last true rest most few = omega arith
one_more_or_last false rest most few = omega (arith, few)

rounds_few : (c : Meaning) (from rounds : ℕ) (r : Rows) → rounds_made c from rounds r ≤ rounds
unfolding rounds_made
rounds_few c from zero r = omega arith
rounds_few c from (suc m) r = one_more_or_last (same_rows (round c (best_row c from) r) r) (rounds_made c from m (round c (best_row c from) r)) m (rounds_few c from m (round c (best_row c from) r))

-- from no roster does the first descent take more searches than it may at most
pub descent_few : (c : Meaning) (from : ℕ) (r : Rows) → descent_searches c from r ≤ first_searches c
descent_few c from r = mul-le (rounds_made c from descent_rounds r) (nurse_count c) descent_rounds (nurse_count c) (rounds_few c from descent_rounds r) (omega arith)

-- what a descent of this many rounds has counted, if each took at most one search for each nurse
pub counted_in : (c : Meaning) (rounds meter left new new_left : ℕ) → Spends c meter left new new_left → left ≤ new_left + rounds * nurse_count c → new ≤ meter + extensions_of c (rounds * nurse_count c)
counted_in c rounds meter left new new_left spends few =
    omega (arith, spends.counted, both_of new_left (rounds * nurse_count c) (greatest_extension_count c), mul-le left (greatest_extension_count c) (new_left + rounds * nurse_count c) (greatest_extension_count c) few (omega arith))

pub run_stops : (c : Meaning) (from : ℕ) (r : Rows) (rounds made : ℕ) → made ≡ rounds → run c (best_row c from) (rounds - made) r ≡ record { roster = r; is_settled = false }
run_stops c from r rounds made all = let none : rounds - made ≡ 0 = omega (arith, all) in ap (λ m. run c (best_row c from) m r) none ∙ run-stopped c (best_row c from) r

-- how it ended says whether it changed the roster
pub was_same : (same : Bool) (end : Pass) → end ≡ (if same then Unchanged else Changed) → end ≡ Unchanged → same ≡ true
was_same true end is unchanged = refl
was_same false end is unchanged = absurd (true≢false (sym (ap is_unchanged (sym is ∙ unchanged))))
  where
    is_unchanged : Pass → Bool
    is_unchanged Unchanged = true
    is_unchanged Changed = false
    is_unchanged Stopped = false

pub was_other : (same : Bool) (end : Pass) → end ≡ (if same then Unchanged else Changed) → (end ≡ Unchanged → ⊥) → same ≡ false
was_other true end is changed = absurd (changed is)
was_other false end is changed = refl

-- a time without an end isn't up
pub endless : {K : Type 0} (d : Deadline K) → d.ends ≡ None → is_up (time_of d) ≡ true → ⊥
endless d none up = true≢false (sym up ∙ ap (λ e. is_at_end e d.last d.step) none)

-- searches for the rounds that are left are enough for the next one
module _ (nurses rounds made left : ℕ) (next : made < rounds) (enough : (rounds - made) * nurses ≤ left) where
  one_round : (rounds - made) * nurses ≡ nurses + (rounds - (made + 1)) * nurses
  one_round =
      let is : rounds - made ≡ rounds - (made + 1) + 1 = omega (arith, next) in
      ap (λ m. m * nurses) is ∙ one_and_rest (rounds - (made + 1)) nurses

  pub enough_for_one : nurses ≤ left
  enough_for_one = omega (arith, one_round, enough)

  pub enough_after : (left_new : ℕ) → left ≤ left_new + nurses → (rounds - (made + 1)) * nurses ≤ left_new
  enough_after left_new few = omega (arith, one_round, enough, few)
