-- The run of the worked example, round by round.
use Rattle.std.proofs.Common.{◌≡◌, ◌∙◌, ◌+◌, ℕ, suc, false, true, ap, ap₂, refl, List, [], ◌∷◌, ◌++◌}
use Rattle.roster_instance.specs.Choices.{all_rows}
use Rattle.roster_rules.specs.HardRules.{hard_faults}
use Rattle.roster_rules.specs.Improver.{BestRows, Entry, changed, entries_from, entry, log_of, round, round_done, round_log, run, same_rows, settled, started, step, stopped}
use Rattle.roster_instance.specs.Meaning.{Meaning}
use Rattle.roster_run_examples.specs.Mini.{all_free, ann, bob, early_but, early_on, mini_of_one_shift}
use Rattle.roster_rules.specs.Penalties.{costs_of, penalty}
use Rattle.roster_instance.specs.Rosters.{Rows}
use Rattle.roster_rules.specs.AllowedRows.{best_row}
use Rattle.roster_rules.specs.Runs.{run_violations}

-- a round that changed something
goes_on : (c : Meaning) (best : BestRows) (k m : ℕ) (r next : Rows) → round c best r ≡ next → same_rows next r ≡ false → entries_from c best k (suc m) r ≡ round_log c best k r ++ entries_from c best (k + 1) m next
goes_on c best k m r next e differs = rw (e, differs) refl

run_on : (c : Meaning) (best : BestRows) (m : ℕ) (r next : Rows) → round c best r ≡ next → same_rows next r ≡ false → run c best (suc m) r ≡ run c best m next
unfolding run
run_on c best m r next e differs = rw (e, differs) refl

-- a round that didn't
settled_run : (c : Meaning) (best : BestRows) (m : ℕ) (r : Rows) → round c best r ≡ r → same_rows r r ≡ true → run c best (suc m) r ≡ record { roster = r; is_settled = true }
unfolding run
settled_run c best m r e same = rw (e, same) refl

abbrev best : BestRows
best = best_row mini_of_one_shift 0

-- the rosters in their order: with Ann's row, with Bob's, and with Ann's in the second round
abbrev with_ann : Rows
with_ann = early_but 1 ∷ early_on [] ∷ []

abbrev with_bob : Rows
with_bob = early_but 1 ∷ early_on (1 ∷ 5 ∷ 6 ∷ []) ∷ []

abbrev last : Rows
last = early_on (0 ∷ 2 ∷ 3 ∷ 4 ∷ []) ∷ early_on (1 ∷ 5 ∷ 6 ∷ []) ∷ []

-- each step, computed once
abbrev transition_of : Rows → ℕ → Rows
transition_of = step mini_of_one_shift best

ann_first : transition_of all_free ann ≡ with_ann
unfolding step penalty costs_of run_violations hard_faults all_rows
ann_first = refl

bob_first : transition_of with_ann bob ≡ with_bob
unfolding step penalty costs_of run_violations hard_faults all_rows
bob_first = refl

ann_second : transition_of with_bob ann ≡ last
unfolding step penalty costs_of run_violations hard_faults all_rows
ann_second = refl

ann_third : transition_of last ann ≡ last
unfolding step penalty costs_of run_violations hard_faults all_rows
ann_third = refl

bob_third : transition_of last bob ≡ last
unfolding step penalty costs_of run_violations hard_faults all_rows
bob_third = refl

-- a round is Ann's step and then Bob's
round_is : (r : Rows) → round mini_of_one_shift best r ≡ transition_of (transition_of r ann) bob
unfolding round
round_is r = refl

first : round mini_of_one_shift best all_free ≡ with_bob
first = round_is all_free ∙ rw (ann_first, bob_first) refl

second : round mini_of_one_shift best with_bob ≡ last
second = round_is with_bob ∙ rw (ann_second, bob_third) refl

third : round mini_of_one_shift best last ≡ last
third = round_is last ∙ rw (ann_third, bob_third) refl

first_log : round_log mini_of_one_shift best 1 all_free ≡ entry (changed 1 ann) with_ann ∷ entry (changed 1 bob) with_bob ∷ entry (round_done 1) with_bob ∷ []
first_log = rw (first, ann_first, bob_first) refl

second_log : round_log mini_of_one_shift best 2 with_bob ≡ entry (changed 2 ann) last ∷ entry (round_done 2) last ∷ []
second_log = rw (second, ann_second, bob_third) refl

third_log : round_log mini_of_one_shift best 3 last ≡ entry (round_done 3) last ∷ []
third_log = rw (third, ann_third, bob_third) refl

settles : (c : Meaning) (best : BestRows) (k m : ℕ) (r : Rows) → round c best r ≡ r → same_rows r r ≡ true → entries_from c best k (suc m) r ≡ round_log c best k r ++ entry settled r ∷ []
settles c best k m r e same = rw (e, same) refl

third_entries : entries_from mini_of_one_shift best 3 1 last ≡ entry (round_done 3) last ∷ entry settled last ∷ []
third_entries = settles mini_of_one_shift best 3 0 last third refl ∙ ap (λ es. es ++ entry settled last ∷ []) third_log

-- the log up to the end of the second round
abbrev pub front : List Entry
front =
    entry started all_free
    ∷ entry (changed 1 ann) with_ann
    ∷ entry (changed 1 bob) with_bob
    ∷ entry (round_done 1) with_bob
    ∷ entry (changed 2 ann) last
    ∷ entry (round_done 2) last
    ∷ []

two_rounds : (m : ℕ) → log_of mini_of_one_shift best (suc (suc m)) all_free ≡ front ++ entries_from mini_of_one_shift best 3 m last
unfolding log_of
two_rounds m =
    ap (λ es. entry started all_free ∷ es)
    (goes_on mini_of_one_shift best 1 (suc m) all_free with_bob first refl
    ∙ ap₂ (λ a b. a ++ b) first_log (goes_on mini_of_one_shift best 2 m with_bob last second refl ∙ ap (λ es. es ++ entries_from mini_of_one_shift best 3 m last) second_log))

pub stopped_log : log_of mini_of_one_shift best 2 all_free ≡ front ++ entry stopped last ∷ []
stopped_log = two_rounds 0

pub settled_log : log_of mini_of_one_shift best 3 all_free ≡ front ++ entry (round_done 3) last ∷ entry settled last ∷ []
settled_log = two_rounds 1 ∙ ap (λ es. front ++ es) third_entries

two_rounds_run : (m : ℕ) → run mini_of_one_shift best (suc (suc m)) all_free ≡ run mini_of_one_shift best m last
two_rounds_run m = run_on mini_of_one_shift best (suc m) all_free with_bob first refl ∙ run_on mini_of_one_shift best m with_bob last second refl

pub stopped_run : run mini_of_one_shift best 2 all_free ≡ record { roster = last; is_settled = false }
unfolding run
stopped_run = two_rounds_run 0

pub settled_three : run mini_of_one_shift best 3 all_free ≡ record { roster = last; is_settled = true }
settled_three = two_rounds_run 1 ∙ settled_run mini_of_one_shift best 0 last third refl
