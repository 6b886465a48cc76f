-- Steps that change nothing, and rounds that change something.
use Rattle.std.specs.Prelude.{◌≡◌, ℕ, ◌≤◌, true, false, All}
use Rattle.roster_instance.specs.Meaning.{Meaning}
use Rattle.roster_instance.specs.Rosters.{Rows}
use Rattle.roster_rules.specs.AllowedRows.{allowed_rows, best_row, penalty_with}
use Rattle.roster_rules.specs.Improver.{BestRows, Run, round, run, same_rows, step}
use Rattle.roster_rules.specs.Penalties.{penalty}

-- the nurse's step leaves the roster as it is
abbrev pub ChangesNothing : Meaning → BestRows → Rows → ℕ → Type 0
ChangesNothing c best r n = step c best r n ≡ r

-- no allowed row of a nurse is cheaper than the present one
abbrev pub HasBestRow : Meaning → ℕ → Rows → ℕ → Type 0
HasBestRow c from r n = All (λ row. penalty c r ≤ penalty_with c r n row) (allowed_rows c from r n)

-- a run that is settled with this roster
abbrev pub settled_at : Rows → Run
settled_at last = record { roster = last; is_settled = true }

-- a run of best rows with the days before week `from` frozen
abbrev pub best_run : Meaning → (from rounds : ℕ) → Rows → Run
best_run c from rounds r = run c (best_row c from) rounds r

-- a round changes the first roster into the second, which differs from it
abbrev pub RoundChanges : Meaning → BestRows → (before after : Rows) → Type 0
RoundChanges c best before after = (after ≡ round c best before) × (same_rows after before ≡ false)
