-- If no week has the section of absences, nobody is absent, and no work breaks an absence.
use Rattle.std.proofs.Common.{◌≡◌, ◌∙◌, ◌/◌, ◌*◌, ◌+◌, ◌%◌, ℕ, zero, suc, Bool, true, false, not, ap, refl, List, [], ◌∷◌, ◌++◌, Option, None, append-nil, flat_map, length, map, slice_index_or, filter, ◌&&◌}
use Rattle.std.specs.List.{All, range_with_len}
use Rattle.std.proofs.lemmas.List.Elements.{All-head, All-tail}
use Rattle.roster_bundle.specs.declared.bundle.Bundle.{Bundle}
use Rattle.roster_bundle.specs.declared.bundle.Listed.{Listed}
use Rattle.roster_bundle.specs.declared.bundle.NurseDay.{NurseDay}
use Rattle.roster_bundle.specs.declared.bundle.WeekData.{WeekData}
use Rattle.roster_instance.specs.Bundles.{days_meant, has_line, lines_of, meaning_of, week_meant}
use Rattle.roster_instance.specs.Choices.{all_choices, all_rows}
use Rattle.roster_instance.specs.Faults.{fault_if, is_none_of}
use Rattle.roster_instance.specs.Meaning.{Meaning, day_count, no_week, nurse_count}
use Rattle.roster_instance.specs.Names.{nurse_names, shift_names, skill_names}
use Rattle.roster_instance.specs.Rosters.{Rows, choice_on, row_of, with_row}
use Rattle.roster_instance.specs.declared.choice.Choice.{Choice}
use Rattle.roster_instance.specs.declared.choice.Choice.TheVariants.{Off, Work}
use Rattle.roster_rules.specs.AllowedRows.{allowed_rows, keeps_frozen_days}
use Rattle.roster_rules.specs.HardRules.{absence_faults, hard_faults, is_here, skill_faults, staffing_faults, succession_faults}
use Rattle.roster_rules.specs.declared.fault.HardFault.TheVariants.{Absent}
use Rattle.roster_laws.specs.Absences.{HasNoSection, ListsNoAbsences, NobodyIsAbsent, first_four_faults, rows_by_first_four}

-- ---- a bundle without the section

none_at : (xs : List ℕ) (f : ℕ → Bool) → ((x : ℕ) → f x ≡ false) → (p : ℕ) → slice_index_or (map f xs) p false ≡ false
none_at [] f all p = refl
none_at (x ∷ xs) f all zero = all x
none_at (x ∷ xs) f all (suc p) = none_at xs f all p

module _ (source : List ℕ) (shifts skills nurses : List (List ℕ)) where
  pub lineless : (section : Option (Listed NurseDay)) → section ≡ None → (p : ℕ) → slice_index_or (days_meant source nurses (lines_of section)) p false ≡ false
  unfolding days_meant
  lineless section none p = rw none (none_at (range_with_len 0 (7 * length nurses)) (has_line source nurses []) (λ q. refl) p)

  in_week : (weeks : List WeekData) → All HasNoSection weeks → (week p : ℕ) → slice_index_or (slice_index_or (map (week_meant source shifts skills nurses) weeks) week no_week).absences p false ≡ false
  in_week [] none week p = refl
  in_week (w ∷ ws) none zero p = lineless w.absences (All-head HasNoSection w ws none) p
  in_week (w ∷ ws) none (suc week) p = in_week ws (All-tail HasNoSection w ws none) week p

pub nobody_is_absent : (source : List ℕ) (b : Bundle) → ListsNoAbsences b → NobodyIsAbsent (meaning_of source b)
unfolding meaning_of
nobody_is_absent source b none n d = in_week source (shift_names source b) (skill_names source b) (nurse_names source b) b.week_data none (d / 7) (7 * n + d % 7)

-- ---- a case in which nobody is absent

nowhere : {F : Type 0} (xs : List ℕ) (f : ℕ → List F) → ((k : ℕ) → f k ≡ []) → flat_map f xs ≡ []
nowhere [] f none = refl
nowhere (x ∷ xs) f none = ap (λ l. l ++ flat_map f xs) (none x) ∙ nowhere xs f none

module _ (c : Meaning) (nobody : NobodyIsAbsent c) where
  here : (n d : ℕ) (choice : Choice) → is_here c n d choice ≡ true
  here n d Off = refl
  here n d (Work s k) = ap not (nobody n d)

  no_absence_faults : (r : Rows) → absence_faults c r ≡ []
  no_absence_faults r =
      nowhere (range_with_len 0 (nurse_count c)) _ (λ n. nowhere (range_with_len 0 (day_count c)) _ (λ d. ap (λ b. fault_if (not b) (Absent n d)) (here n d (choice_on (row_of r n) d))))

  pub all_breaches : (r : Rows) → hard_faults c r ≡ first_four_faults c r
  unfolding hard_faults
  all_breaches r =
      ap (λ l. staffing_faults c r ++ succession_faults c r ++ skill_faults c r ++ l) (no_absence_faults r) ∙ append-nil (first_four_faults c r)

  pub all_allowed : (from : ℕ) (r : Rows) (n : ℕ) → allowed_rows c from r n ≡ rows_by_first_four c from r n
  all_allowed from r n =
      λ i. filter (λ row. is_none_of (all_breaches (with_row r n row) i) && keeps_frozen_days c from r n row) (all_rows (all_choices c) (day_count c))
