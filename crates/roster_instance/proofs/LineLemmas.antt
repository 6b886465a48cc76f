-- A line of a solution, after those before it.
use Rattle.std.proofs.Common.{◌≡◌, ◌∙◌, ◌+◌, ◌*◌, ◌<◌, ◌==◌, ◌&&◌, ℕ, Bool, true, false, sym, ap, ap₂, arith, lit<, List, [], ◌∷◌, ◌++◌, get_or, length, Option, Some, None, is_some}
use Rattle.std.proofs.Math.ListN.{set}
use Rattle.std.specs.Prelude.{option_map}
use Rattle.std.specs.List.{list_any}
use Rattle.roster_bundle.specs.Weekdays.{weekday}
use Rattle.roster_bundle.specs.declared.bundle.Assignment.{Assignment}
use Rattle.roster_bundle.specs.declared.bundle.Day.{Day}
use Rattle.roster_bundle.specs.declared.bundle.Day.TheVariants as days
use Rattle.roster_instance.specs.declared.choice.Choice.{Choice}
use Rattle.roster_instance.specs.declared.choice.Choice.TheVariants.{Work}
use Rattle.roster_instance.specs.declared.fault.CaseFault.{CaseFault}
use Rattle.roster_instance.specs.declared.fault.CaseFault.TheVariants.{H1}
use Rattle.roster_instance.specs.Bundles.{index_of_line, work_meant}
use Rattle.roster_instance.specs.Faults.{fault_if, first_fault}
use Rattle.roster_instance.specs.Meaning.{shift_at, skill_at}
use Rattle.roster_instance.specs.Names.{found, same_name}
use Rattle.roster_instance.specs.Refusals.{assignment_faults, unknown_fault}
use Rattle.roster_instance.specs.Tables.{table_of}
use Rattle.roster_instance.proofs.NameLemmas.{any_same_day, found-no_fault, found-number}
use Rattle.roster_instance.proofs.Sections.{both_none}
use Rattle.roster_instance.proofs.TableSteps.{cell-filled, cell-taken}

pub weekday-within : (d : Day) → weekday d < 7
weekday-within days.Monday = lit< tt
weekday-within days.Tuesday = lit< tt
weekday-within days.Wednesday = lit< tt
weekday-within days.Thursday = lit< tt
weekday-within days.Friday = lit< tt
weekday-within days.Saturday = lit< tt
weekday-within days.Sunday = lit< tt

abbrev Text : Type 0
Text = List ℕ

-- The line's names have these numbers, and its weekday is w; `lines` is the table of the lines before it.
module _ (source : Text) (nurses shifts skills : List Text) (week : ℕ) (a : Assignment) (n s k w : ℕ)
    (nurse_is : found source nurses a.nurse ≡ Some n) (shift_is : found source shifts a.shift ≡ Some s) (skill_is : found source skills a.skill ≡ Some k)
    (within : n < length nurses) (day_is : w ≡ weekday a.day) (earlier : List Assignment) (lines : List (Option Choice))
    (built : lines ≡ table_of (index_of_line source nurses) (work_meant source shifts skills) (7 * length nurses) earlier) where
  weekday_in : w < 7
  weekday_in = omega (arith, day_is, weekday-within a.day)

  inside : 7 * n + w < 7 * length nurses
  inside = omega (arith, within, weekday_in)

  any : list_any (λ (e : Assignment). same_name source a.nurse e.nurse && (weekday a.day == weekday e.day)) earlier ≡ is_some (get_or lines (7 * n + w) None)
  any = ap (λ day. list_any (λ (e : Assignment). same_name source a.nurse e.nurse && (day == weekday e.day)) earlier) (sym day_is)
      ∙ any_same_day source nurses a.nurse n w (λ (e : Assignment). e.nurse) (λ (e : Assignment). weekday e.day) earlier nurse_is weekday_in (λ e. weekday-within e.day)
      ∙ sym (cell-taken (index_of_line source nurses) (work_meant source shifts skills) (7 * length nurses) earlier lines built (7 * n + w) inside)

  -- the line has a fault if its cell is filled, and no other fault
  line_faults : (b : Bool) → is_some (get_or lines (7 * n + w) None) ≡ b → assignment_faults source nurses shifts skills week earlier a ≡ fault_if b (H1 n (7 * week + w))
  line_faults b is =
      let known = both_none (unknown_fault source nurses a.nurse ++ unknown_fault source shifts a.shift) (unknown_fault source skills a.skill)
      (both_none (unknown_fault source nurses a.nurse) (unknown_fault source shifts a.shift) (found-no_fault source nurses a.nurse n nurse_is) (found-no_fault source shifts a.shift s shift_is))
      (found-no_fault source skills a.skill k skill_is) in
      ap₂ (λ (fs gs : List CaseFault). fs ++ gs) known
      (ap₂ (λ c m. fault_if c (H1 m (7 * week + weekday a.day))) (any ∙ is) (found-number source nurses a.nurse n nurse_is) ∙ ap (λ day. fault_if b (H1 n (7 * week + day))) (sym day_is))

  pub line_taken : is_some (get_or lines (7 * n + w) None) ≡ true → first_fault (assignment_faults source nurses shifts skills week earlier a) ≡ Some (H1 n (7 * week + w))
  line_taken taken = ap first_fault (line_faults true taken)

  pub line_free : is_some (get_or lines (7 * n + w) None) ≡ false → assignment_faults source nurses shifts skills week earlier a ≡ []
  line_free free = line_faults false free

  pub line_put : is_some (get_or lines (7 * n + w) None) ≡ false
      → set lines (7 * n + w) (Some (Work (shift_at s) (skill_at k))) ≡ table_of (index_of_line source nurses) (work_meant source shifts skills) (7 * length nurses) (earlier ++ a ∷ [])
  line_put free =
      let work_is : Work (shift_at s) (skill_at k) ≡ work_meant source shifts skills a =
      ap₂ (λ x y. Work (shift_at x) (skill_at y)) (sym (found-number source shifts a.shift s shift_is)) (sym (found-number source skills a.skill k skill_is)) in
      let place_is : index_of_line source nurses a ≡ Some (7 * n + w) = ap (option_map (λ m. 7 * m + weekday a.day)) nurse_is ∙ ap (λ day. Some (7 * n + day)) (sym day_is) in
      ap (λ (c : Choice). set lines (7 * n + w) (Some c)) work_is
      ∙ sym (cell-filled (index_of_line source nurses) (work_meant source shifts skills) (7 * length nurses) earlier lines built (7 * n + w) inside a place_is free)
