-- Absences and fixed days: a flag for each nurse and weekday, set if a line has these.
use Rattle.std.proofs.Common.{◌≡◌, ◌∙◌, ◌+◌, ◌*◌, ◌++◌, ◌∷◌, ◌||◌, ℕ, Bool, true, false, List, [], Some, ap, length, refl, replicate, sym}
use Rattle.std.proofs.Math.Bool.{or-false}
use Rattle.std.proofs.Math.ListN.{set}
use Rattle.std.specs.Prelude.{option_map}
use Rattle.std.proofs.lemmas.Bool.{or_right}
use Rattle.std.proofs.lemmas.List.Folds.{list_any-append}
use Rattle.roster_bundle.specs.declared.bundle.NurseDay.{NurseDay}
use Rattle.roster_bundle.specs.Weekdays.{weekday}
use Rattle.roster_instance.specs.Bundles.{Names, days_meant, has_line, index_of_day}
use Rattle.roster_instance.specs.Names.{found}
use Rattle.roster_instance.specs.Tables.{is_at}
use Rattle.roster_instance.proofs.RequestLemmas.{all_alike, element-written}
use Rattle.roster_instance.proofs.TableLemmas.{is_at-other, is_at-same}

-- without lines no flag is set
pub no-days : (source : List ℕ) (nurses : Names) → days_meant source nurses [] ≡ replicate (7 * length nurses) false
unfolding days_meant
no-days source nurses = sym (all_alike (7 * length nurses) false)

-- one line more
pub line-day : (source : List ℕ) (nurses : Names) (earlier : List NurseDay) (marks : List Bool) → marks ≡ days_meant source nurses earlier
    → (a : NurseDay) (n : ℕ) → found source nurses a.nurse ≡ Some n → (w : ℕ) → w ≡ weekday a.day → days_meant source nurses (earlier ++ a ∷ []) ≡ set marks (7 * n + w) true
unfolding days_meant
line-day source nurses earlier marks is a n nurse w day =
    element-written (7 * length nurses) (has_line source nurses earlier) (has_line source nurses (earlier ++ a ∷ [])) p true
    (sym (push p ∙ ap (λ b. has_line source nurses earlier p || b) (is_at-same p) ∙ or_right (has_line source nurses earlier p) true refl))
    (λ q other. push q ∙ ap (λ b. has_line source nurses earlier q || b) (is_at-other q p other) ∙ or-false (has_line source nurses earlier q))
    ∙ ap (λ flags. set flags p true) (sym is)
  where
    p : ℕ
    p = 7 * n + w

    at : index_of_day source nurses a ≡ Some p
    at = ap (λ o. option_map (λ k. 7 * k + weekday a.day) o) nurse ∙ ap (λ d. Some (7 * n + d)) (sym day)

    push : (q : ℕ) → has_line source nurses (earlier ++ a ∷ []) q ≡ (has_line source nurses earlier q || is_at q (Some p))
    push q = list_any-append (λ e. is_at q (index_of_day source nurses e)) earlier (a ∷ [])
        ∙ ap (λ b. has_line source nurses earlier q || b) (or-false (is_at q (index_of_day source nurses a)) ∙ ap (is_at q) at)
