use Rattle.std.proofs.Common.{[], ◌≡◌, ◌∙◌, ◌+◌, ◌<◌, ◌==◌, Bool, true, false, not, ap, arith, length, refl, subst, sym, take}
use Rattle.std.specs.Bool.{Decides}
use Rattle.std.specs.List.{list_all}
use Rattle.std.proofs.lemmas.Bool.{and_parts, eqb-true, true≢false}
use Rattle.std.proofs.lemmas.List.{take_more_same}
use Rattle.std.proofs.lemmas.Slice.Eq.{slice_eq-Decides}
use Rattle.roster_instance.specs.declared.choice.Choice.{Choice}
use Rattle.roster_instance.specs.declared.choice.Choice.TheVariants.{Off, Work}
use Rattle.roster_instance.specs.contracts.choice.ChoicePartialEq.TheImpl.{eq-value}
use Rattle.roster_instance.specs.Choices.{same_choice}
use Rattle.roster_instance.specs.Meaning.{nurse_count}
use Rattle.roster_instance.specs.Rosters.{Rows, fits_case, is_row_of}
use Rattle.roster_instance.proofs.PutRows.{one_row_more}
use Rattle.roster_instance.proofs.RosterFacts.{has_row, row_fits}
use Rattle.roster_rules.proofs.RowFits.{fits-with_row}
use Rattle.roster_laws.proofs.SameRows.{same_choice_is, same_choice_self}
use Rattle.roster_case.specs.Held.{AreCounts, HeldRoster}
use Rattle.roster_case.proofs.held.Held.replace_rows.Goals as goal
use Rattle.roster_case.proofs.held.Held.replace_rows.Goals.{then-ne, else-ne}

-- comparing two choices decides whether they are equal
decides : (a b : Choice) → Decides (eq-value.it a b) (a ≡ b)
decides Off Off = (same_choice_is Off Off, λ e. refl)
decides Off (Work s k) = (same_choice_is Off (Work s k), λ e. ap (same_choice Off) (sym e) ∙ refl)
decides (Work s k) Off = (same_choice_is (Work s k) Off, λ e. ap (same_choice (Work s k)) (sym e) ∙ same_choice_self (Work s k))
decides (Work s k) (Work t l) = (same_choice_is (Work s k) (Work t l), λ e. ap (same_choice (Work s k)) (sym e) ∙ same_choice_self (Work s k))

from_not : (b : Bool) → not b ≡ false → b ≡ true
from_not true e = refl
from_not false e = elim (true≢false e) [ ]

pub loop-nurse-preserved : goal.loop-nurse-preserved
loop-nurse-preserved c =
    let case = c.loop-nurse.self-inside.case in
    let r = c.loop-nurse.self-inside.roster in
    let other = c.args.rows.now in
    let nurse = c.loop-nurse.nurse in
    let row = c.row-row.result.now in
    let own = c.row.result.now in
    let fits : fits_case case other ≡ true = ap (λ m. fits_case m other) c.loop-nurse.invariant.case_is ∙ ap (λ (h : HeldRoster). fits_case h.case other) c.self.view_is ∙ c.requires.fits in
    let inside : nurse < length other = omega arith in
    let of_case : nurse < nurse_count case = omega (arith, eqb-true (length other) (nurse_count case) (and_parts (length other == nurse_count case) (list_all (is_row_of case) other) fits).0) in
    let within : nurse < length r = has_row case r nurse c.loop-nurse.invariant.fits of_case in
    let is_row : is_row_of case row ≡ true = ap (is_row_of case) c.row-row.ensures ∙ row_fits case other nurse fits of_case in
    elim c.if-ne.branch [
      | then-ne w ↦ rw w.self-inside-is (record {
        case_is = c.loop-nurse.invariant.case_is;
        fits = ap (fits_case case) w.put_row.ensures ∙ fits-with_row case r nurse row c.loop-nurse.invariant.fits is_row;
        counted = subst (λ new. AreCounts case new w.replace_row.new.self) (sym w.put_row.ensures) w.replace_row.ensures;
        before = ap (λ (rows : Rows). take (nurse + 1) rows) w.put_row.ensures ∙ one_row_more r other nurse row within inside c.loop-nurse.invariant.before c.row-row.ensures;
      })
      | else-ne w ↦
          let same : row ≡ own = (slice_eq-Decides decides row own true (sym (from_not _ (sym c.ne.ensures ∙ w.if-ne.false)))).0 refl in
          rw w.self-inside-is (record {
            case_is = c.loop-nurse.invariant.case_is;
            fits = c.loop-nurse.invariant.fits;
            counted = c.loop-nurse.invariant.counted;
            before = take_more_same r other nurse [] within inside c.loop-nurse.invariant.before (sym c.row.ensures ∙ sym same ∙ c.row-row.ensures);
          })
    ]
