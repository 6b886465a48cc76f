-- The last shift in the history is one of the case's.
use Rattle.std.proofs.Common.{◌≡◌, ◌<◌, ℕ, Bool, true, false, IfSome, List, Option, Some, None, codes, cond, get_or, length, subst, sym}
use Rattle.std.specs.Prelude.{option_map, unwrap_or}
use Rattle.std.specs.List.{range_with_len}
use Rattle.roster_bundle.specs.declared.bundle.NurseHistory.{NurseHistory}
use Rattle.roster_instance.specs.declared.rules.Border.{Border}
use Rattle.roster_instance.specs.declared.rules.Border.TheVariants.{Free, Working}
use Rattle.roster_instance.specs.declared.rules.Past.{Past}
use Rattle.roster_instance.specs.declared.scenario.Scenario.{Scenario}
use Rattle.roster_instance.specs.Bundles.{Names, border_meant, line_meant, past_meant, shift_named}
use Rattle.roster_instance.specs.CaseParts.{HasKnownPast, case_of}
use Rattle.roster_instance.specs.Meaning.{WeekFacts, last_shift, no_past}
use Rattle.roster_instance.specs.Names.{found, reads}
use Rattle.roster_instance.specs.Tables.{item_at, table_of}
use Rattle.roster_instance.proofs.FitLemmas.{get_or_of_map, name_number-within}

module _ (source : List ℕ) (shifts : Names) (some : 0 < length shifts) where
  -- the last shift, if there is one, is one of the case's
  abbrev IsKnown : Border → Type 0
  IsKnown border = IfSome (last_shift border) (λ s. s.0 < length shifts)

  -- the past in a cell, or that of a nurse without a line, has a known last shift
  abbrev IsKnownCell : Option Past → Type 0
  IsKnownCell cell = IsKnown (unwrap_or cell no_past).border

  border_known : (h : NurseHistory) → IsKnown (border_meant source shifts h)
  border_known h = go (reads source (codes "None") h.last_shift)
    where
      go : (b : Bool) → IsKnown (cond b (Free h.free_run) (Working (shift_named source shifts h.last_shift) h.shift_run h.working_run))
      go true = tt
      go false = name_number-within source shifts h.last_shift some

  line_known : (line : Option NurseHistory) → IsKnownCell (option_map (line_meant source shifts) line)
  line_known None = tt
  line_known (Some h) = border_known h

  cell_known : (nurses : Names) (hs : List NurseHistory) (n : ℕ) → IsKnownCell (get_or (past_meant source nurses shifts hs) n None)
  unfolding table_of
  cell_known nurses hs n =
      let index : NurseHistory → Option ℕ = λ h. found source nurses h.nurse in
      get_or_of_map IsKnownCell (λ p. option_map (line_meant source shifts) (item_at index p hs)) None (range_with_len 0 (length nurses)) n tt (λ p. line_known (item_at index p hs))

-- the case of a scenario with the past that its history means
pub past_known : (source : List ℕ) (s : Scenario) (hs : List NurseHistory) (past : List (Option Past)) (weeks : List WeekFacts) → 0 < length s.shifts → past ≡ past_meant source s.nurses s.shifts hs
    → HasKnownPast (case_of s past weeks)
past_known source s hs past weeks some past_is = λ n. subst (λ cells. IsKnownCell source s.shifts some (get_or cells n None)) (sym past_is) (cell_known source s.shifts some s.nurses hs n)
