-- One more line of the history.
use Rattle.std.proofs.Common.{◌≡◌, ◌∙◌, ◌++◌, ◌∷◌, ℕ, Bool, true, false, List, [], Option, Some, None, ap, ap₂, codes, get_or, is_some, length, replicate, sym}
use Rattle.std.proofs.Math.ListN.{set}
use Rattle.std.specs.List.{list_any}
use Rattle.roster_bundle.specs.declared.bundle.NurseHistory.{NurseHistory}
use Rattle.roster_instance.specs.Bundles.{Names, line_meant, past_meant}
use Rattle.roster_instance.specs.Faults.{fault_if, first_fault}
use Rattle.roster_instance.specs.Names.{found, same_name}
use Rattle.roster_instance.specs.Refusals.{history_line_faults, unknown_unless}
use Rattle.roster_instance.specs.declared.fault.CaseFault.{CaseFault}
use Rattle.roster_instance.specs.declared.fault.CaseFault.TheVariants.{HistoryNurses}
use Rattle.roster_instance.specs.declared.rules.Past.{Past}
use Rattle.roster_instance.proofs.NameLemmas.{any_same_name_of, found-no_fault, found-within}
use Rattle.roster_instance.proofs.TableLemmas.{table-empty}
use Rattle.roster_instance.proofs.TableSteps.{cell-filled, cell-taken}

module _ (source : List ℕ) (nurses shifts : Names) (earlier : List NurseHistory) (past : List (Option Past)) (is : past ≡ past_meant source nurses shifts earlier)
    (h : NurseHistory) (n : ℕ) (nurse : found source nurses h.nurse ≡ Some n) where
  index : NurseHistory → Option ℕ
  index e = found source nurses e.nurse

  -- the cell of the line's nurse is filled if an earlier line names the nurse
  line-taken : is_some (get_or past n None) ≡ list_any (λ (e : NurseHistory). same_name source h.nurse e.nurse) earlier
  unfolding index
  line-taken = cell-taken index (line_meant source shifts) (length nurses) earlier past is n (found-within source nurses h.nurse n nurse)
      ∙ sym (any_same_name_of source nurses h.nurse n nurse (λ (e : NurseHistory). e.nurse) earlier)

  line-faults : (b : Bool) → is_some (get_or past n None) ≡ b → history_line_faults source nurses shifts earlier h ≡ fault_if b (HistoryNurses h.nurse.line) ++ unknown_unless source (codes "None") shifts h.last_shift
  line-faults b taken = ap₂ (λ (unknown : List CaseFault) (repeated : Bool). unknown ++ fault_if repeated (HistoryNurses h.nurse.line) ++ unknown_unless source (codes "None") shifts h.last_shift)
      (found-no_fault source nurses h.nurse n nurse) (sym line-taken ∙ taken)

  -- the nurse has a line already
  pub line-repeated : is_some (get_or past n None) ≡ true → first_fault (history_line_faults source nurses shifts earlier h) ≡ Some (HistoryNurses h.nurse.line)
  line-repeated taken = ap first_fault (line-faults true taken)

  -- the line is the nurse's first
  pub line-new : is_some (get_or past n None) ≡ false → history_line_faults source nurses shifts earlier h ≡ unknown_unless source (codes "None") shifts h.last_shift
  line-new free = line-faults false free

  pub line-filled : is_some (get_or past n None) ≡ false → past_meant source nurses shifts (earlier ++ h ∷ []) ≡ set past n (Some (line_meant source shifts h))
  unfolding index
  line-filled free = cell-filled index (line_meant source shifts) (length nurses) earlier past is n (found-within source nurses h.nurse n nurse) h nurse free

-- the history without lines
pub no_lines : (source : List ℕ) (nurses shifts : Names) → past_meant source nurses shifts [] ≡ replicate (length nurses) None
no_lines source nurses shifts = table-empty (λ (e : NurseHistory). found source nurses e.nurse) (line_meant source shifts) (length nurses)
