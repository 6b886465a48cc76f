-- One more requirement of a week.
use Rattle.std.proofs.Common.{◌≡◌, ◌∙◌, ◌+◌, ◌*◌, ◌<◌, ◌≤◌, ◌++◌, ◌∷◌, ◌&&◌, ℕ, Bool, true, false, List, [], Option, Some, None, ap, ap₂, arith, get_or, is_some, length, replicate, sym}
use Rattle.std.specs.Prelude.{option_and_then, option_map}
use Rattle.std.proofs.Math.ListN.{set}
use Rattle.std.specs.List.{list_any}
use Rattle.roster_bundle.specs.declared.bundle.Requirement.{Requirement}
use Rattle.roster_instance.specs.Bundles.{Names, needs_meant, needs_of_week, index_of_need}
use Rattle.roster_instance.specs.Faults.{fault_if, first_fault}
use Rattle.roster_instance.specs.Names.{found, same_name}
use Rattle.roster_instance.specs.Refusals.{requirement_faults, unknown_fault}
use Rattle.roster_instance.specs.declared.fault.CaseFault.{CaseFault}
use Rattle.roster_instance.specs.declared.fault.CaseFault.TheVariants.{RepeatedRequirement}
use Rattle.roster_instance.specs.declared.rules.Need.{Need}
use Rattle.roster_instance.proofs.NameLemmas.{any_same_pair, found-no_fault, found-within}
use Rattle.roster_instance.proofs.TableLemmas.{table-empty}
use Rattle.roster_instance.proofs.TableSteps.{cell-filled, cell-taken}

-- without requirements
pub no_needs : (source : List ℕ) (shifts skills : Names) → needs_meant source shifts skills [] ≡ replicate 64 None
no_needs source shifts skills = table-empty (index_of_need source shifts skills) (λ (q : Requirement). needs_of_week q.days) 64

module _ (source : List ℕ) (shifts skills : Names) (few_shifts : length shifts ≤ 8) (few_skills : length skills ≤ 8)
    (earlier : List Requirement) (lines : List (Option (List Need))) (is : lines ≡ needs_meant source shifts skills earlier)
    (q : Requirement) (s k : ℕ) (shift : found source shifts q.shift ≡ Some s) (skill : found source skills q.skill ≡ Some k) where
  index-within : 8 * s + k < 64
  index-within = omega (arith, found-within source shifts q.shift s shift, found-within source skills q.skill k skill)

  index-is : index_of_need source shifts skills q ≡ Some (8 * s + k)
  index-is = ap₂ (λ (o p : Option ℕ). option_and_then (λ a. option_map (λ b. 8 * a + b) p) o) shift skill

  -- the cell is filled if an earlier line names the same shift and skill
  need-taken : is_some (get_or lines (8 * s + k) None) ≡ list_any (λ (e : Requirement). same_name source q.shift e.shift && same_name source q.skill e.skill) earlier
  need-taken = cell-taken (index_of_need source shifts skills) (λ (e : Requirement). needs_of_week e.days) 64 earlier lines is (8 * s + k) index-within
      ∙ sym (any_same_pair source shifts skills q.shift q.skill s k (λ (e : Requirement). e.shift) (λ (e : Requirement). e.skill) earlier shift skill few_skills)

  need-faults : (b : Bool) → is_some (get_or lines (8 * s + k) None) ≡ b → requirement_faults source shifts skills earlier q ≡ fault_if b (RepeatedRequirement q.skill.line)
  need-faults b taken =
      ap (λ (unknown : List CaseFault). unknown ++ unknown_fault source skills q.skill
      ++ fault_if (list_any (λ (e : Requirement). same_name source q.shift e.shift && same_name source q.skill e.skill) earlier) (RepeatedRequirement q.skill.line))
      (found-no_fault source shifts q.shift s shift)
      ∙ ap₂ (λ (unknown : List CaseFault) (repeated : Bool). unknown ++ fault_if repeated (RepeatedRequirement q.skill.line))
      (found-no_fault source skills q.skill k skill) (sym need-taken ∙ taken)

  -- a line has the shift and the skill already
  pub need-repeated : is_some (get_or lines (8 * s + k) None) ≡ true → first_fault (requirement_faults source shifts skills earlier q) ≡ Some (RepeatedRequirement q.skill.line)
  need-repeated taken = ap first_fault (need-faults true taken)

  -- the line is the first with this shift and skill
  pub need-new : is_some (get_or lines (8 * s + k) None) ≡ false → requirement_faults source shifts skills earlier q ≡ []
  need-new free = need-faults false free

  pub need-filled : is_some (get_or lines (8 * s + k) None) ≡ false → needs_meant source shifts skills (earlier ++ q ∷ []) ≡ set lines (8 * s + k) (Some (needs_of_week q.days))
  need-filled free = cell-filled (index_of_need source shifts skills) (λ (e : Requirement). needs_of_week e.days) 64 earlier lines is (8 * s + k) index-within q index-is free
