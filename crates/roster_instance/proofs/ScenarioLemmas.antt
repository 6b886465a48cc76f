-- Tables whose items are at the numbers of their names.
use Rattle.std.proofs.Common.{◌≡◌, ◌∙◌, ℕ, Bool, false, true, sym, ap, List, [], ◌∷◌, ◌++◌, get_or, length, map, Option, Some, None, is_some}
use Rattle.std.proofs.Math.ListN.{set}
use Rattle.std.specs.List.{flat_map, list_any}
use Rattle.roster_bundle.specs.declared.bundle.Succession.{Succession}
use Rattle.roster_bundle.specs.declared.token.Token.{Token}
use Rattle.roster_instance.specs.Bundles.{Names, numbers_among, successions_meant}
use Rattle.roster_instance.specs.Checking.{IsFirst}
use Rattle.roster_instance.specs.Faults.{fault_if}
use Rattle.roster_instance.specs.Names.{found, same_name}
use Rattle.roster_instance.specs.Refusals.{repeated_fault, succession_faults, unknown_fault}
use Rattle.roster_instance.specs.Tables.{table_of}
use Rattle.roster_instance.specs.declared.fault.CaseFault.{CaseFault}
use Rattle.roster_instance.specs.declared.fault.CaseFault.TheVariants.{Repeated}
use Rattle.roster_instance.proofs.NameLemmas.{any_same_name_map, found-no_fault, found-within}
use Rattle.roster_instance.proofs.Sections.{IsFirst-alone, IsFirst-after, IsFirst-front, both_none}
use Rattle.roster_instance.proofs.TableSteps.{cell-filled, cell-taken}

-- ---- tables

module _ {A V : Type 0} (source : List ℕ) (names : Names) (token : A → Token) (says : A → V) where
  abbrev cells : List A → List (Option V)
  cells xs = table_of (λ x. found source names (token x)) says (length names) xs

  module _ (earlier : List A) (table : List (Option V)) (are : table ≡ cells earlier) where
    -- a cell is filled if its name came before
    named-taken : (t : Token) (k : ℕ) → found source names t ≡ Some k → list_any (same_name source t) (map token earlier) ≡ is_some (get_or table k None)
    named-taken t k is =
        any_same_name_map source names t k is token earlier
        ∙ sym (cell-taken (λ x. found source names (token x)) says (length names) earlier table are k (found-within source names t k is))

    pub repeated_by_cell : (t : Token) (k : ℕ) → found source names t ≡ Some k → repeated_fault source (map token earlier) t ≡ fault_if (is_some (get_or table k None)) (Repeated t.line)
    repeated_by_cell t k is = ap (λ b. fault_if b (Repeated t.line)) (named-taken t k is)

    -- one more item, whose cell is still empty
    pub named-filled : (x : A) (k : ℕ) → found source names (token x) ≡ Some k → is_some (get_or table k None) ≡ false → set table k (Some (says x)) ≡ cells (earlier ++ x ∷ [])
    named-filled x k is free =
        sym (cell-filled (λ e. found source names (token e)) says (length names) earlier table are k (found-within source names (token x) k is) x is free)

-- ---- lines of successions

module _ (source : List ℕ) (shifts : Names) (l : Succession) (k : ℕ) (is : found source shifts l.shift ≡ Some k) where
  module _ (earlier : List Succession) (lines : List (Option (List Bool))) (are : lines ≡ successions_meant source shifts earlier) where
    abbrev of_line : Succession → Token
    of_line e = e.shift

    abbrev forbids : Succession → List Bool
    forbids e = numbers_among source shifts e.forbidden

    said : (taken : Bool) → is_some (get_or lines k None) ≡ taken → repeated_fault source (map of_line earlier) l.shift ≡ fault_if taken (Repeated l.shift.line)
    said taken cell = repeated_by_cell source shifts of_line forbids earlier lines are l.shift k is ∙ ap (λ b. fault_if b (Repeated l.shift.line)) cell

    -- a second line of a shift
    pub line-repeated : is_some (get_or lines k None) ≡ true → IsFirst (succession_faults source shifts earlier l) (Repeated l.shift.line)
    line-repeated taken = IsFirst-front _ _ _ (IsFirst-after _ _ _ (found-no_fault source shifts l.shift k is) (IsFirst-alone _ _ (said true taken)))

    -- the first line of a shift
    module _ (free : is_some (get_or lines k None) ≡ false) where
      front_none : unknown_fault source shifts l.shift ++ repeated_fault source (map of_line earlier) l.shift ≡ []
      front_none = both_none _ _ (found-no_fault source shifts l.shift k is) (said false free)

      pub line-forbidden : (f : CaseFault) → IsFirst (flat_map (unknown_fault source shifts) l.forbidden) f → IsFirst (succession_faults source shifts earlier l) f
      line-forbidden f first = IsFirst-after _ _ _ front_none first

      pub line-none : flat_map (unknown_fault source shifts) l.forbidden ≡ [] → succession_faults source shifts earlier l ≡ []
      line-none none = both_none _ _ front_none none

      pub line-filled : set lines k (Some (forbids l)) ≡ successions_meant source shifts (earlier ++ l ∷ [])
      line-filled = named-filled source shifts of_line forbids earlier lines are l k is free
