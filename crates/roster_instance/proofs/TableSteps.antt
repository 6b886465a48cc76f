-- A table of the items so far, whose cell is checked before one more item is put there.
use Rattle.std.proofs.Common.{◌≡◌, ◌∙◌, ◌<◌, ◌++◌, ◌∷◌, ℕ, false, List, [], Option, Some, None, ap, get_or, is_some, refl, sym}
use Rattle.std.proofs.Math.ListN.{set}
use Rattle.std.specs.List.{list_any}
use Rattle.roster_instance.specs.Tables.{is_at, table_of}
use Rattle.roster_instance.proofs.TableLemmas.{table-push, taken-any}

none-free : {V : Type 0} (cell : Option V) → is_some cell ≡ false → cell ≡ None
none-free None free = refl
none-free (Some v) free = absurd (cc)

module _ {A V : Type 0} (index : A → Option ℕ) (says : A → V) (n : ℕ) (earlier : List A) (table : List (Option V)) (is : table ≡ table_of index says n earlier) (p : ℕ) (within : p < n) where
  -- the cell is filled if an earlier item has this index
  pub cell-taken : is_some (get_or table p None) ≡ list_any (λ e. is_at p (index e)) earlier
  cell-taken = ap (λ cells. is_some (get_or cells p None)) is ∙ taken-any index says n p earlier within

  -- and if it isn't, the item fills it
  pub cell-filled : (x : A) → index x ≡ Some p → is_some (get_or table p None) ≡ false → table_of index says n (earlier ++ x ∷ []) ≡ set table p (Some (says x))
  cell-filled x at free =
      table-push index says n p earlier x at within (none-free _ (sym (ap (λ cells. is_some (get_or cells p None)) is) ∙ free))
      ∙ ap (λ cells. set cells p (Some (says x))) (sym is)
