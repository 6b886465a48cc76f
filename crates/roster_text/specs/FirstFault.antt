-- The fault of a list of tokens that spells no bundle: it is at the first token, or the end, where no bundle
-- can go on.
use Rattle.std.specs.Prelude.{◌≡◌, ℕ, Bool, true, false, ◌&&◌, List, [], ◌∷◌, ◌++◌, if◌then◌else◌}
use Rattle.roster_bundle.specs.declared.bundle.Bundle.{Bundle}
use Rattle.roster_text.specs.declared.fault.TextFault.{TextFault}
use Rattle.roster_text.specs.declared.fault.TextFault.TheVariants.{Expected, NumberRange, AfterEnd}
use Rattle.roster_text.specs.declared.fault.What.{What}
use Rattle.roster_text.specs.declared.fault.What.TheVariants as what
use Rattle.roster_bundle.specs.Token.{Seen}
use Rattle.roster_text.specs.Grammar.{Pattern, Spelled, Spells, label, bundle, is_number}

-- some list that begins with these tokens spells a bundle
pub record GoesOn (ts : List Seen) : Type 0 where
  pub more : List Seen
  pub value : Bundle
  pub spells : Spells (ts ++ more) value

-- These patterns are due after the tokens `front`: some bundle has the patterns that the front fits, followed
-- by exactly these.
pub record AreDue (front : List Seen) (due : List Pattern) : Type 0 where
  pub more : List Seen
  pub value : Bundle
  pub spells : Spells (front ++ more) value
  pub passed : List Pattern
  pub patterns : bundle value ≡ passed ++ due
  pub front_fits : Spelled passed front
  pub more_fits : Spelled due more

-- no list that begins with these tokens and the next one spells a bundle; or the list ends, and spells none
-- itself
abbrev pub StopsBefore : List Seen → List Seen → Type 0
StopsBefore front [] = (b : Bundle) → Spells front b → ⊥
StopsBefore front (t ∷ ts) = GoesOn (front ++ t ∷ []) → ⊥

-- a number is due here
abbrev pub wants_number : What → Bool
wants_number what.Number = true
wants_number _ = false

-- The fault at the tokens `rest` if these patterns are due; `end` is the line of the end. Digits alone are a
-- number out of range if a number is due.
abbrev pub fault_at : ℕ → List Pattern → List Seen → TextFault
fault_at end [] [] = AfterEnd end
fault_at end [] (t ∷ ts) = AfterEnd t.token.line
fault_at end (p ∷ due) [] = Expected end (label p)
fault_at end (p ∷ due) (t ∷ ts) =
    if wants_number (label p) && is_number t.text
    then NumberRange t.token.line
    else Expected t.token.line (label p)

-- the fault of these tokens
pub record IsFirstFault (end : ℕ) (ts : List Seen) (f : TextFault) : Type 0 where
  pub front : List Seen
  pub rest : List Seen
  pub due : List Pattern
  pub split : ts ≡ front ++ rest
  pub goes_on : AreDue front due
  pub stops : StopsBefore front rest
  pub is : f ≡ fault_at end due rest
