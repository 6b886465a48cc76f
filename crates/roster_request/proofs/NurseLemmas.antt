-- If the words name a command with a required text, and have no fault, the text is among clap's matches.
use Rattle.std.proofs.Common.{◌≡◌, ◌∙◌, ap, refl, true, List, [], ◌∷◌, Option, Some, None, is_some, codes}
use Rattle.std.specs.Prelude.{option_and_then, slice_get}
use Rattle.clap.specs.Walk.{Row, Text}
use Rattle.clap.specs.Words.{fault_of, subcommand_of}
use Rattle.clap.specs.declared.builder.value_parser.ValueParser.TheVariants as parser
use Rattle.roster_request.specs.CommandLine.{IsGiven, Meets, program, with_assignment, with_nurse}
use Rattle.roster_request.proofs.OptionLemmas.{AllHave, FirstPasses, HasValue, meets_value, there_if_required}

module _ (name : Text) where
  abbrev HasName : List Row → Type 0
  HasName = HasValue name parser.String

  first_given : (rows : List Row) → HasName rows → IsGiven name rows
  first_given rows h = ap (λ (o : Option Row). is_some (option_and_then (λ (r : Row). slice_get r.values 0) o)) h.found ∙ go h.row.values h.first
    where
      go : (values : List Text) → FirstPasses parser.String values → is_some (slice_get values 0) ≡ true
      go [] first = absurd first
      go (v ∷ vs) first = refl

  -- if words without a fault name one of these commands, it has the text
  meets_given : (commands : List Text) → AllHave name true parser.String [] commands → (words : List Text) → fault_of program words ≡ [] → Meets commands (IsGiven name) (subcommand_of program words)
  meets_given commands have words none =
      go (subcommand_of program words) (meets_value name true parser.String [] commands have tt (there_if_required name true parser.String [] refl) words none)
    where
      go : (o : Option (Text × List Row)) → Meets commands HasName o → Meets commands (IsGiven name) o
      go None met = tt
      go (Some m) met = λ named. first_given m.1 (met named)

pub meets_nurse : (words : List Text) → fault_of program words ≡ [] → Meets with_nurse (IsGiven (codes "nurse")) (subcommand_of program words)
meets_nurse = meets_given (codes "nurse") with_nurse refl

pub meets_day : (words : List Text) → fault_of program words ≡ [] → Meets with_assignment (IsGiven (codes "day")) (subcommand_of program words)
meets_day = meets_given (codes "day") with_assignment refl

pub meets_shift : (words : List Text) → fault_of program words ≡ [] → Meets with_assignment (IsGiven (codes "shift")) (subcommand_of program words)
meets_shift = meets_given (codes "shift") with_assignment refl
