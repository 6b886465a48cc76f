-- Each number of a command line without a fault is in its range: the given value, or else the default, passes
-- its rule.
use Rattle.std.proofs.Common.{◌≡◌, ◌<◌, ◌≤◌, ◌^◌, ◌∙◌, ℕ, inl, inr, pos, ap, ap₂, sym, subst, refl, Bool, true, false, cond, List, [], ◌∷◌, Option, Some, None, codes}
use Rattle.std.specs.Prelude.{IsSomeAnd, Ok, Result, option_and_then, option_map, slice_get}
use Rattle.std.specs.Str.Parse.{ParsesUnsigned}
use Rattle.clap.specs.Lexer.{without_minus}
use Rattle.clap.specs.Values.{read_as}
use Rattle.clap.specs.ValueTests.{accepts}
use Rattle.clap.specs.Walk.{Row, Text, row_text}
use Rattle.clap.specs.Words.{ReadsOne, fault_of, one_text, rows_of, subcommand_of}
use Rattle.clap.specs.declared.builder.value_parser.ValueParser.{ValueParser}
use Rattle.clap.specs.declared.builder.value_parser.ValueParser.TheVariants as parser
use Rattle.clap.specs.declared.error.kind.ErrorKind.{ErrorKind}
use Rattle.clap.specs.declared.parser.matches.Found.{Found}
use Rattle.clap.proofs.CallerReads.{signed_reads}
use Rattle.clap.proofs.ValueTestLemmas.{accepts-Accepts}
use Rattle.clap.proofs.WalkLemmas.{one_text-rows}
use Rattle.roster_request.specs.Limits.{most_from, most_keep, most_nodes, most_rounds, most_searches, most_seconds, most_seed}
use Rattle.roster_request.specs.CommandLine.{HasFrom, HasKeep, HasNodes, HasNumber, HasNumberIfGiven, HasRounds, HasSearches, HasSeconds, HasSeed, IsNumberOf, Meets, program, with_from, with_keep, with_nodes, with_rounds, with_searches, with_seconds}
use Rattle.roster_request.proofs.OptionLemmas.{AllHave, FirstPasses, HasIfGiven, HasValue, meets_if_given, meets_value, there_by_default}

passed : (t : Bool) (k : ErrorKind) → cond t [] (k ∷ []) ≡ [] → t ≡ true
passed true k e = refl
passed false k e = absurd (cc)

module _ (name : Text) (least most : ℕ) where
  abbrev range : ValueParser
  range = parser.Signed (pos least) (pos most)

  has_number : (rows : List Row) → HasValue name range rows → HasNumber name least most rows
  has_number rows h = go h.row.values refl h.first
    where
      go : (values : List Text) → h.row.values ≡ values → FirstPasses range values → HasNumber name least most rows
      go [] same first = absurd first
      go (v ∷ vs) same first = record {
        text = v;
        read = ap (option_and_then row_text) h.found ∙ ap₂ (λ how (vals : List Text). option_map (read_as how) (slice_get vals 0)) h.reading same;
        within = accepts-Accepts false range v (passed (accepts false range v) _ first);
      }

  -- if words without a fault name a command that may be given this number, it has the number or none
  meets_number_if_given : (commands : List Text) → AllHave name false range [] commands → (words : List Text) → fault_of program words ≡ []
      → Meets commands (HasNumberIfGiven name least most) (subcommand_of program words)
  meets_number_if_given commands have words none = go (subcommand_of program words) (meets_if_given name false range [] commands have tt words none)
    where
      either : (rows : List Row) → HasIfGiven name range rows → HasNumberIfGiven name least most rows
      either rows (inl none) = inl (ap (option_and_then row_text) none)
      either rows (inr value) = inr (has_number rows value)

      go : (o : Option (Text × List Row)) → Meets commands (HasIfGiven name range) o → Meets commands (HasNumberIfGiven name least most) o
      go None met = tt
      go (Some m) met = λ one. either m.1 (met one)

  -- if words without a fault name a command with this number, it has the number
  meets_number : (default : Text) (commands : List Text) → AllHave name false range (default ∷ []) commands → FirstPasses range (default ∷ []) → (words : List Text) → fault_of program words ≡ []
      → Meets commands (HasNumber name least most) (subcommand_of program words)
  meets_number default commands have passes words none =
      go (subcommand_of program words) (meets_value name false range (default ∷ []) commands have passes (there_by_default name false range (default ∷ []) passes) words none)
    where
      go : (o : Option (Text × List Row)) → Meets commands (HasValue name range) o → Meets commands (HasNumber name least most) o
      go None met = tt
      go (Some m) met = λ one. has_number m.1 (met one)

pub meets_rounds : (words : List Text) → fault_of program words ≡ [] → Meets with_rounds HasRounds (subcommand_of program words)
meets_rounds = meets_number (codes "rounds") 0 most_rounds (codes "100") with_rounds refl refl

pub meets_nodes : (words : List Text) → fault_of program words ≡ [] → Meets with_nodes HasNodes (subcommand_of program words)
meets_nodes = meets_number (codes "nodes") 0 most_nodes (codes "0") with_nodes refl refl

pub meets_searches : (words : List Text) → fault_of program words ≡ [] → Meets with_searches HasSearches (subcommand_of program words)
meets_searches = meets_number_if_given (codes "searches") 0 most_searches with_searches refl

pub meets_seconds : (words : List Text) → fault_of program words ≡ [] → Meets with_seconds HasSeconds (subcommand_of program words)
meets_seconds = meets_number_if_given (codes "seconds") 1 most_seconds with_seconds refl

pub meets_seed : (words : List Text) → fault_of program words ≡ [] → Meets with_searches HasSeed (subcommand_of program words)
meets_seed = meets_number (codes "seed") 0 most_seed (codes "1") with_searches refl refl

pub meets_from : (words : List Text) → fault_of program words ≡ [] → Meets with_from HasFrom (subcommand_of program words)
meets_from = meets_number (codes "from") 0 most_from (codes "0") with_from refl refl

pub meets_keep : (words : List Text) → fault_of program words ≡ [] → Meets with_keep HasKeep (subcommand_of program words)
meets_keep = meets_number (codes "keep") 0 most_keep (codes "0") with_keep refl refl

-- ---- the number

-- what a getter of a 32-bit type reads from such matches: a number in the range
pub number_read : {F : Type 0} (name : Text) (least most : ℕ) → most < 2 ^ 32 → (found : Found) (gives : Text → Result ℕ F → Type 0) → ((t : Text) (r : Result ℕ F) → gives t r → ParsesUnsigned 32 10 t r)
    → HasNumber name least most (rows_of found) → (o : Option ℕ) → ((t : Text) → one_text found name ≡ Some t → ReadsOne gives t o)
    → IsSomeAnd o (λ n. IsNumberOf name n (rows_of found) × (least ≤ n) × (n ≤ most))
number_read {F} name least most few found gives parses has o reads =
    let text = without_minus has.text in
    let one = reads text (one_text-rows found name ∙ has.read) in
    let got = signed_reads F gives 32 least most has.text o one parses few has.within in
    let read = parses text (Ok got.0) (subst (λ (x : Option ℕ). ReadsOne gives text x) got.1 one) in
    subst (λ (x : Option ℕ). IsSomeAnd x (λ n. IsNumberOf name n (rows_of found) × (least ≤ n) × (n ≤ most))) (sym got.1)
    (record { text = text; read = has.read; numeral = read.0.0; fits = subst (λ m. m < 2 ^ 32) (sym read.1) read.0.1; value = read.1 }, got.2, got.3)
