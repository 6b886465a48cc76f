-- What the words of a command line ask for, by clap's reading of them.
use Rattle.std.specs.Prelude.{◌≡◌, ◌≢◌, ◌⊎◌, ◌<◌, ◌≤◌, ◌^◌, ℕ, pos, Bool, true, false, not, List, [], ◌∷◌, map, Option, Some, option_map, unwrap_or, codes, string_bytes, None, is_some, IfSome}
use Rattle.std.specs.List.{fold, list_any}
use Rattle.std.specs.Str.Parse.{IsNumeral, digits_value, without_leading_plus}
use Rattle.clap.specs.Lexer.{usize_max}
use Rattle.clap.specs.Words.{App, Row, Rule, Shape, Text, all_of, fault_of, first_of, new_app, new_rule, one_of, subcommand_of, takes, with_rule, with_subcommand, without_minus}
use Rattle.clap.specs.Values.{IsSignedIn}
use Rattle.clap.specs.declared.builder.action.ArgAction.TheVariants as action
use Rattle.clap.specs.declared.builder.value_parser.ValueParser.TheVariants as parser
use Rattle.clap.specs.declared.error.kind.ErrorKind.{ErrorKind}
use Rattle.clap.specs.declared.error.kind.ErrorKind.TheVariants as kind
use Rattle.roster_request.specs.declared.request.Command.{Command}
use Rattle.roster_request.specs.declared.request.Command.TheVariants as command
use Rattle.roster_request.specs.declared.request.CliFault.{CliFault}
use Rattle.roster_request.specs.declared.request.CliFault.TheVariants as fault
use Rattle.roster_request.specs.declared.request.Request.{Request}
use Rattle.roster_request.specs.Limits.{most_from, most_keep, most_nodes, most_rounds, most_searches, most_seconds, most_seed}

-- any number of files
abbrev pub files_rule : Rule
files_rule = record (new_rule (codes "FILE")) {
  action = Some action.Append;
  range = Some (record { start_inclusive = 0; end_inclusive = usize_max });
}

-- an option with a value
abbrev pub value_rule : Text → Rule
value_rule name = record (new_rule name) {
  long = Some name;
  action = Some action.Set;
  value_names = 1;
}

-- an option that is required
abbrev pub given_rule : Text → Rule
given_rule name = record (value_rule name) { required = true }

-- a nurse's name
abbrev pub nurse_rule : Rule
nurse_rule = given_rule (codes "nurse")

-- a day, as a week and a weekday
abbrev pub day_rule : Rule
day_rule = given_rule (codes "day")

-- the names of a shift and of a skill, which may be left out
abbrev pub shift_rule : Rule
shift_rule = given_rule (codes "shift")

abbrev pub skill_rule : Rule
skill_rule = value_rule (codes "skill")

-- the file to which the roster goes, which may be left out
abbrev pub out_rule : Rule
out_rule = value_rule (codes "out")

-- a number from 0 to the greatest, with the default that it has if it isn't given
abbrev pub number_rule : Text → ℕ → Text → Rule
number_rule name most default = record (value_rule name) {
  parser = Some (parser.Signed (pos 0) (pos most));
  defaults = default ∷ [];
}

-- a number from the least to the greatest that may be left out
abbrev pub optional_rule : Text → ℕ → ℕ → Rule
optional_rule name least most =
    record (value_rule name) { parser = Some (parser.Signed (pos least) (pos most)) }

-- how many rounds a run may make
abbrev pub rounds_rule : Rule
rounds_rule = number_rule (codes "rounds") most_rounds (codes "100")

-- how many branchings a lower bound may make
abbrev pub nodes_rule : Rule
nodes_rule = number_rule (codes "nodes") most_nodes (codes "0")

-- how many searches a run may make; it may be left out
abbrev pub searches_rule : Rule
searches_rule = optional_rule (codes "searches") 0 most_searches

-- after how many seconds a run ends at the latest; they may be left out
abbrev pub seconds_rule : Rule
seconds_rule = optional_rule (codes "seconds") 1 most_seconds

-- the seed of its random numbers
abbrev pub seed_rule : Rule
seed_rule = number_rule (codes "seed") most_seed (codes "1")

-- a flag
abbrev pub flag_rule : Text → Rule
flag_rule name = record (new_rule name) { long = Some name; action = Some action.SetTrue }

-- whether the run makes only kicks
abbrev pub kicks_rule : Rule
kicks_rule = flag_rule (codes "kicks")

-- whether the report is JSON
abbrev pub json_rule : Rule
json_rule = flag_rule (codes "json")

-- the first week that may change
abbrev pub from_rule : Rule
from_rule = number_rule (codes "from") most_from (codes "0")

-- how many points each day costs that changes from the given roster
abbrev pub keep_rule : Rule
keep_rule = number_rule (codes "keep") most_keep (codes "0")

-- a command that reads files
abbrev pub command_of : Text → App
command_of name = with_rule (new_app name) files_rule

-- a command with arguments of its own
abbrev pub own_command_of : List Rule → Text → App
own_command_of rules name = with_rule (fold with_rule (new_app name) rules) files_rule

-- a command that reads files and writes a report, as JSON if it is asked to
abbrev pub report_of : Text → App
report_of name = own_command_of (json_rule ∷ []) name

-- a command with a number of searches, with seconds and a seed, before its other arguments
abbrev pub searching : Text → App
searching name = with_rule (with_rule (with_rule (new_app name) searches_rule) seconds_rule) seed_rule

-- the command `plan`
abbrev pub plan : App
plan =
    own_command_of (searches_rule ∷ seconds_rule ∷ seed_rule ∷ out_rule ∷ from_rule ∷ keep_rule ∷ [])
    (codes "plan")

-- the command `who`
abbrev pub who : App
who = own_command_of (day_rule ∷ shift_rule ∷ skill_rule ∷ from_rule ∷ json_rule ∷ []) (codes "who")

-- the program before its commands: it has a version, and requires one of its commands
abbrev pub bare : App
bare = record {
  top =
      record (new_app (codes "roster")).top
      { has_version = true; subcommand_required = true; arg_required_else_help = true };
  subs = [];
}

-- the commands, in the order of the help
abbrev pub commands : List Shape
commands =
    (command_of (codes "show")).top ∷ (report_of (codes "cost")).top ∷ (report_of (codes "sizes")).top
    ∷ (own_command_of (nurse_rule ∷ out_rule ∷ from_rule ∷ keep_rule ∷ []) (codes "best")).top
    ∷ (own_command_of (rounds_rule ∷ out_rule ∷ from_rule ∷ keep_rule ∷ []) (codes "improve")).top
    ∷ (own_command_of (rounds_rule ∷ nodes_rule ∷ seconds_rule ∷ from_rule ∷ keep_rule ∷ [])
    (codes "bound")).top
    ∷ (own_command_of
    (searches_rule ∷ seconds_rule ∷ seed_rule ∷ kicks_rule ∷ out_rule ∷ from_rule ∷ keep_rule ∷ [])
    (codes "polish")).top
    ∷ plan.top ∷ who.top ∷ []

-- the program's definition for clap
abbrev pub program : App
program = fold with_subcommand bare commands

-- a command's name
abbrev pub name_of : Command → Text
name_of command.Show = codes "show"
name_of (command.Cost json) = codes "cost"
name_of (command.Sizes json) = codes "sizes"
name_of (command.Best nurse from keep) = codes "best"
name_of (command.Improve rounds from keep) = codes "improve"
name_of (command.Bound rounds nodes seconds from keep) = codes "bound"
name_of (command.Polish searches seconds seed from alone keep) = codes "polish"
name_of (command.Plan searches seconds seed from keep) = codes "plan"
name_of (command.Who day shift skill from json) = codes "who"

-- one of these commands has this name
abbrev pub IsNameOf : List Shape → Text → Type 0
IsNameOf [] name = ⊥
IsNameOf (first ∷ rest) name = (name ≡ first.name) ⊎ IsNameOf rest name

-- there is a text for an argument of this name
abbrev pub IsGiven : Text → List Row → Type 0
IsGiven name rows = is_some (first_of name rows) ≡ true

-- the text that clap has for an argument of this name, as it was given and as it is read, is a number from
-- the least to the greatest
pub record HasNumber (name : Text) (least most : ℕ) (rows : List Row) : Type 0 where
  pub text : Text
  pub read : one_of name rows ≡ Some (without_minus text)
  pub within : IsSignedIn (pos least) (pos most) text

-- clap has no text for the argument, or such a number
abbrev pub HasNumberIfGiven : Text → ℕ → ℕ → List Row → Type 0
HasNumberIfGiven name least most rows = (one_of name rows ≡ None) ⊎ HasNumber name least most rows

abbrev pub HasRounds : List Row → Type 0
HasRounds rows = HasNumber (codes "rounds") 0 most_rounds rows

abbrev pub HasNodes : List Row → Type 0
HasNodes rows = HasNumber (codes "nodes") 0 most_nodes rows

abbrev pub HasSearches : List Row → Type 0
HasSearches rows = HasNumberIfGiven (codes "searches") 0 most_searches rows

abbrev pub HasSeconds : List Row → Type 0
HasSeconds rows = HasNumberIfGiven (codes "seconds") 1 most_seconds rows

abbrev pub HasSeed : List Row → Type 0
HasSeed rows = HasNumber (codes "seed") 0 most_seed rows

abbrev pub HasFrom : List Row → Type 0
HasFrom rows = HasNumber (codes "from") 0 most_from rows

abbrev pub HasKeep : List Row → Type 0
HasKeep rows = HasNumber (codes "keep") 0 most_keep rows

-- it is one of these names
abbrev pub IsOneOf : List Text → Text → Type 0
IsOneOf [] name = ⊥
IsOneOf (first ∷ rest) name = (name ≡ first) ⊎ IsOneOf rest name

-- the commands for a nurse, and those for an assignment
abbrev pub with_nurse : List Text
with_nurse = codes "best" ∷ []

abbrev pub with_assignment : List Text
with_assignment = codes "who" ∷ []

-- the commands with a number of rounds, those that may have a number of searches, those that may charge for
-- changed days, and those that leave some weeks as they are
abbrev pub with_rounds : List Text
with_rounds = codes "improve" ∷ codes "bound" ∷ []

-- the command that may branch
abbrev pub with_nodes : List Text
with_nodes = codes "bound" ∷ []

abbrev pub with_searches : List Text
with_searches = codes "polish" ∷ codes "plan" ∷ []

-- the commands that may have seconds
abbrev pub with_seconds : List Text
with_seconds = codes "bound" ∷ with_searches

abbrev pub with_keep : List Text
with_keep = codes "best" ∷ codes "polish" ∷ codes "plan" ∷ with_rounds

abbrev pub with_from : List Text
with_from = codes "best" ∷ codes "polish" ∷ codes "plan" ∷ codes "who" ∷ with_rounds

-- if one of these commands was met, its matches have the number, or may have it
abbrev pub Meets : List Text → (List Row → Type 0) → Option (Text × List Row) → Type 0
Meets names has None = Unit {0}
Meets names has (Some met) = IsOneOf names met.0 → has met.1

-- the files among the matches of a command
abbrev pub files_in : List Row → List Text
files_in rows = unwrap_or (all_of (codes "FILE") rows) []

-- the number, of 32 bits, that the text of an argument of this name spells: the given text, or else its
-- rule's default
pub record IsNumberOf (name : Text) (number : ℕ) (rows : List Row) : Type 0 where
  pub text : Text
  pub read : one_of name rows ≡ Some text
  pub numeral : IsNumeral 10 (without_leading_plus text)
  pub fits : number < 2 ^ 32
  pub value : number ≡ digits_value 10 (without_leading_plus text)

-- the number is that one, or none if clap has no text for the argument
abbrev pub IsNumberIfGiven : Text → Option ℕ → List Row → Type 0
IsNumberIfGiven name None rows = one_of name rows ≡ None
IsNumberIfGiven name (Some number) rows = IsNumberOf name number rows

-- whether this flag was given, by the text that clap reads for it: no text, or one of two
pub record IsFlag (name : Text) (is_given : Bool) (rows : List Row) : Type 0 where
  pub none : one_of name rows ≡ None → is_given ≡ false
  pub yes : one_of name rows ≡ Some (codes "true") → is_given ≡ true
  pub no : one_of name rows ≡ Some (codes "false") → is_given ≡ false

-- the command's own arguments are those among its matches
abbrev pub HasArguments : Command → List Row → Type 0
HasArguments (command.Cost json) rows = IsFlag (codes "json") json rows
HasArguments (command.Sizes json) rows = IsFlag (codes "json") json rows
HasArguments (command.Best nurse from keep) rows =
    (first_of (codes "nurse") rows ≡ Some (string_bytes nurse)) × IsNumberOf (codes "from") from rows
    × IsNumberOf (codes "keep") keep rows
HasArguments (command.Improve rounds from keep) rows =
    IsNumberOf (codes "rounds") rounds rows × IsNumberOf (codes "from") from rows
    × IsNumberOf (codes "keep") keep rows
HasArguments (command.Bound rounds nodes seconds from keep) rows =
    IsNumberOf (codes "rounds") rounds rows × IsNumberOf (codes "nodes") nodes rows
    × IsNumberIfGiven (codes "seconds") seconds rows
    × IsNumberOf (codes "from") from rows × IsNumberOf (codes "keep") keep rows
HasArguments (command.Polish searches seconds seed from alone keep) rows =
    IsNumberIfGiven (codes "searches") searches rows × IsNumberIfGiven (codes "seconds") seconds rows
    × IsNumberOf (codes "seed") seed rows × IsNumberOf (codes "from") from rows
    × IsFlag (codes "kicks") alone rows × IsNumberOf (codes "keep") keep rows
HasArguments (command.Plan searches seconds seed from keep) rows =
    IsNumberIfGiven (codes "searches") searches rows × IsNumberIfGiven (codes "seconds") seconds rows
    × IsNumberOf (codes "seed") seed rows × IsNumberOf (codes "from") from rows
    × IsNumberOf (codes "keep") keep rows
HasArguments (command.Who day shift skill from json) rows =
    (first_of (codes "day") rows ≡ Some (string_bytes day))
    × (first_of (codes "shift") rows ≡ Some (string_bytes shift)) ×
    (first_of (codes "skill") rows ≡ option_map string_bytes skill) × IsNumberOf (codes "from") from rows
    × IsFlag (codes "json") json rows
HasArguments _ rows = Unit {0}

-- seconds that a run may be given
abbrev pub AreSeconds : ℕ → Type 0
AreSeconds seconds = (1 ≤ seconds) × (seconds ≤ most_seconds)

-- the rounds, branchings, searches or seconds of a command that has some are within their limits, and so are
-- its first week and its points
abbrev pub IsInRange : Command → Type 0
IsInRange (command.Best nurse from keep) = (from ≤ most_from) × (keep ≤ most_keep)
IsInRange (command.Improve rounds from keep) =
    (rounds ≤ most_rounds) × (from ≤ most_from) × (keep ≤ most_keep)
IsInRange (command.Bound rounds nodes seconds from keep) =
    (rounds ≤ most_rounds) × (nodes ≤ most_nodes) × IfSome seconds AreSeconds
    × (from ≤ most_from) × (keep ≤ most_keep)
IsInRange (command.Polish searches seconds seed from alone keep) =
    IfSome searches (λ n. n ≤ most_searches) × IfSome seconds AreSeconds
    × (from ≤ most_from) × (keep ≤ most_keep)
IsInRange (command.Plan searches seconds seed from keep) =
    IfSome searches (λ n. n ≤ most_searches) × IfSome seconds AreSeconds
    × (from ≤ most_from) × (keep ≤ most_keep)
IsInRange (command.Who day shift skill from json) = from ≤ most_from
IsInRange _ = Unit {0}

-- the command that was met, by its name and its matches, is that of the request, with its arguments and its
-- files, and the file to which the roster goes, if one is given
pub record IsAskedIn (met : Option (Text × List Row)) (r : Request) : Type 0 where
  pub rows : List Row
  pub command : met ≡ Some (name_of r.command, rows)
  pub arguments : HasArguments r.command rows
  pub files : map string_bytes r.files.items ≡ files_in rows
  pub out : first_of (codes "out") rows ≡ option_map string_bytes r.out

-- the request is what clap's matches give for the words
abbrev pub IsAsked : List Text → Request → Type 0
IsAsked words r = IsAskedIn (subcommand_of program words) r

-- help or the version was asked for
abbrev pub is_help : ErrorKind → Bool
is_help kind.DisplayHelp = true
is_help kind.DisplayVersion = true
is_help _ = false

-- an error of this kind is reported as want of memory, help or a mistake
abbrev pub HasKindOf : ErrorKind → CliFault → Type 0
HasKindOf k fault.Memory = Unit {0}
HasKindOf k (fault.Usage text) = (k ≢ kind.OutOfMemory) × (is_help k ≡ false)
HasKindOf k (fault.Help text) = (k ≢ kind.OutOfMemory) × (is_help k ≡ true)

-- clap's definition doesn't take the words, and p holds for a kind of fault that they have
pub record IsRefused (p : ErrorKind → Bool) (words : List Text) : Type 0 where
  pub untaken : takes program words ≡ false
  pub kind : list_any p (fault_of program words) ≡ true

-- why words are refused, if there is memory
abbrev pub Refuses : List Text → CliFault → Type 0
Refuses words fault.Memory = Unit {0}
Refuses words (fault.Usage text) = IsRefused (λ k. not (is_help k)) words
Refuses words (fault.Help text) = IsRefused is_help words

-- the fault's text isn't empty
abbrev pub HasText : CliFault → Type 0
HasText fault.Memory = Unit {0}
HasText (fault.Usage text) = string_bytes text ≢ []
HasText (fault.Help text) = string_bytes text ≢ []
