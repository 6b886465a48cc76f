use Rattle.std.proofs.Common.{◌≡◌, List, Option, Some, None, ap, subst, sym}
use Rattle.std.specs.Prelude.{option_map, unwrap_or}
use Rattle.clap.specs.Words.{Row, Text}
use Rattle.roster_request.specs.CommandLine.{HasFrom, HasKeep, IsOneOf, Meets, with_from, with_keep}
use Rattle.roster_request.proofs.words.request_in.Goals as goal

-- what the command that was met has, the command of this name has
has_met : {B : Type 0} (names : List Text) (has : List Row → Type 0) (name_is : B → Text) (rows_are : B → List Row) (met : Option B) (name : Text) (rows : List Row)
    → Some name ≡ option_map name_is met → Some rows ≡ option_map (λ (p : Text × List Row). p.1) (option_map (λ b. (name_is b, rows_are b)) met)
    → Meets names has (option_map (λ b. (name_is b, rows_are b)) met) → IsOneOf names name → has rows
has_met names has name_is rows_are None name rows e f met one = absurd cc
has_met names has name_is rows_are (Some b) name rows e f met one =
    subst has (sym (ap (λ o. unwrap_or o rows) f)) (met (subst (IsOneOf names) (ap (λ o. unwrap_or o name) e) one))

pub command_in-requires-clause-from : goal.command_in-requires-clause-from
command_in-requires-clause-from c = has_met with_from HasFrom _ _ _ _ _ c.in-Some.ensures.name c.in-Some.ensures.rows c.requires.from

pub command_in-requires-clause-keep : goal.command_in-requires-clause-keep
command_in-requires-clause-keep c = has_met with_keep HasKeep _ _ _ _ _ c.in-Some.ensures.name c.in-Some.ensures.rows c.requires.keep
