use Rattle.std.proofs.Common.{◌≡◌, ◌∙◌, List, [], Option, ap, codes, map, refl, subst, sym, true, Result, Ok, Err}
use Rattle.std.specs.Prelude.{IfOk, IsSomeAnd, OnOk}
use Rattle.std.proofs.lemmas.Result.{IfErr-weaker}
use Rattle.clap.specs.Simple.{HasMatchesOf}
use Rattle.clap.specs.Words.{App, HasKind, Row, Text, fault_of, is_simple, is_simple_and_free, kind_of, subcommand_of, subcommand_rows_of, takes}
use Rattle.clap.specs.declared.parser.matches.ArgMatches.{ArgMatches}
use Rattle.roster_request.specs.CommandLine.{HasFrom, HasKeep, HasNodes, HasRounds, HasSearches, HasSeconds, HasSeed, HasText, IsAskedIn, IsGiven, IsNameOf, Meets, Refuses, commands, program, with_assignment, with_from, with_keep, with_nodes, with_nurse, with_rounds, with_searches, with_seconds}
use Rattle.roster_request.proofs.CommandLineLemmas.{meets_command, refuses}
use Rattle.roster_request.proofs.NumberLemmas.{meets_from, meets_keep, meets_nodes, meets_rounds, meets_searches, meets_seconds, meets_seed}
use Rattle.roster_request.proofs.NurseLemmas.{meets_day, meets_nurse, meets_shift}
use Rattle.roster_request.proofs.words.request_of.Goals as goal

simple : is_simple program ≡ true
simple = refl

free : is_simple_and_free program ≡ true
free = refl

OnOk-always : {X E : Type 0} (r : Result X E) (P : Type 0) → P → OnOk r P
OnOk-always (Ok x) P p = p
OnOk-always (Err e) P p = tt

-- what holds for the command that words without a fault name holds for the matches that clap has for them
holds_of_matches : (P : Option (Text × List Row) → Type 0) (words : List Text) (a : App) (m : ArgMatches) → a ≡ program → HasMatchesOf a words m
    → (is_simple_and_free a ≡ true → fault_of a words ≡ []) → ((w : List Text) → fault_of program w ≡ [] → P (subcommand_of program w)) → P (subcommand_rows_of m)
holds_of_matches P words a m same matches kinds holds =
    let none = kinds (ap is_simple_and_free same ∙ free) in
    let met = (matches (ap is_simple same ∙ simple)).1 ∙ ap (λ (x : App). subcommand_of x words) same in
    subst P (sym met) (holds words (ap (λ (x : App). fault_of x words) (sym same) ∙ none))

pub request_in-requires-clause-met : goal.request_in-requires-clause-met
request_in-requires-clause-met g c =
    holds_of_matches (λ met. IsSomeAnd met (λ m. IsNameOf commands m.0)) (map g.S.AsStr.text c.args.words.now) _ c.in-Ok.matches c.in_ok-program.ensures c.in-Ok.ensures.matches c.in-Ok.ensures.kinds meets_command

pub request_in-requires-clause-nurse : goal.request_in-requires-clause-nurse
request_in-requires-clause-nurse g c =
    holds_of_matches (Meets with_nurse (IsGiven (codes "nurse"))) (map g.S.AsStr.text c.args.words.now) _ c.in-Ok.matches c.in_ok-program.ensures c.in-Ok.ensures.matches c.in-Ok.ensures.kinds meets_nurse

pub request_in-requires-clause-day : goal.request_in-requires-clause-day
request_in-requires-clause-day g c =
    holds_of_matches (Meets with_assignment (IsGiven (codes "day"))) (map g.S.AsStr.text c.args.words.now) _ c.in-Ok.matches c.in_ok-program.ensures c.in-Ok.ensures.matches c.in-Ok.ensures.kinds meets_day

pub request_in-requires-clause-shift : goal.request_in-requires-clause-shift
request_in-requires-clause-shift g c =
    holds_of_matches (Meets with_assignment (IsGiven (codes "shift"))) (map g.S.AsStr.text c.args.words.now) _ c.in-Ok.matches c.in_ok-program.ensures c.in-Ok.ensures.matches c.in-Ok.ensures.kinds meets_shift

pub request_in-requires-clause-rounds : goal.request_in-requires-clause-rounds
request_in-requires-clause-rounds g c =
    holds_of_matches (Meets with_rounds HasRounds) (map g.S.AsStr.text c.args.words.now) _ c.in-Ok.matches c.in_ok-program.ensures c.in-Ok.ensures.matches c.in-Ok.ensures.kinds meets_rounds

pub request_in-requires-clause-nodes : goal.request_in-requires-clause-nodes
request_in-requires-clause-nodes g c =
    holds_of_matches (Meets with_nodes HasNodes) (map g.S.AsStr.text c.args.words.now) _ c.in-Ok.matches c.in_ok-program.ensures c.in-Ok.ensures.matches c.in-Ok.ensures.kinds meets_nodes

pub request_in-requires-clause-searches : goal.request_in-requires-clause-searches
request_in-requires-clause-searches g c =
    holds_of_matches (Meets with_searches HasSearches) (map g.S.AsStr.text c.args.words.now) _ c.in-Ok.matches c.in_ok-program.ensures c.in-Ok.ensures.matches c.in-Ok.ensures.kinds meets_searches

pub request_in-requires-clause-seconds : goal.request_in-requires-clause-seconds
request_in-requires-clause-seconds g c =
    holds_of_matches (Meets with_seconds HasSeconds) (map g.S.AsStr.text c.args.words.now) _ c.in-Ok.matches c.in_ok-program.ensures c.in-Ok.ensures.matches c.in-Ok.ensures.kinds meets_seconds

pub request_in-requires-clause-seed : goal.request_in-requires-clause-seed
request_in-requires-clause-seed g c =
    holds_of_matches (Meets with_searches HasSeed) (map g.S.AsStr.text c.args.words.now) _ c.in-Ok.matches c.in_ok-program.ensures c.in-Ok.ensures.matches c.in-Ok.ensures.kinds meets_seed

pub request_in-requires-clause-from : goal.request_in-requires-clause-from
request_in-requires-clause-from g c =
    holds_of_matches (Meets with_from HasFrom) (map g.S.AsStr.text c.args.words.now) _ c.in-Ok.matches c.in_ok-program.ensures c.in-Ok.ensures.matches c.in-Ok.ensures.kinds meets_from

pub request_in-requires-clause-keep : goal.request_in-requires-clause-keep
request_in-requires-clause-keep g c =
    holds_of_matches (Meets with_keep HasKeep) (map g.S.AsStr.text c.args.words.now) _ c.in-Ok.matches c.in_ok-program.ensures c.in-Ok.ensures.matches c.in-Ok.ensures.kinds meets_keep

pub returns-in-Ok-clause-request : goal.returns-in-Ok-clause-request
returns-in-Ok-clause-request g c =
    let words = map g.S.AsStr.text c.args.words.now in
    let met = (c.in-Ok.ensures.matches (ap is_simple c.in_ok-program.ensures ∙ simple)).1 ∙ ap (λ (a : App). subcommand_of a words) c.in_ok-program.ensures in
    subst (λ rows. IfOk c.request_in.result (IsAskedIn rows)) met c.request_in.ensures.request

pub returns-in-Ok-clause-faultless : goal.returns-in-Ok-clause-faultless
returns-in-Ok-clause-faultless g c =
    let words = map g.S.AsStr.text c.args.words.now in
    let none = c.in-Ok.ensures.kinds (ap is_simple_and_free c.in_ok-program.ensures ∙ free) in
    OnOk-always c.request_in.result _ (ap (λ (a : App). fault_of a words) (sym c.in_ok-program.ensures) ∙ none)

pub returns-in-Err-clause-refusal : goal.returns-in-Err-clause-refusal
returns-in-Err-clause-refusal g c =
    let words = map g.S.AsStr.text c.args.words.now in
    let is_program = c.in_ok-program.ensures in
    let among = c.in-Err.ensures.kinds (ap is_simple_and_free is_program ∙ free) in
    refuses words (kind_of c.in-Err.error) c.refusal.result c.refusal.ensures.kind
    (λ taken. c.in-Err.ensures.passes (ap (λ (a : App). takes a words) is_program ∙ taken))
    (subst (λ (a : App). HasKind (fault_of a words) c.in-Err.error) is_program among)

pub returns-in-Ok-clause-range : goal.returns-in-Ok-clause-range
returns-in-Ok-clause-range g c = c.request_in.ensures.range

pub returns-in-Ok-clause-refusal : goal.returns-in-Ok-clause-refusal
returns-in-Ok-clause-refusal g c =
    IfErr-weaker c.request_in.result _ _ (λ e memory. subst (Refuses (map g.S.AsStr.text c.args.words.now)) (sym memory) tt) c.request_in.ensures.memory

pub returns-in-Ok-clause-text : goal.returns-in-Ok-clause-text
returns-in-Ok-clause-text g c = IfErr-weaker c.request_in.result _ _ (λ e memory. subst HasText (sym memory) tt) c.request_in.ensures.memory

pub returns-in-Err-clause-request : goal.returns-in-Err-clause-request
returns-in-Err-clause-request g c = tt

pub returns-in-Err-clause-range : goal.returns-in-Err-clause-range
returns-in-Err-clause-range g c = tt

pub returns-in-Err-clause-faultless : goal.returns-in-Err-clause-faultless
returns-in-Err-clause-faultless g c = tt

pub returns-in-Err-clause-text : goal.returns-in-Err-clause-text
returns-in-Err-clause-text g c = c.refusal.ensures.text
