-- What clap's definition of the command line makes of words that have no fault.
use Rattle.std.proofs.Common.{◌≡◌, ◌≢◌, ◌∙◌, ◌&&◌, ◌||◌, ℕ, Bool, cond, true, false, not, refl, sym, ap, subst, List, [], ◌∷◌, ◌++◌, length, take, get_or, Option, Some, None, is_some, codes, inl, inr, ◌⊎◌, true≢false}
use Rattle.std.specs.Prelude.{IfOk, IsOkAnd, IsSomeAnd, Result, Ok, Err, find, option_map}
use Rattle.std.specs.List.{fold, list_any}
use Rattle.std.specs.Str.{bytes_eq}
use Rattle.std.proofs.lemmas.Slice.Eq.{bytes_eq-Decides}
use Rattle.clap.specs.Kinds.{IsAmong, Kinds, check_kinds, or_else}
use Rattle.clap.specs.Walk.{answers_to, Held, Names, Outcome, Row, Rule, Step, Text, Waiting, Walk, after_flag, after_step, arg_by_index, done, finished, idle, long_or_other, next, nothing_held, option, plain, plain_word, positional, refused, settled, short_or_plain, stop_after, subcommand, subcommand_met, subcommand_or_other, trailing, value, waits, walk, walk_from, walked, to_positional, long_met, arg_by_long, bundle}
use Rattle.clap.specs.Lexer.{long_of, short_of}
use Rattle.clap.specs.Simple.{Shape, argument_words, built, entered, help_shape, label_of, names_of, rows_at}
use Rattle.clap.specs.Faults.{check_fault, defaults_fault, entered_fault, fault_of, other_fault, settle_fault, step_fault, walk_fault}
use Rattle.clap.specs.Facts.{explicit_source}
use Rattle.clap.specs.Takes.{is_given}
use Rattle.clap.specs.Words.{App, app_of, subcommand_of, takes, with_subcommand}
use Rattle.std.specs.declared.alloc.AllocError.{AllocError}
use Rattle.clap.specs.declared.builder.command.Command.{Command}
use Rattle.clap.specs.declared.error.kind.ErrorKind.{ErrorKind}
use Rattle.clap.specs.declared.error.kind.ErrorKind.TheVariants as kind
use Rattle.clap.proofs.WalkLemmas.{walk_stopped}
use Rattle.roster_request.specs.CommandLine.{IsNameOf, IsRefused, Refuses, HasKindOf, commands, is_help, program}
use Rattle.roster_request.specs.declared.request.CliFault.{CliFault}
use Rattle.roster_request.specs.declared.request.CliFault.TheVariants as fault

-- ---- the definition

-- a plain command has no argument that other commands share
pub no_globals : (a b globals d : Bool) → (a && (b && (not globals && d))) ≡ true → globals ≡ false
no_globals true true false d e = refl
no_globals true true true d e = absurd (true≢false (sym e))
no_globals true false globals d e = absurd (true≢false (sym e))
no_globals false b globals d e = absurd (true≢false (sym e))

-- a command that was made has this definition
abbrev pub IsMade : App → Result Command AllocError → Type 0
IsMade a made = IfOk made (λ c. app_of c ≡ a)

-- a command that was made comes from another by this step
abbrev pub MadeBy : (App → App) → Result Command AllocError → Result Command AllocError → Type 0
MadeBy step before after = IfOk after (λ c. IsOkAnd before (λ b. app_of c ≡ step (app_of b)))

-- a program that was made has one more command, if that command is plain
abbrev pub Adds : Result Command AllocError → Result Command AllocError → Result Command AllocError → Type 0
Adds before added after =
    IfOk after (λ c. IsOkAnd before (λ p. IsOkAnd added (λ s. (app_of s).top.is_plain ≡ true → app_of c ≡ with_subcommand (app_of p) (app_of s).top)))

-- a step from a command with a known definition gives one with a known definition
pub made_by : (step : App → App) (a : App) (before after : Result Command AllocError) → IsMade a before → MadeBy step before after → IsMade (step a) after
made_by step a before (Err e) same by = tt
made_by step a (Ok b) (Ok c) same by = by ∙ ap step same
made_by step a (Err e) (Ok c) same by = absurd by

-- what a call adds to a command that was made, it adds to the outcome
pub adds_made : (before added after : Result Command AllocError) (p s : Command) → before ≡ Ok p → added ≡ Ok s
    → IfOk after (λ c. (app_of s).top.is_plain ≡ true → app_of c ≡ with_subcommand (app_of p) (app_of s).top) → Adds before added after
adds_made before added after p s is_p is_s adds = subst (λ b. Adds b added after) (sym is_p) (subst (λ x. Adds (Ok p) x after) (sym is_s) adds)

-- two steps, one after the other
pub made_by_both : (f g : App → App) (first second third : Result Command AllocError) → MadeBy f first second → MadeBy g second third → MadeBy (λ a. g (f a)) first third
made_by_both f g first second (Err e) by_f by_g = tt
made_by_both f g (Ok a) (Ok b) (Ok c) by_f by_g = by_g ∙ ap g by_f
made_by_both f g (Err e) (Ok b) (Ok c) by_f by_g = absurd by_f
made_by_both f g first (Err e) (Ok c) by_f by_g = absurd by_g

-- a plain command with a known definition is added, as one step
pub adds_known : (a : App) (before added after : Result Command AllocError) → a.top.is_plain ≡ true → IsMade a added → Adds before added after
    → MadeBy (λ p. with_subcommand p a.top) before after
adds_known a before added (Err e) is_plain same adds = tt
adds_known a (Ok p) (Ok s) (Ok c) is_plain same adds =
    adds (ap (λ (x : App). x.top.is_plain) same ∙ is_plain) ∙ ap (λ (x : App). with_subcommand (app_of p) x.top) same
adds_known a (Ok p) (Err e) (Ok c) is_plain same adds = absurd adds
adds_known a (Err e) added (Ok c) is_plain same adds = absurd adds

-- ---- no fault

pub both_empty : (a b : Kinds) → or_else a b ≡ [] → (a ≡ []) × (b ≡ [])
both_empty [] b e = (refl, e)
both_empty (k ∷ ks) b e = absurd (cc)

pub ends_empty : (first second third fourth last : Kinds) → or_else first (or_else second (or_else third (or_else fourth last))) ≡ [] → (first ≡ []) × (last ≡ [])
ends_empty first second third fourth last e =
    let f = both_empty first _ e in
    let s = both_empty second _ f.1 in
    let t = both_empty third _ s.1 in
    (f.0, (both_empty fourth last t.1).1)

-- if a command is required and none was met, that is a fault
wanted : (has wants_help wants_argument : Bool) → check_kinds wants_help (not has && true) wants_argument ≡ [] → has ≡ true
wanted true wants_help wants_argument e = refl
wanted false true wants_argument e = absurd (cc)
wanted false false wants_argument e = absurd (cc)

-- ---- the walk doesn't stop at `help`

abbrev is_stop : Step → Bool
is_stop (subcommand name) = true
is_stop _ = false

plain_goes_on : (c : List Rule) (waiting : Waiting) (word : Text) (h : Held) → is_stop (plain_word c waiting word h).1 ≡ false
plain_goes_on c idle word h = refl
plain_goes_on c (option id) word h = refl
plain_goes_on c positional word h = refl

flag_goes_on : (c : List Rule) (waiting : Waiting) (word : Text) (h : Held) (met : Outcome) → is_stop (after_flag c waiting word h met).1 ≡ false
flag_goes_on c waiting word h done = refl
flag_goes_on c waiting word h (waits id) = refl
flag_goes_on c waiting word h plain = plain_goes_on c waiting word h
flag_goes_on c waiting word h refused = plain_goes_on c waiting word h

short_goes_on : (c : List Rule) (waiting : Waiting) (word : Text) (flags : Option Text) (h : Held) → is_stop (short_or_plain c waiting word flags h).1 ≡ false
short_goes_on c waiting word (Some flags) h = flag_goes_on c waiting word (bundle c flags h).0 (bundle c flags h).1
short_goes_on c waiting word None h = plain_goes_on c waiting word h

long_goes_on : (c : List Rule) (waiting : Waiting) (word : Text) (flag : Option (Text × Option Text)) (h : Held) → is_stop (long_or_other c waiting word flag h).1 ≡ false
long_goes_on c waiting word (Some p) h = flag_goes_on c waiting word (long_met c (arg_by_long c p.0) p.1 h).0 (long_met c (arg_by_long c p.0) p.1 h).1
long_goes_on c waiting word None h = short_goes_on c waiting word (short_of word) h

other_goes_on : (c : List Rule) (waiting : Waiting) (position : ℕ) (word : Text) (h : Held) → is_stop (subcommand_or_other c None waiting position word h).1 ≡ false
other_goes_on c waiting position word h = go (bytes_eq word (45 ∷ 45 ∷ []))
  where
    go : (b : Bool) → is_stop (cond b (h, trailing position) (long_or_other c waiting word (long_of word) h)).1 ≡ false
    go true = refl
    go false = long_goes_on c waiting word (long_of word) h

module _ (c : List Rule) (word : Text) (w : Walk) (open_yet : w.stopped ≡ None) (h : Held) where
  positional_open : (a : Option Rule) → (to_positional c a word w h).stopped ≡ None
  positional_open None = open_yet
  positional_open (Some a) = refl

  step_open : (step : Step) → is_stop step ≡ false → (after_step c word w h step).stopped ≡ None
  step_open (next waiting) e = open_yet
  step_open (trailing position) e = open_yet
  step_open (subcommand name) e = absurd (true≢false e)
  step_open value e = positional_open (arg_by_index c w.position)

-- the walk from here has no fault, and doesn't stop at `help`
abbrev pub NoHelp : Shape → Names → Walk → List Text → Type 0
NoHelp s names w words = walk_fault s names w words ≡ [] → (p : Text × List Text) → (fold (walked s.rules names) w words).stopped ≡ Some p → bytes_eq p.0 (codes "help") ≡ false

-- each call for help is a fault
not_help : (called : Bool) → cond (called && true) (kind.DisplayHelp ∷ kind.InvalidSubcommand ∷ []) [] ≡ [] → called ≡ false
not_help true e = absurd (cc)
not_help false e = refl

module _ (s : Shape) (names : Names) (offers : s.disable_help_subcommand ≡ false) where
  stops_at : (w : Walk) (name : Text) (word : Text) (rest : List Text) → other_fault s (Some name) word w.held ≡ []
      → (p : Text × List Text) → (fold (walked s.rules names) (record w { stopped = Some (name, []) }) rest).stopped ≡ Some p → bytes_eq p.0 (codes "help") ≡ false
  stops_at w name word rest none p e =
      let at : Some (name, rest) ≡ Some p = ap (λ (v : Walk). v.stopped) (walk_stopped s.rules names w name [] rest) ∙ e in
      let named : name ≡ p.0 = cc in
      let called : cond (bytes_eq name (codes "help") && true) (kind.DisplayHelp ∷ kind.InvalidSubcommand ∷ []) [] ≡ [] =
      ap (λ b. cond (bytes_eq name (codes "help") && not b) (kind.DisplayHelp ∷ kind.InvalidSubcommand ∷ []) []) (sym offers) ∙ none in
      ap (λ n. bytes_eq n (codes "help")) (sym named) ∙ not_help _ called

  turn : (w : Walk) (word : Text) (rest : List Text) → ((v : Walk) → v.stopped ≡ None → NoHelp s names v rest) → w.stopped ≡ None
      → (is_trailing : Bool) (met : Option Text)
      → or_else (or_else (cond is_trailing [] (other_fault s met word w.held)) (step_fault s w.position (cond is_trailing (w.held, value) (subcommand_or_other s.rules met w.waiting w.position word w.held)).0 (cond is_trailing (w.held, value) (subcommand_or_other s.rules met w.waiting w.position word w.held)).1))
      (walk_fault s names (after_step s.rules word w (cond is_trailing (w.held, value) (subcommand_or_other s.rules met w.waiting w.position word w.held)).0 (cond is_trailing (w.held, value) (subcommand_or_other s.rules met w.waiting w.position word w.held)).1) rest) ≡ []
      → (p : Text × List Text) → (fold (walked s.rules names) (after_step s.rules word w (cond is_trailing (w.held, value) (subcommand_or_other s.rules met w.waiting w.position word w.held)).0 (cond is_trailing (w.held, value) (subcommand_or_other s.rules met w.waiting w.position word w.held)).1) rest).stopped ≡ Some p → bytes_eq p.0 (codes "help") ≡ false
  turn w word rest later open_yet true met none p e = later _ (step_open s.rules word w open_yet w.held value refl) (both_empty _ _ none).1 p e
  turn w word rest later open_yet false (Some name) none p e = stops_at w name word rest (both_empty _ _ (both_empty _ _ none).0).0 p e
  turn w word rest later open_yet false None none p e =
      later _ (step_open s.rules word w open_yet _ _ (other_goes_on s.rules w.waiting w.position word w.held)) (both_empty _ _ none).1 p e

  pub no_help_open : (words : List Text) (w : Walk) → NoHelp s names (record w { stopped = None }) words
  unfolding walk_fault walked
  no_help_open [] w none p e = absurd (cc)
  no_help_open (word ∷ rest) w none p e =
      turn (record w { stopped = None }) word rest
      (λ v open_yet. subst (λ o. NoHelp s names (record v { stopped = o }) rest) (sym open_yet) (no_help_open rest v)) refl
      w.is_trailing (subcommand_met names w.waiting word) none p e

-- ---- a command is met

-- the one of these commands that a word names
abbrev named : Text → List Shape → Option Shape
named word = find (λ (s : Shape). answers_to word (label_of s))

abbrev with_rows : List Text → Option Shape → Option (Text × List Row)
with_rows rest = option_map (λ (s : Shape). rows_at s rest)

IsSomeAnd-weaker : {A : Type 0} (o : Option A) (P Q : A → Type 0) → ((x : A) → P x → Q x) → IsSomeAnd o P → IsSomeAnd o Q
IsSomeAnd-weaker None P Q f h = absurd h
IsSomeAnd-weaker (Some x) P Q f h = f x h

met_none : (last : Shape) (rest : List Text) (is_last : Bool) → is_last ≡ false → is_some (with_rows rest (cond is_last (Some last) None)) ≡ true
    → IsSomeAnd (with_rows rest (cond is_last (Some last) None)) (λ met. ⊥)
met_none last rest true other e = absurd (true≢false other)
met_none last rest false other e = absurd (true≢false (sym e))

met_first : (s : Shape) (subs : List Shape) (rest : List Text) (others : Option Shape) (is_first : Bool)
    → (is_some (with_rows rest others) ≡ true → IsSomeAnd (with_rows rest others) (λ met. IsNameOf subs met.0))
    → is_some (with_rows rest (cond is_first (Some s) others)) ≡ true → IsSomeAnd (with_rows rest (cond is_first (Some s) others)) (λ met. IsNameOf (s ∷ subs) met.0)
met_first s subs rest others true later e = inl refl
met_first s subs rest others false later e = IsSomeAnd-weaker (with_rows rest others) (λ met. IsNameOf subs met.0) (λ met. IsNameOf (s ∷ subs) met.0) (λ met h. inr h) (later e)

-- if a command was met, and it is not the last, it is one of those before
met_before : (subs : List Shape) (last : Shape) (word : Text) (rest : List Text) → answers_to word (label_of last) ≡ false
    → is_some (with_rows rest (named word (subs ++ last ∷ []))) ≡ true → IsSomeAnd (with_rows rest (named word (subs ++ last ∷ []))) (λ met. IsNameOf subs met.0)
met_before [] last word rest other e = met_none last rest (answers_to word (label_of last)) other e
met_before (s ∷ subs) last word rest other e =
    met_first s subs rest (named word (subs ++ last ∷ [])) (answers_to word (label_of s)) (met_before subs last word rest other) e

or_false : (b : Bool) → b ≡ false → (b || false) ≡ false
or_false true e = e
or_false false e = refl

is_false : (b : Bool) → (b ≡ true → ⊥) → b ≡ false
is_false true h = absurd (h refl)
is_false false h = refl

-- clap puts `help` after the program's commands
abbrev all_subs : List Shape
all_subs = (built program).subs

-- if a command was met that is not `help`, it is one of the program's
met_command : (stop : Option (Text × List Text)) → ((p : Text × List Text) → stop ≡ Some p → bytes_eq p.0 (codes "help") ≡ false)
    → is_some (entered (built program) stop) ≡ true → IsSomeAnd (entered (built program) stop) (λ met. IsNameOf commands met.0)
met_command None other e = absurd (true≢false (sym e))
met_command (Some p) other e =
    let names_help : bytes_eq (codes "help") p.0 ≡ true → ⊥ = λ h. true≢false (ap (λ n. bytes_eq n (codes "help")) ((bytes_eq-Decides (codes "help") p.0).0 h) ∙ other p refl) in
    met_before (take (length commands) all_subs) (get_or all_subs (length commands) help_shape) p.0 p.1 (or_false (bytes_eq (codes "help") p.0) (is_false _ names_help)) e

-- words without a fault name a command
pub meets_command : (words : List Text) → fault_of program words ≡ [] → IsSomeAnd (subcommand_of program words) (λ met. IsNameOf commands met.0)
meets_command words none =
    let top = (built program).top in
    let names = names_of (built program) in
    let given = argument_words program words in
    let stop = stop_after top.rules names given in
    let end = (walk top.rules names nothing_held given).held in
    let rows = finished top.rules end in
    let has = is_some (entered (built program) stop) in
    let parts = ends_empty (walk_fault top names (walk_from nothing_held) given) (entered_fault (built program) stop) (settle_fault top.rules top.args_override_self end)
    (defaults_fault (settled top.rules end).rows top.rules) (check_fault top rows has) none in
    met_command stop (no_help_open top names refl given (walk_from nothing_held) parts.0)
    (wanted has (not has && (top.arg_required_else_help && not (list_any (λ (r : Row). explicit_source r.source) rows)))
    (not (top.subcommand_negates_reqs && has) && list_any (λ (a : Rule). a.required && not (is_given a.id rows)) top.rules) parts.1)

-- ---- refusals

pub or_true : (b : Bool) → (b || true) ≡ true
or_true true = refl
or_true false = refl

-- a test that holds for one of the kinds
among : (p : ErrorKind → Bool) (k : ErrorKind) (kinds : Kinds) → IsAmong k kinds → p k ≡ true → list_any p kinds ≡ true
among p k [] h e = elim h [ ]
among p k (x ∷ xs) (inl same) e = ap (λ b. b || list_any p xs) (ap p (sym same) ∙ e)
among p k (x ∷ xs) (inr later) e = ap (λ b. p x || b) (among p k xs later e) ∙ or_true (p x)

refused_by : (p : ErrorKind → Bool) (words : List Text) (k : ErrorKind) → k ≢ kind.OutOfMemory → p k ≡ true → (takes program words ≡ true → k ≡ kind.OutOfMemory)
    → (k ≡ kind.OutOfMemory) ⊎ IsAmong k (fault_of program words) → IsRefused p words
refused_by p words k other e passes (inl same) = absurd (other same)
refused_by p words k other e passes (inr one) =
    record { untaken = is_false (takes program words) (λ taken. other (passes taken)); kind = among p k (fault_of program words) one e }

-- an error of clap's is reported as what it is
pub refuses : (words : List Text) (k : ErrorKind) (f : CliFault) → HasKindOf k f → (takes program words ≡ true → k ≡ kind.OutOfMemory)
    → (k ≡ kind.OutOfMemory) ⊎ IsAmong k (fault_of program words) → Refuses words f
refuses words k fault.Memory message passes h = tt
refuses words k (fault.Usage text) message passes h = refused_by (λ x. not (is_help x)) words k message.0 (ap not message.1) passes h
refuses words k (fault.Help text) message passes h = refused_by is_help words k message.0 message.1 passes h
