-- An option with one value. If words without a fault name a command that has it, the option has a row of
-- matches, the first value of which its parser takes: the value of a use, or else the default, unless the
-- option is required.
use Rattle.std.proofs.Common.{◌≡◌, ◌∙◌, ◌+◌, ◌&&◌, ◌||◌, ◌⊎◌, inl, inr, Bool, cond, true, false, not, refl, sym, ap, subst, List, [], ◌∷◌, ◌++◌, length, map, min, Option, Some, None, true≢false}
use Rattle.std.specs.Prelude.{IfSome, find, option_map, ⊤}
use Rattle.std.specs.Option.{option_map_or}
use Rattle.std.specs.List.{filter, fold, list_any}
use Rattle.std.specs.Str.{bytes_eq}
use Rattle.std.proofs.lemmas.Bool.{not-false}
use Rattle.std.proofs.lemmas.Slice.Eq.{bytes_eq-Decides}
use Rattle.clap.specs.Kinds.{check_kinds, range_kinds, value_kinds}
use Rattle.clap.specs.Facts.{explicit_source}
use Rattle.clap.specs.Matches.{count_text}
use Rattle.clap.specs.Takes.{is_given}
use Rattle.clap.specs.Values.{reading_of}
use Rattle.clap.specs.Walk.{Row, Rule, Text, action_of, answers_to, at_row, count_of, counted, default_rows, has_row, more_values, new_count, nothing_held, reading_by, rows_after, settled, stop_after, used_as, values_or_missing, walk, walk_from, with_default, with_values, without}
use Rattle.clap.specs.Faults.{check_fault, defaults_fault, entered_fault, fault_of, level_fault, repeat_fault, settle_fault, values_fault, walk_fault}
use Rattle.clap.specs.Simple.{Shape, argument_words, built, entered, filled, label_of, names_of, rows_at}
use Rattle.clap.specs.Words.{subcommand_of}
use Rattle.clap.specs.declared.builder.action.ArgAction.{ArgAction}
use Rattle.clap.specs.declared.builder.action.ArgAction.TheVariants as action
use Rattle.clap.specs.declared.builder.value_parser.Reading.{Reading}
use Rattle.clap.specs.declared.builder.value_parser.ValueParser.{ValueParser}
use Rattle.clap.specs.declared.error.kind.ErrorKind.TheVariants as kind
use Rattle.clap.specs.declared.parser.matches.ValueSource.{ValueSource}
use Rattle.clap.specs.declared.parser.matches.ValueSource.TheVariants.{CommandLine, DefaultValue}
use Rattle.roster_request.specs.CommandLine.{IsOneOf, Meets, program, value_rule}
use Rattle.roster_request.proofs.CommandLineLemmas.{both_empty, ends_empty, or_true}
use Rattle.roster_request.proofs.WalkLemmas.{DefaultKeeps, Each, UseKeeps, each_append, each_found, each_weaker, level_keeps}

-- ---- the command that was met

-- the commands as clap completes them, with `help` after them
abbrev subs : List Shape
subs = (built program).subs

abbrev is_one_of : List Text → Text → Bool
is_one_of names name = list_any (bytes_eq name) names

is_one_of_list : (names : List Text) (name : Text) → IsOneOf names name → is_one_of names name ≡ true
is_one_of_list [] name one = absurd one
is_one_of_list (first ∷ rest) name (inl same) = ap (λ b. b || is_one_of rest name) ((bytes_eq-Decides name first).1 same)
is_one_of_list (first ∷ rest) name (inr later) = ap (λ b. bytes_eq name first || b) (is_one_of_list rest name later) ∙ or_true (bytes_eq name first)

module _ (names : List Text) (has : List Row → Type 0) where
  -- if this command is one of these, its rows have the option at the end of words without a fault
  abbrev HasAt : Shape → Type 0
  HasAt s = (words : List Text) → level_fault s [] nothing_held words false [] ≡ [] → IsOneOf names s.name → has (rows_after s.rules [] words)

  entered_meets : Each HasAt subs → (stop : Option (Text × List Text)) → entered_fault (built program) stop ≡ [] → Meets names has (entered (built program) stop)
  entered_meets each None e = tt
  entered_meets each (Some p) e = go (find at subs) (each_found HasAt at subs each) e
    where
      at : Shape → Bool
      at s = answers_to p.0 (label_of s)

      go : (o : Option Shape) → IfSome o HasAt → option_map_or (λ (s : Shape). level_fault s [] nothing_held p.1 false []) o [] ≡ [] → Meets names has (option_map (λ (s : Shape). rows_at s p.1) o)
      go None at none = tt
      go (Some s) at none = at p.1 none

  words_meet : Each HasAt subs → (words : List Text) → fault_of program words ≡ [] → Meets names has (subcommand_of program words)
  words_meet each words none =
      let top = (built program).top in
      let given = argument_words program words in
      let stop = stop_after top.rules (names_of (built program)) given in
      let first = both_empty (walk_fault top (names_of (built program)) (walk_from nothing_held) given) _ none in
      entered_meets each stop (both_empty (entered_fault (built program) stop) _ first.1).0

each_same : {X Y : Type 0} (f g : X → Y) (xs : List X) → map f xs ≡ map g xs → Each (λ x. f x ≡ g x) xs
each_same f g [] e = tt
each_same f g (x ∷ xs) e =
    let first : f x ≡ g x = cc in
    let rest : map f xs ≡ map g xs = cc in
    (first, each_same f g xs rest)

-- ---- the row of an option

-- the first value is one that the parser takes
abbrev pub FirstPasses : ValueParser → List Text → Type 0
FirstPasses parser [] = ⊥
FirstPasses parser (v ∷ vs) = value_kinds false parser v ≡ []

first_stays : (parser : ValueParser) (vs ws : List Text) → FirstPasses parser vs → FirstPasses parser (vs ++ ws)
first_stays parser [] ws h = absurd h
first_stays parser (v ∷ vs) ws h = h

-- the option has a row that its parser has read, the first value of which passes
pub record HasValue (name : Text) (parser : ValueParser) (rows : List Row) : Type 0 where
  pub row : Row
  pub found : find (λ (r : Row). bytes_eq r.id name) rows ≡ Some row
  pub reading : row.reading ≡ reading_of parser
  pub first : FirstPasses parser row.values

-- a row stays when values come to another row, or to it
has_stays : (id other : Text) (how : Reading) (source : ValueSource) (vs : List Text) (rows : List Row) → has_row id rows ≡ true → has_row id (with_values other how source vs rows) ≡ true
has_stays id other how source vs [] has = absurd (true≢false (sym has))
has_stays id other how source vs (r ∷ rs) has = go (bytes_eq r.id other) (has_stays id other how source vs rs)
  where
    own : (b later : Bool) → (b || has_row id rs) ≡ true → (has_row id rs ≡ true → later ≡ true) → (b || later) ≡ true
    own true later h rest = refl
    own false later h rest = rest h

    go : (t : Bool) → (has_row id rs ≡ true → has_row id (with_values other how source vs rs) ≡ true) → has_row id (cond t (more_values source vs r ++ rs) (r ∷ with_values other how source vs rs)) ≡ true
    go true rest = has
    go false rest = own (bytes_eq r.id id) (has_row id (with_values other how source vs rs)) has rest

-- values that come to a row make one
has_new : (id : Text) (how : Reading) (source : ValueSource) (vs : List Text) (rows : List Row) → has_row id (with_values id how source vs rows) ≡ true
has_new id how source vs [] = ap (λ b. b || false) ((bytes_eq-Decides id id).1 refl)
has_new id how source vs (r ∷ rs) = go (bytes_eq r.id id) refl (has_new id how source vs rs)
  where
    go : (t : Bool) → bytes_eq r.id id ≡ t → has_row id (with_values id how source vs rs) ≡ true → has_row id (cond t (more_values source vs r ++ rs) (r ∷ with_values id how source vs rs)) ≡ true
    go true e rest = ap (λ b. b || has_row id rs) e
    go false e rest = ap (λ b. b || has_row id (with_values id how source vs rs)) e ∙ rest

-- an argument that was given has a row
has_given : (id : Text) (rows : List Row) → is_given id rows ≡ true → has_row id rows ≡ true
has_given id [] given = absurd (true≢false (sym given))
has_given id (r ∷ rs) given = go (bytes_eq r.id id) (has_given id rs) given
  where
    go : (t : Bool) → (is_given id rs ≡ true → has_row id rs ≡ true) → option_map_or (λ (x : Row). explicit_source x.source) (cond t (Some r) (find (λ (x : Row). bytes_eq x.id id) rs)) false ≡ true
        → (t || has_row id rs) ≡ true
    go true later e = refl
    go false later e = later e

module _ (name : Text) (parser : ValueParser) where
  -- a row of the option is read by its parser, and its first value passes
  abbrev Keeps : Row → Type 0
  Keeps r = bytes_eq r.id name ≡ true → (r.reading ≡ reading_of parser) × FirstPasses parser r.values

  abbrev Kept : List Row → Type 0
  Kept rows = Each Keeps rows

  at_row_keeps : (id : Text) (change : Row → List Row) (missing rows : List Row) → ((r : Row) → Keeps r → Kept (change r)) → Kept missing → Kept rows → Kept (at_row id change missing rows)
  at_row_keeps id change missing [] changed new kept = new
  at_row_keeps id change missing (r ∷ rs) changed new kept = go (bytes_eq r.id id) (at_row_keeps id change missing rs changed new kept.1)
    where
      go : (t : Bool) → Kept (at_row id change missing rs) → Kept (cond t (change r ++ rs) (r ∷ at_row id change missing rs))
      go true rest = each_append Keeps (change r) rs (changed r kept.0) kept.1
      go false rest = (kept.0, rest)

  without_keeps : (id : Text) (rows : List Row) → Kept rows → Kept (without id rows)
  without_keeps id rows kept = at_row_keeps id (λ r. []) [] rows (λ r k. tt) tt kept

  values_keep : (id : Text) (how : Reading) (s : ValueSource) (vs : List Text) (rows : List Row) → (bytes_eq id name ≡ true → (how ≡ reading_of parser) × FirstPasses parser vs) → Kept rows
      → Kept (with_values id how s vs rows)
  values_keep id how s vs rows own kept =
      at_row_keeps id (more_values s vs) _ rows (λ r k. ((λ same. ((k same).0, first_stays parser r.values vs (k same).1)), tt)) (own, tt) kept

  -- rows that include one of this name have it
  has_value : (rows : List Row) → Kept rows → has_row name rows ≡ true → HasValue name parser rows
  has_value [] kept has = absurd (true≢false (sym has))
  has_value (r ∷ rs) kept has = go (bytes_eq r.id name) refl (has_value rs kept.1) has
    where
      found_at : (t : Bool) → bytes_eq r.id name ≡ t → find (λ (x : Row). bytes_eq x.id name) (r ∷ rs) ≡ cond t (Some r) (find (λ (x : Row). bytes_eq x.id name) rs)
      found_at t e = ap (λ b. cond b (Some r) (find (λ (x : Row). bytes_eq x.id name) rs)) e

      go : (t : Bool) → bytes_eq r.id name ≡ t → (has_row name rs ≡ true → HasValue name parser rs) → (t || has_row name rs) ≡ true → HasValue name parser (r ∷ rs)
      go true e later h = record { row = r; found = found_at true e; reading = (kept.0 e).0; first = (kept.0 e).1 }
      go false e later h = let rest = later h in record { row = rest.row; found = found_at false e ∙ rest.found; reading = rest.reading; first = rest.first }

  -- the rows have it, or no row of its name
  abbrev pub HasIfGiven : List Row → Type 0
  HasIfGiven rows = (find (λ (r : Row). bytes_eq r.id name) rows ≡ None) ⊎ HasValue name parser rows

  value_if_given : (rows : List Row) → Kept rows → HasIfGiven rows
  value_if_given [] kept = inl refl
  value_if_given (r ∷ rs) kept = go (bytes_eq r.id name) refl (value_if_given rs kept.1)
    where
      found_at : (t : Bool) → bytes_eq r.id name ≡ t → find (λ (x : Row). bytes_eq x.id name) (r ∷ rs) ≡ cond t (Some r) (find (λ (x : Row). bytes_eq x.id name) rs)
      found_at t e = ap (λ b. cond b (Some r) (find (λ (x : Row). bytes_eq x.id name) rs)) e

      go : (t : Bool) → bytes_eq r.id name ≡ t → HasIfGiven rs → HasIfGiven (r ∷ rs)
      go true e later = inr (record { row = r; found = found_at true e; reading = (kept.0 e).0; first = (kept.0 e).1 })
      go false e (inl none) = inl (found_at false e ∙ none)
      go false e (inr rest) = inr (record { row = rest.row; found = found_at false e ∙ rest.found; reading = rest.reading; first = rest.first })

  -- the rows of another argument
  module _ (id : Text) (differ : bytes_eq id name ≡ false) where
    is_other : {A : Type 0} → bytes_eq id name ≡ true → A
    is_other same = absurd (true≢false (sym same ∙ differ))

    other_counted : (how : Reading) (vs : List Text) (rows : List Row) → Kept rows → Kept (counted id how vs rows)
    other_counted how (v ∷ vs) rows kept = values_keep id how CommandLine (v ∷ vs) (without id rows) is_other (without_keeps id rows kept)
    other_counted how [] rows kept =
        let n = min (count_of id rows + 1) 255 in
        at_row_keeps id (new_count CommandLine n) _ (without id rows) (λ r k. ((λ same. ((k same).0, first_stays parser r.values (count_text n ∷ []) (k same).1)), tt)) (is_other, tt) (without_keeps id rows kept)

    other_used : (x : ArgAction) (how : Reading) (vs : List Text) (rows : List Row) → Kept rows → Kept (used_as x id how vs rows)
    other_used action.Set how vs rows kept = values_keep id how CommandLine vs (without id rows) is_other (without_keeps id rows kept)
    other_used action.SetTrue how vs rows kept = values_keep id how CommandLine vs (without id rows) is_other (without_keeps id rows kept)
    other_used action.SetFalse how vs rows kept = values_keep id how CommandLine vs (without id rows) is_other (without_keeps id rows kept)
    other_used action.Append how vs rows kept = values_keep id how CommandLine vs rows is_other kept
    other_used action.Count how vs rows kept = other_counted how vs rows kept
    other_used _ how vs rows kept = kept

    other_default : (how : Reading) (vs : List Text) (rows : List Row) → Kept rows → Kept (default_rows id how vs rows)
    other_default how [] rows kept = kept
    other_default how (v ∷ vs) rows kept = values_keep id how DefaultValue (v ∷ vs) rows is_other kept

-- ---- an option

both_false : (x y : Bool) → (x || y) ≡ false → (x ≡ false) × (y ≡ false)
both_false true y e = absurd (true≢false e)
both_false false y e = (refl, e)

-- at the end of a level without a fault no required argument is missing
none_wanted : (help subcommand argument : Bool) → check_kinds help subcommand argument ≡ [] → argument ≡ false
none_wanted true subcommand argument e = absurd (cc)
none_wanted false true argument e = absurd (cc)
none_wanted false false true e = absurd (cc)
none_wanted false false false e = refl

not_negated : (negates wanted : Bool) → (not (negates && false) && wanted) ≡ false → wanted ≡ false
not_negated true wanted e = e
not_negated false wanted e = e

-- a default passes, if there is one
abbrev pub DefaultPasses : ValueParser → List Text → Type 0
DefaultPasses parser [] = ⊤
DefaultPasses parser (v ∷ vs) = FirstPasses parser (v ∷ vs)

module _ (name : Text) (required : Bool) (parser : ValueParser) (defaults : List Text) where
  -- the option's rule, as clap completes it
  abbrev a : Rule
  a = record (filled (value_rule name)) { required = required; parser = Some parser; defaults = defaults }

  -- no other rule has the option's name
  abbrev IsOnly : Rule → Type 0
  IsOnly b = bytes_eq b.id name ≡ true → b ≡ a

  own_use : (again : Bool) → UseKeeps (Kept name parser) again a
  own_use again [] rows none kept = let bad : kind.InvalidValue ∷ [] ≡ [] = none in absurd (cc)
  own_use again (v ∷ vs) rows none kept =
      let one = both_empty (range_kinds 1 1 (length (v ∷ vs))) _ none in
      let fresh = both_empty (repeat_fault again name rows) (values_fault a (v ∷ vs)) one.1 in
      let first = both_empty (value_kinds false parser v) _ fresh.1 in
      values_keep name parser name (reading_of parser) CommandLine (v ∷ vs) (without name rows) (λ same. (refl, first.0)) (without_keeps name parser name rows kept)

  use_keeps : (again : Bool) (b : Rule) → IsOnly b → UseKeeps (Kept name parser) again b
  use_keeps again b only values rows none kept = go (bytes_eq b.id name) refl
    where
      go : (t : Bool) → bytes_eq b.id name ≡ t → Kept name parser (used_as (action_of b) b.id (reading_by b) (values_or_missing b values) rows)
      go true e = subst (UseKeeps (Kept name parser) again) (sym (only e)) (own_use again) values rows none kept
      go false e = other_used name parser b.id e (action_of b) (reading_by b) (values_or_missing b values) rows kept

  default_keeps : DefaultPasses parser defaults → (b : Rule) → IsOnly b → DefaultKeeps (Kept name parser) b
  default_keeps passes b only rows kept = go (has_row b.id rows) (bytes_eq b.id name) refl
    where
      own : (vs : List Text) → DefaultPasses parser vs → Kept name parser (default_rows name (reading_of parser) vs rows)
      own [] h = kept
      own (v ∷ vs) h = values_keep name parser name (reading_of parser) DefaultValue (v ∷ vs) rows (λ same. (refl, h)) kept

      go : (t u : Bool) → bytes_eq b.id name ≡ u → Kept name parser (cond t rows (default_rows b.id (reading_by b) b.defaults rows))
      go true u e = kept
      go false true e = subst (λ (r : Rule). Kept name parser (default_rows r.id (reading_by r) r.defaults rows)) (sym (only e)) (own defaults passes)
      go false false e = other_default name parser b.id e (reading_by b) b.defaults rows kept

  abbrev pub IsAmong : List Rule → Type 0
  IsAmong [] = ⊥
  IsAmong (b ∷ bs) = (b ≡ a) ⊎ IsAmong bs

  -- if this command has the option, words without a fault give it a row
  abbrev pub IsThere : Shape → Type 0
  IsThere s = IsAmong s.rules → (words : List Text) → level_fault s [] nothing_held words false [] ≡ [] → has_row name (rows_after s.rules [] words) ≡ true

  -- the option is required
  pub there_if_required : required ≡ true → (s : Shape) → IsThere s
  there_if_required is_required s among words none =
      let end = (walk s.rules [] nothing_held words).held in
      let rows = rows_after s.rules [] words in
      let wanting = list_any (λ (b : Rule). b.required && not (is_given b.id rows)) s.rules in
      let ends = ends_empty (walk_fault s [] (walk_from nothing_held) words) [] (settle_fault s.rules s.args_override_self end) (defaults_fault (settled s.rules end).rows s.rules) (check_fault s rows false) none in
      has_given name rows (given rows s.rules among (not_negated s.subcommand_negates_reqs wanting (none_wanted _ _ _ ends.1)))
    where
      given : (rows : List Row) (bs : List Rule) → IsAmong bs → list_any (λ (b : Rule). b.required && not (is_given b.id rows)) bs ≡ false → is_given name rows ≡ true
      given rows [] among e = absurd among
      given rows (b ∷ bs) (inr later) e = given rows bs later (both_false _ _ e).1
      given rows (b ∷ bs) (inl same) e =
          let own = subst (λ (r : Rule). (r.required && not (is_given r.id rows)) ≡ false) same (both_false _ _ e).0 in
          not-false (is_given name rows) (subst (λ t. (t && not (is_given name rows)) ≡ false) is_required own)

  -- the option has a default
  pub there_by_default : FirstPasses parser defaults → (s : Shape) → IsThere s
  there_by_default first s among words none = in_all s.rules among (settled s.rules (walk s.rules [] nothing_held words).held).rows
    where
      more : (id : Text) (how : Reading) (vs : List Text) (rows : List Row) → has_row name rows ≡ true → has_row name (default_rows id how vs rows) ≡ true
      more id how [] rows has = has
      more id how (v ∷ vs) rows has = has_stays name id how DefaultValue (v ∷ vs) rows has

      one_more : (t : Bool) (b : Rule) (rows : List Row) → has_row name rows ≡ true → has_row name (cond t rows (default_rows b.id (reading_by b) b.defaults rows)) ≡ true
      one_more true b rows has = has
      one_more false b rows has = more b.id (reading_by b) b.defaults rows has

      stay : (bs : List Rule) (rows : List Row) → has_row name rows ≡ true → has_row name (fold with_default rows bs) ≡ true
      stay [] rows has = has
      stay (b ∷ bs) rows has = stay bs (with_default rows b) (one_more (has_row b.id rows) b rows has)

      own : (rows : List Row) (vs : List Text) → FirstPasses parser vs → (t : Bool) → has_row name rows ≡ t → has_row name (cond t rows (default_rows name (reading_of parser) vs rows)) ≡ true
      own rows [] h t e = absurd h
      own rows (v ∷ vs) h true e = e
      own rows (v ∷ vs) h false e = has_new name (reading_of parser) DefaultValue (v ∷ vs) rows

      in_all : (bs : List Rule) → IsAmong bs → (rows : List Row) → has_row name (fold with_default rows bs) ≡ true
      in_all [] among rows = absurd among
      in_all (b ∷ bs) (inr later) rows = in_all bs later (with_default rows b)
      in_all (b ∷ bs) (inl same) rows =
          stay bs (with_default rows b) (subst (λ (r : Rule). has_row name (with_default rows r) ≡ true) (sym same) (own rows defaults first (has_row name rows) refl))

  -- ---- the commands that have it

  -- the rules of the option's name
  abbrev named : List Rule → List Rule
  named = filter (λ (b : Rule). bytes_eq b.id name)

  none_named : (bs : List Rule) → named bs ≡ [] → Each IsOnly bs
  none_named [] e = tt
  none_named (b ∷ bs) e = go (bytes_eq b.id name) refl (none_named bs) e
    where
      go : (t : Bool) → bytes_eq b.id name ≡ t → (named bs ≡ [] → Each IsOnly bs) → cond t (b ∷ named bs) (named bs) ≡ [] → Each IsOnly (b ∷ bs)
      go true e later f = absurd (cc)
      go false e later f = ((λ same. absurd (true≢false (sym same ∙ e))), later f)

  one_named : (bs : List Rule) → named bs ≡ a ∷ [] → Each IsOnly bs × IsAmong bs
  one_named [] e = absurd (cc)
  one_named (b ∷ bs) e = go (bytes_eq b.id name) refl (one_named bs) e
    where
      go : (t : Bool) → bytes_eq b.id name ≡ t → (named bs ≡ a ∷ [] → Each IsOnly bs × IsAmong bs) → cond t (b ∷ named bs) (named bs) ≡ a ∷ [] → Each IsOnly (b ∷ bs) × IsAmong (b ∷ bs)
      go true e later f =
          let same : b ≡ a = cc in
          let none : named bs ≡ [] = cc in
          (((λ h. same), none_named bs none), inl same)
      go false e later f = let rest = later f in (((λ same. absurd (true≢false (sym same ∙ e))), rest.0), inr rest.1)

  -- the command's rules of the option's name, if it is one of these commands
  abbrev looked_up : List Text → Shape → List Rule
  looked_up names s = cond (is_one_of names s.name) (named s.rules) (a ∷ [])

  -- among all commands of the program each of these has the option, and no other argument of its name
  abbrev pub AllHave : List Text → Type 0
  AllHave names = map (looked_up names) subs ≡ map (λ (s : Shape). a ∷ []) subs

  -- words without a fault that name one of these commands give the option a value
  pub meets_value : (names : List Text) → AllHave names → DefaultPasses parser defaults → ((s : Shape) → IsThere s) → (words : List Text) → fault_of program words ≡ []
      → Meets names (HasValue name parser) (subcommand_of program words)
  meets_value names have passes there =
      words_meet names (HasValue name parser) (each_weaker (λ (s : Shape). looked_up names s ≡ a ∷ []) (HasAt names (HasValue name parser)) at subs (each_same (looked_up names) (λ s. a ∷ []) subs have))
    where
      at : (s : Shape) → looked_up names s ≡ a ∷ [] → HasAt names (HasValue name parser) s
      at s has words none one =
          let rules = one_named s.rules (subst (λ b. cond b (named s.rules) (a ∷ []) ≡ a ∷ []) (is_one_of_list names s.name one) has) in
          let uses = each_weaker IsOnly (UseKeeps (Kept name parser) s.args_override_self) (use_keeps s.args_override_self) s.rules rules.0 in
          let defaults_keep = each_weaker IsOnly (DefaultKeeps (Kept name parser)) (default_keeps passes) s.rules rules.0 in
          has_value name parser (rows_after s.rules [] words) (level_keeps (Kept name parser) s uses defaults_keep words none tt) (there s rules.1 words none)

  -- if the option may be left out, they give it a value or none
  pub meets_if_given : (names : List Text) → AllHave names → DefaultPasses parser defaults → (words : List Text) → fault_of program words ≡ []
      → Meets names (HasIfGiven name parser) (subcommand_of program words)
  meets_if_given names have passes =
      words_meet names (HasIfGiven name parser) (each_weaker (λ (s : Shape). looked_up names s ≡ a ∷ []) (HasAt names (HasIfGiven name parser)) at subs (each_same (looked_up names) (λ s. a ∷ []) subs have))
    where
      at : (s : Shape) → looked_up names s ≡ a ∷ [] → HasAt names (HasIfGiven name parser) s
      at s has words none one =
          let rules = one_named s.rules (subst (λ b. cond b (named s.rules) (a ∷ []) ≡ a ∷ []) (is_one_of_list names s.name one) has) in
          let uses = each_weaker IsOnly (UseKeeps (Kept name parser) s.args_override_self) (use_keeps s.args_override_self) s.rules rules.0 in
          let defaults_keep = each_weaker IsOnly (DefaultKeeps (Kept name parser)) (default_keeps passes) s.rules rules.0 in
          value_if_given name parser (rows_after s.rules [] words) (level_keeps (Kept name parser) s uses defaults_keep words none tt)
