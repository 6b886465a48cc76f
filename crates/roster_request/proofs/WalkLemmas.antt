-- One walk over clap's reading of the words of a command: what each use of an argument and each default keep
-- holds for the rows at the end of words without a fault.
use Rattle.std.proofs.Common.{◌≡◌, ◌&&◌, ℕ, zero, suc, Bool, cond, true, false, List, [], ◌∷◌, ◌++◌, length, drop, Option, Some, None, is_some}
use Rattle.std.specs.Prelude.{IfSome, encode_utf8, find, slice_get, ⊤}
use Rattle.std.specs.Option.{option_map_or}
use Rattle.std.specs.List.{fold}
use Rattle.std.specs.Str.{bytes_eq, chars}
use Rattle.clap.specs.Kinds.{Kinds, or_else}
use Rattle.clap.specs.Walk.{Held, Outcome, Row, Rule, Step, Text, Waiting, Walk, after_flag, after_step, arg_by_id, arg_by_index, arg_by_long, arg_by_short, attached_value, bundle, bundle_met, bundle_step, done, flag_met, idle, is_pending, long_met, long_or_other, next, nothing_held, option, option_met, option_word, plain, plain_word, positional, reacted, refused, rows_after, settled, settled_rows, short_met, short_or_plain, subcommand, subcommand_met, subcommand_or_other, takes_several, takes_values, to_positional, trailing, used, used_by_id, value, waits, walk, walk_from, walked, walked_from, with_default, word_met}
use Rattle.clap.specs.Lexer.{long_of, short_of}
use Rattle.clap.specs.Faults.{bundle_fault, bundle_step_fault, flag_word_fault, flags_fault, level_fault, long_fault, option_fault, other_fault, positional_fault, react_fault, settle_fault, short_fault, step_fault, stray_fault, turn_fault, use_fault, walk_fault, word_fault}
use Rattle.clap.specs.Simple.{Shape}
use Rattle.clap.specs.declared.error.kind.ErrorKind.TheVariants as kind
use Rattle.roster_request.proofs.CommandLineLemmas.{both_empty}

-- ---- lists

-- each item of a list
abbrev pub Each : {X : Type 0} → (X → Type 0) → List X → Type 0
Each P [] = ⊤
Each P (x ∷ xs) = P x × Each P xs

pub each_append : {X : Type 0} (P : X → Type 0) (xs ys : List X) → Each P xs → Each P ys → Each P (xs ++ ys)
each_append P [] ys h k = k
each_append P (x ∷ xs) ys h k = (h.0, each_append P xs ys h.1 k)

pub each_weaker : {X : Type 0} (P Q : X → Type 0) → ((x : X) → P x → Q x) → (xs : List X) → Each P xs → Each Q xs
each_weaker P Q f [] h = tt
each_weaker P Q f (x ∷ xs) h = (f x h.0, each_weaker P Q f xs h.1)

-- what holds for each item of a list holds for one that is found
pub each_found : {X : Type 0} (P : X → Type 0) (test : X → Bool) (xs : List X) → Each P xs → IfSome (find test xs) P
each_found P test [] h = tt
each_found P test (x ∷ xs) h = go (test x) (each_found P test xs h.1)
  where
    go : (t : Bool) → IfSome (find test xs) P → IfSome (cond t (Some x) (find test xs)) P
    go true later = h.0
    go false later = later

-- ---- the walk

module _ (Kept : List Row → Type 0) where
  -- a use of the argument that is no fault keeps it
  abbrev pub UseKeeps : Bool → Rule → Type 0
  UseKeeps again a = (values : List Text) (rows : List Row) → use_fault again a values rows ≡ [] → Kept rows → Kept (used a values rows)

  -- the default of the argument keeps it
  abbrev pub DefaultKeeps : Rule → Type 0
  DefaultKeeps a = (rows : List Row) → Kept rows → Kept (with_default rows a)

  defaults_keep : (c : List Rule) → Each DefaultKeeps c → (rows : List Row) → Kept rows → Kept (fold with_default rows c)
  defaults_keep [] each rows kept = kept
  defaults_keep (a ∷ rest) each rows kept = defaults_keep rest each.1 (with_default rows a) (each.0 rows kept)

  module _ (s : Shape) (uses : Each (UseKeeps s.args_override_self) s.rules) where
    abbrev c : List Rule
    c = s.rules

    abbrev again : Bool
    again = s.args_override_self

    abbrev MayUse : Option Rule → Type 0
    MayUse o = IfSome o (UseKeeps again)

    used_keeps : (o : Option Rule) → MayUse o → (values : List Text) (rows : List Row) → option_map_or (λ (a : Rule). use_fault again a values rows) o [] ≡ [] → Kept rows
        → Kept (used_by_id o values rows)
    used_keeps None keeps values rows none kept = kept
    used_keeps (Some a) keeps values rows none kept = keeps values rows none kept

    settle_keeps : (h : Held) → settle_fault c again h ≡ [] → Kept h.rows → Kept (settled c h).rows
    settle_keeps h none kept = go h.pending none
      where
        go : (p : Option (Text × List Text)) → option_map_or (λ (q : Text × List Text). option_map_or (λ (a : Rule). use_fault again a q.1 h.rows) (arg_by_id c q.0) []) p [] ≡ []
            → Kept (settled_rows c p h.rows)
        go None e = kept
        go (Some q) e = used_keeps (arg_by_id c q.0) (each_found (UseKeeps again) _ c uses) q.1 h.rows e kept

    react_keeps : (a : Rule) → UseKeeps again a → (values : List Text) (h : Held) → react_fault c again a values h ≡ [] → Kept h.rows → Kept (reacted c a values h).rows
    react_keeps a keeps values h none kept =
        let parts = both_empty (settle_fault c again h) (use_fault again a values (settled c h).rows) none in
        keeps values (settled c h).rows parts.1 (settle_keeps h parts.0 kept)

    option_keeps : (a : Rule) → UseKeeps again a → (v : Option Text) (h : Held) → option_fault c again a v h ≡ [] → Kept h.rows → Kept (option_met c a v h).0.rows
    option_keeps a keeps (Some v) h none kept = react_keeps a keeps (v ∷ []) h none kept
    option_keeps a keeps None h none kept = settle_keeps h none kept

    flag_keeps : (a : Rule) → UseKeeps again a → (v : Option Text) (h : Held) → cond (is_some v) (kind.TooManyValues ∷ []) (react_fault c again a [] h) ≡ [] → Kept h.rows
        → Kept (flag_met c a v h).0.rows
    flag_keeps a keeps (Some v) h none kept = kept
    flag_keeps a keeps None h none kept = react_keeps a keeps [] h none kept

    long_keeps : (o : Option Rule) → MayUse o → (v : Option Text) (h : Held) → long_fault c again o v h ≡ [] → Kept h.rows → Kept (long_met c o v h).0.rows
    long_keeps None keeps v h none kept = kept
    long_keeps (Some a) keeps v h none kept = go (takes_values a) none
      where
        go : (t : Bool) → cond t (option_fault c again a v h) (cond (is_some v) (kind.TooManyValues ∷ []) (react_fault c again a [] h)) ≡ [] → Kept (cond t (option_met c a v h) (flag_met c a v h)).0.rows
        go true e = option_keeps a keeps v h e kept
        go false e = flag_keeps a keeps v h e kept

    -- one flag of a bundle keeps the rows, if the flags after it do
    short_keeps : (o : Option Rule) → MayUse o → (rest : Text) (h : Held) (later : Held → Held × Outcome) (fault : Held → Kinds)
        → ((g : Held) → fault g ≡ [] → Kept g.rows → Kept (later g).0.rows) → short_fault c again o rest h fault ≡ [] → Kept h.rows → Kept (short_met c o rest h later).0.rows
    short_keeps None keeps rest h later fault goes none kept = kept
    short_keeps (Some a) keeps rest h later fault goes none kept = go (takes_values a) none
      where
        go : (t : Bool) → cond t (option_fault c again a (attached_value rest) h) (or_else (react_fault c again a [] h) (fault (reacted c a [] h))) ≡ []
            → Kept (cond t (option_met c a (attached_value rest) h) (later (reacted c a [] h))).0.rows
        go true e = option_keeps a keeps (attached_value rest) h e kept
        go false e = let parts = both_empty (react_fault c again a [] h) (fault (reacted c a [] h)) e in goes (reacted c a [] h) parts.1 (react_keeps a keeps [] h parts.0 kept)

    letter_keeps : (o : Option ℕ) (flags : Text) (skip : ℕ) (so_far : Outcome) (h : Held) (later : Text → ℕ → Outcome → Held → Held × Outcome) (fault : Text → ℕ → Held → Kinds)
        → ((rest : Text) (n : ℕ) (met : Outcome) (g : Held) → fault rest n g ≡ [] → Kept g.rows → Kept (later rest n met g).0.rows)
        → bundle_step_fault c again o flags skip h fault ≡ [] → Kept h.rows → Kept (bundle_step c o flags skip so_far h later).0.rows
    letter_keeps None flags skip so_far h later fault goes none kept = kept
    letter_keeps (Some x) flags zero so_far h later fault goes none kept =
        let rest = drop (length (encode_utf8 x)) flags in
        short_keeps (arg_by_short c x) (each_found (UseKeeps again) _ c uses) rest h (later rest 0 done) (fault rest 0) (goes rest 0 done) none kept
    letter_keeps (Some x) flags (suc skip) so_far h later fault goes none kept = goes (drop (length (encode_utf8 x)) flags) skip so_far h none kept

    bundle_keeps : (k : ℕ) (flags : Text) (skip : ℕ) (so_far : Outcome) (h : Held) → flags_fault c again k flags skip h ≡ [] → Kept h.rows → Kept (bundle_met c k flags skip so_far h).0.rows
    unfolding bundle_met flags_fault
    bundle_keeps zero flags skip so_far h none kept = kept
    bundle_keeps (suc k) flags skip so_far h none kept =
        letter_keeps (slice_get (chars flags) 0) flags skip so_far h (bundle_met c k) (flags_fault c again k) (bundle_keeps k) none kept

    plain_keeps : (waiting : Waiting) (word : Text) (h : Held) → Kept h.rows → Kept (plain_word c waiting word h).0.rows
    plain_keeps idle word h kept = kept
    plain_keeps positional word h kept = kept
    plain_keeps (option id) word h kept = go (arg_by_id c id)
      where
        go : (o : Option Rule) → Kept (option_word o id word h).0.rows
        go None = kept
        go (Some a) = kept

    flag_word_keeps : (waiting : Waiting) (word : Text) (h : Held) (met : Outcome) → Kept h.rows → Kept (after_flag c waiting word h met).0.rows
    flag_word_keeps waiting word h done kept = kept
    flag_word_keeps waiting word h (waits id) kept = kept
    flag_word_keeps waiting word h plain kept = plain_keeps waiting word h kept
    flag_word_keeps waiting word h refused kept = plain_keeps waiting word h kept

    shorts_keep : (waiting : Waiting) (word : Text) (o : Option Text) (h : Held) → option_map_or (λ (flags : Text). bundle_fault c again flags h) o [] ≡ [] → Kept h.rows
        → Kept (short_or_plain c waiting word o h).0.rows
    shorts_keep waiting word None h none kept = plain_keeps waiting word h kept
    shorts_keep waiting word (Some flags) h none kept =
        flag_word_keeps waiting word (bundle c flags h).0 (bundle c flags h).1 (bundle_keeps (length flags) flags h.skip plain (record h { skip = 0 }) none kept)

    word_keeps : (waiting : Waiting) (word : Text) (p : Option (Text × Option Text)) (h : Held) → flag_word_fault c again p word h ≡ [] → Kept h.rows
        → Kept (long_or_other c waiting word p h).0.rows
    word_keeps waiting word None h none kept = shorts_keep waiting word (short_of word) h none kept
    word_keeps waiting word (Some p) h none kept =
        let met = long_met c (arg_by_long c p.0) p.1 h in
        flag_word_keeps waiting word met.0 met.1 (long_keeps (arg_by_long c p.0) (each_found (UseKeeps again) _ c uses) p.1 h none kept)

    other_keeps : (met : Option Text) (waiting : Waiting) (position : ℕ) (word : Text) (h : Held) → other_fault s met word h ≡ [] → Kept h.rows
        → Kept (subcommand_or_other c met waiting position word h).0.rows
    other_keeps (Some name) waiting position word h none kept = kept
    other_keeps None waiting position word h none kept = go (bytes_eq word (45 ∷ 45 ∷ [])) none
      where
        go : (t : Bool) → cond t [] (flag_word_fault c again (long_of word) word h) ≡ [] → Kept (cond t (h, trailing position) (long_or_other c waiting word (long_of word) h)).0.rows
        go true e = kept
        go false e = word_keeps waiting word (long_of word) h e kept

    step_keeps : (word : Text) (w : Walk) (h : Held) (step : Step) → step_fault s w.position h step ≡ [] → Kept h.rows → Kept (after_step c word w h step).held.rows
    step_keeps word w h (next waiting) none kept = kept
    step_keeps word w h (trailing position) none kept = kept
    step_keeps word w h (subcommand name) none kept = kept
    step_keeps word w h value none kept = go (arg_by_index c w.position) none
      where
        held : (t : Bool) → cond t [] (settle_fault c again h) ≡ [] → Kept (cond t h (settled c h)).rows
        held true e = kept
        held false e = settle_keeps h e kept

        go : (o : Option Rule) → option_map_or (λ (a : Rule). positional_fault c again a h) o (stray_fault s) ≡ [] → Kept (to_positional c o word w h).held.rows
        go None e = kept
        go (Some a) e = held (is_pending a h.pending && takes_several a) e

    abbrev met : Walk → Text → Held × Step
    met w word = word_met c [] w.is_trailing w.waiting w.position word w.held

    turn_keeps : (w : Walk) (word : Text) → turn_fault s [] w word ≡ [] → Kept w.held.rows → Kept (walked c [] w word).held.rows
    unfolding walked
    turn_keeps w word none kept = go w.stopped none
      where
        word_kept : (t : Bool) → cond t [] (other_fault s (subcommand_met [] w.waiting word) word w.held) ≡ []
            → Kept (cond t (w.held, value) (subcommand_or_other c (subcommand_met [] w.waiting word) w.waiting w.position word w.held)).0.rows
        word_kept true e = kept
        word_kept false e = other_keeps (subcommand_met [] w.waiting word) w.waiting w.position word w.held e kept

        go : (stopped : Option (Text × List Text))
            → cond (is_some stopped) [] (or_else (word_fault s [] w.is_trailing w.waiting word w.held) (step_fault s w.position (met w word).0 (met w word).1)) ≡ []
            → Kept (walked_from c [] stopped w word).held.rows
        go (Some p) e = kept
        go None e =
            let parts = both_empty (word_fault s [] w.is_trailing w.waiting word w.held) (step_fault s w.position (met w word).0 (met w word).1) e in
            step_keeps word w (met w word).0 (met w word).1 parts.1 (word_kept w.is_trailing parts.0)

    walk_keeps : (words : List Text) (w : Walk) → walk_fault s [] w words ≡ [] → Kept w.held.rows → Kept (fold (walked c []) w words).held.rows
    unfolding walk_fault
    walk_keeps [] w none kept = kept
    walk_keeps (word ∷ rest) w none kept =
        let parts = both_empty (turn_fault s [] w word) _ none in
        walk_keeps rest (walked c [] w word) parts.1 (turn_keeps w word parts.0 kept)

    -- at the end of the words of a command
    pub level_keeps : Each DefaultKeeps c → (words : List Text) → level_fault s [] nothing_held words false [] ≡ [] → Kept [] → Kept (rows_after c [] words)
    level_keeps defaults words none empty =
        let end = (walk c [] nothing_held words).held in
        let first = both_empty (walk_fault s [] (walk_from nothing_held) words) _ none in
        let second = both_empty (settle_fault c again end) _ first.1 in
        defaults_keep c defaults (settled c end).rows (settle_keeps end second.0 (walk_keeps words (walk_from nothing_held) first.0 empty))
