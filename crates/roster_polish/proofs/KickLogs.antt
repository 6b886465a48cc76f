-- A run of kicks: the lines so far are sent.
use Rattle.std.proofs.Common.{◌≡◌, ◌∙◌, ◌+◌, ◌-◌, ◌<◌, ◌≤◌, ℕ, Bool, false, true, List, [], ◌∷◌, ◌++◌, None, Option, Some, ap, append_assoc, append-nil, arith, flat_map, length, length-append, map, refl, subst, sym, zero-add}
use Rattle.std.specs.Prelude.{IfSome, if◌then◌else◌}
use Rattle.std.proofs.lemmas.Bool.{false≢true, le-ltb, lt-ltb}
use Rattle.std.proofs.lemmas.List.{map-append}
use Rattle.std.proofs.lemmas.List.Concat.{flat_map-append}
use Rattle.std.proofs.lemmas.List.Elements.{All-append, All-cons, All-nil}
use Rattle.roster_text.specs.declared.fault.WriteFault.{WriteFault}
use Rattle.roster_text.specs.Io.{BreaksIn, Sends, StopsAt, Watched, saturated, sent_of}
use Rattle.roster_text.proofs.Texts.{Sends-append, StopsAt-after, StopsAt-append}
use Rattle.roster_instance.specs.Meaning.{Meaning}
use Rattle.roster_instance.specs.Rosters.{Rows}
use Rattle.roster_rules.specs.Penalties.{penalty}
use Rattle.roster_rules.specs.AllowedRows.{best_row}
use Rattle.roster_rules.specs.Improver.{line, start_word}
use Rattle.roster_laws.specs.FrozenDays.{FrozenDaysStay}
use Rattle.roster_laws.proofs.Frozen.{stays_self, steps_stay}
use Rattle.roster_laws.proofs.Kept.{IsKept, run_keeps, step_keeps}
use Rattle.roster_laws.proofs.Runs.{fall, settled_rows}
use Rattle.roster_rounds.specs.PutIn.{IsAccepted}
use Rattle.roster_reports.specs.declared.log_fault.LogFault.TheVariants.{LogFailed}
use Rattle.roster_polish.specs.declared.run.Polished.{Polished}
use Rattle.roster_polish.specs.Polished.{Falls, IsFaded, IsKickLog, IsPolishing, IsReached, KickLine, PolishLogStops, Polishes, LogEntry, begun, fade_line, fade_text, first_run, held_at, kick_line, kicks_text, last_kick, last_line, descent_rounds, no_kick, fade_entry, kick_entry, last_entry, log_entries, start_entry}
use Rattle.roster_polish.specs.Settled.{IsSettled}
use Rattle.roster_polish.specs.Shown.{IsAsDear, IsReported}

-- ---- one more line

last_is : (before : KickLine) (xs : List KickLine) (x : KickLine) → last_kick before (xs ++ x ∷ []) ≡ x
last_is before [] x = refl
last_is before (y ∷ xs) x = last_is y xs x

falls_more : (c : Meaning) (before : KickLine) (xs : List KickLine) (x : KickLine) → Falls c before xs → (last_kick before xs).kick < x.kick → penalty c x.roster < penalty c (last_kick before xs).roster → Falls c before (xs ++ x ∷ [])
falls_more c before [] x falls later less = (later, less, tt)
falls_more c before (y ∷ xs) x falls later less = (falls.0, falls.1, falls_more c y xs x falls.2 later less)

pub last_is_least : (c : Meaning) (before : KickLine) (xs : List KickLine) → Falls c before xs → penalty c (last_kick before xs).roster ≤ penalty c before.roster
last_is_least c before [] falls = omega arith
last_is_least c before (x ∷ xs) falls = omega (arith, falls.1, last_is_least c x xs falls.2)

-- ---- where the kicks begin

begun_reached : (c : Meaning) (from : ℕ) (given first : Rows) (fade : Option Rows) → IfSome fade (IsFaded c from given first) → penalty c (begun fade first) ≤ penalty c first
begun_reached c from given first None faded = omega arith
begun_reached c from given first (Some r) faded = faded.no_dearer

-- ---- the roster at a line

held_here : (x : LogEntry) (xs : List LogEntry) (r : Rows) (sent : ℕ) → sent < length x.text → held_at sent (x ∷ xs) r ≡ x.roster
held_here x xs r sent inside = ap (λ b. if b then x.roster else held_at (sent - length x.text) xs r) (lt-ltb sent (length x.text) inside)

held_later : (x : LogEntry) (xs : List LogEntry) (r : Rows) (more : ℕ) → held_at (length x.text + more) (x ∷ xs) r ≡ held_at more xs r
held_later x xs r more =
    let rest : length x.text + more - length x.text ≡ more = omega arith in
    ap (λ b. if b then x.roster else held_at (length x.text + more - length x.text) xs r) (le-ltb (length x.text + more) (length x.text) (omega arith)) ∙ ap (λ m. held_at m xs r) rest

held_kicks : (c : Meaning) (xs : List KickLine) (rest : List LogEntry) (r : Rows) (more : ℕ) → held_at (length (flat_map (kick_line c) xs) + more) (map (kick_entry c) xs ++ rest) r ≡ held_at more rest r
held_kicks c [] rest r more = ap (λ m. held_at m rest r) (zero-add more)
held_kicks c (x ∷ xs) rest r more =
    let size : length (kick_line c x ++ flat_map (kick_line c) xs) + more ≡ length (kick_line c x) + (length (flat_map (kick_line c) xs) + more) = omega (arith, length-append (kick_line c x) (flat_map (kick_line c) xs)) in
    ap (λ m. held_at m (kick_entry c x ∷ map (kick_entry c) xs ++ rest) r) size ∙ held_later (kick_entry c x) (map (kick_entry c) xs ++ rest) r (length (flat_map (kick_line c) xs) + more) ∙ held_kicks c xs rest r more

held_fade : (c : Meaning) (fade : Option Rows) (rest : List LogEntry) (r : Rows) (more : ℕ) → held_at (length (fade_text c fade) + more) (fade_entry c fade ++ rest) r ≡ held_at more rest r
held_fade c None rest r more = ap (λ m. held_at m rest r) (zero-add more)
held_fade c (Some faded) rest r more = held_later (record { text = fade_line c faded; roster = faded }) rest r more

-- at the line after some kicks
held_after : (c : Meaning) (given : Rows) (start : ℕ) (fade : Option Rows) (xs : List KickLine) (x : LogEntry) (rest : List LogEntry) (more : ℕ) → more < length x.text
    → held_at (length (kicks_text c start fade xs) + more) (start_entry c start given ∷ (fade_entry c fade ++ (map (kick_entry c) xs ++ x ∷ rest))) given ≡ x.roster
held_after c given start fade xs x rest more inside =
    let first : List ℕ = line (start_word c) start in
    let kicks : List ℕ = flat_map (kick_line c) xs in
    let those : List LogEntry = fade_entry c fade ++ (map (kick_entry c) xs ++ x ∷ rest) in
    let size : length (first ++ (fade_text c fade ++ kicks)) + more ≡ length first + (length (fade_text c fade) + (length kicks + more)) = omega (arith, length-append first (fade_text c fade ++ kicks), length-append (fade_text c fade) kicks) in
    ap (λ m. held_at m (start_entry c start given ∷ those) given) size ∙ held_later (start_entry c start given) those given (length (fade_text c fade) + (length kicks + more))
    ∙ held_fade c fade (map (kick_entry c) xs ++ x ∷ rest) given (length kicks + more) ∙ held_kicks c xs (x ∷ rest) given more ∙ held_here x rest given more inside

logged_more : (c : Meaning) (given : Rows) (start : ℕ) (fade : Option Rows) (xs : List KickLine) (x : KickLine) (settled : Bool) (last : Rows)
    → start_entry c start given ∷ (fade_entry c fade ++ (map (kick_entry c) xs ++ kick_entry c x ∷ last_entry c settled last ∷ [])) ≡ log_entries c given start fade (xs ++ x ∷ []) settled last
logged_more c given start fade xs x settled last =
    ap (λ those. start_entry c start given ∷ (fade_entry c fade ++ those)) (sym (append_assoc (map (kick_entry c) xs) (kick_entry c x ∷ []) (last_entry c settled last ∷ [])) ∙ ap (λ those. those ++ last_entry c settled last ∷ []) (sym (map-append (kick_entry c) xs (x ∷ []))))

-- ---- the first line

pub first_text : (c m : Meaning) (start : ℕ) → m ≡ c → line (start_word m) start ≡ kicks_text c start None []
first_text c m start same = ap (λ (x : Meaning). line (start_word x) start) same ∙ sym (append-nil (line (start_word c) start))

-- the log of a run that keeps neither a fade nor a kick
abbrev pub unkicked_text : Meaning → ℕ → ℕ → Rows → List ℕ
unkicked_text c from start given = kicks_text c start None [] ++ last_line c (first_run c from given).is_settled (first_run c from given).roster

-- ---- the kicks made so far

pub record Underway {W : Type 0} (contents : W → Option (List ℕ)) (c : Meaning) (from : ℕ) (given : Rows) (start : ℕ) (alone : Bool) (old mid : Watched W) (made sent : ℕ) (settled reported : Bool) (kept : Rows) : Type 0 where
  pub fade : Option Rows
  pub fadeless : alone ≡ true → fade ≡ None
  pub faded : IfSome fade (IsFaded c from given (first_run c from given).roster)
  pub lines : List KickLine
  pub is_log : IsKickLog c from given (begun fade (first_run c from given).roster) made lines
  pub as_logged : penalty c kept ≡ penalty c (last_kick (no_kick (begun fade (first_run c from given).roster)) lines).roster
  pub as_reported : reported ≡ true → IsAsDear c given fade lines kept
  pub is_settled : settled ≡ true → IsSettled c from kept
  pub surely : (first_run c from given).is_settled ≡ true → settled ≡ true
  pub sends : Sends contents old mid 0 sent (kicks_text c start fade lines)

module _ (c : Meaning) (from : ℕ) (given : Rows) (start : ℕ) (alone : Bool) where
  abbrev IsLine : KickLine → Type 0
  IsLine x = IsReached c from given x.roster × IsSettled c from x.roster

  abbrev first : Rows
  first = (first_run c from given).roster

  no_log : (begin : Rows) (made : ℕ) → IsKickLog c from given begin made []
  no_log begin made = record { reached = All-nil IsLine; falls = tt; within = omega arith }

  first_settled : (first_run c from given).is_settled ≡ true → IsSettled c from first
  first_settled end = settled_rows c from descent_rounds given end

  later_log : (begin : Rows) (made next : ℕ) (lines : List KickLine) → made ≤ next → IsKickLog c from given begin made lines → IsKickLog c from given begin next lines
  later_log begin made next lines h p = let within : (last_kick (no_kick begin) lines).kick ≤ made = p.within in record { reached = p.reached; falls = p.falls; within = omega arith }

  -- no roster of a log is dearer than the given one
  pub no_dearer_than : (fade : Option Rows) → IfSome fade (IsFaded c from given first) → (lines : List KickLine) (kept : Rows) → Falls c (no_kick (begun fade first)) lines
      → penalty c kept ≡ penalty c (last_kick (no_kick (begun fade first)) lines).roster → penalty c kept ≤ penalty c given
  no_dearer_than fade faded lines kept falls logged =
      omega (arith, logged, last_is_least c (no_kick (begun fade first)) lines falls, begun_reached c from given first fade faded, fall c (best_row c from) descent_rounds given)

  -- ---- a run without a kick

  pub first_kept : IsAccepted c given → IsReached c from given first
  first_kept accepted = record {
    accepted = run_keeps c (best_row c from) (IsKept c) (step_keeps c from) descent_rounds given accepted;
    stays = run_keeps c (best_row c from) (FrozenDaysStay c from given) (steps_stay c from given) descent_rounds given (stays_self c from given);
  }

  pub unkicked : (kicks : ℕ) → IsAccepted c given → IsPolishing c from given start kicks alone (first_run c from given).is_settled first (unkicked_text c from start given)
  unkicked kicks accepted = record {
    fade = None;
    fadeless = λ e. refl;
    faded = tt;
    lines = [];
    is_log = no_log first kicks;
    reached = first_kept accepted;
    as_logged = refl;
    no_dearer = no_dearer_than None tt [] first tt refl;
    is_settled = first_settled;
    surely = λ end. end;
    text_is = refl;
  }

  module _ {W : Type 0} (contents : W → Option (List ℕ)) (old : Watched W) where
    first_line : List ℕ
    first_line = line (start_word c) start

    text_more : (fade : Option Rows) (xs : List KickLine) (x : KickLine) → kicks_text c start fade xs ++ kick_line c x ≡ kicks_text c start fade (xs ++ x ∷ [])
    unfolding first_line
    text_more fade xs x =
        append_assoc first_line (fade_text c fade ++ flat_map (kick_line c) xs) (kick_line c x)
        ∙ ap (λ text. first_line ++ text) (append_assoc (fade_text c fade) (flat_map (kick_line c) xs) (kick_line c x))
        ∙ ap (λ text. first_line ++ (fade_text c fade ++ text)) (ap (λ text. flat_map (kick_line c) xs ++ text) (sym (append-nil (kick_line c x))) ∙ sym (flat_map-append (kick_line c) xs (x ∷ [])))

    pub underway_first : (new : Watched W) (sent : ℕ) → Sends contents old new 0 sent (kicks_text c start None []) → Underway contents c from given start alone old new 0 sent (first_run c from given).is_settled false first
    underway_first new sent sends = record {
      fade = None;
      fadeless = λ e. refl;
      faded = tt;
      lines = [];
      is_log = no_log first 0;
      as_logged = refl;
      as_reported = λ e. absurd (false≢true e);
      is_settled = first_settled;
      surely = λ end. end;
      sends = sends;
    }

    -- the given roster is one that the log has reported
    pub reported_first : (new : Watched W) (sent : ℕ) → IsAccepted c given → Sends contents old new 0 sent (kicks_text c start None []) → IsReported contents c from given start old given
    reported_first new sent accepted sends = record { fade = None; lines = []; met = new; sent = sent; sends = sends; reached = record { accepted = accepted; stays = stays_self c from given }; as_dear = refl }

    -- the start's line broke off
    pub start_breaks : (kicks : ℕ) (new : Watched W) (fault : WriteFault) → IsAccepted c given → BreaksIn contents old new 0 (kicks_text c start None []) fault → PolishLogStops contents c from given start kicks alone given old new (LogFailed (sent_of fault))
    unfolding unkicked
    start_breaks kicks new fault accepted p = record {
      settled = (first_run c from given).is_settled;
      last = first;
      text = unkicked_text c from start given;
      run = unkicked kicks accepted;
      sent = p.sent;
      stops = StopsAt-append contents old new (kicks_text c start None []) (last_line c (first_run c from given).is_settled first) p.sent p.stops;
      counted = ap (λ f. LogFailed (sent_of f)) p.counted ∙ ap (λ n. LogFailed (saturated n)) (zero-add p.sent);
      held = sym (held_here (start_entry c start given) (last_entry c (first_run c from given).is_settled first ∷ []) given p.sent (subst (λ text. p.sent < length text) (append-nil (line (start_word c) start)) p.stops.left));
      reached = record { accepted = accepted; stays = stays_self c from given };
    }

    -- ---- a fade that is kept

    module _ (mid : Watched W) (sent : ℕ) (sends : Sends contents old mid 0 sent (kicks_text c start None [])) (next : Rows) (fades : alone ≡ true → ⊥) (faded : IsFaded c from given first next) where
      fade_more : kicks_text c start None [] ++ fade_line c next ≡ kicks_text c start (Some next) []
      unfolding first_line
      fade_more = append_assoc first_line [] (fade_line c next) ∙ ap (λ text. first_line ++ text) (sym (append-nil (fade_line c next)))

      pub underway_faded : (new : Watched W) (after : ℕ) → Sends contents mid new sent after (fade_line c next) → Underway contents c from given start alone old new 0 after true true next
      underway_faded new after q = record {
        fade = Some next;
        fadeless = λ e. absurd (fades e);
        faded = faded;
        lines = [];
        is_log = no_log next 0;
        as_logged = refl;
        as_reported = λ e. refl;
        is_settled = λ e. faded.is_settled;
        surely = λ end. refl;
        sends = subst (Sends contents old new 0 after) fade_more (Sends-append contents old mid new 0 sent after (kicks_text c start None []) (fade_line c next) sends q);
      }

      -- its line broke off
      pub fade_breaks : (kicks : ℕ) (new : Watched W) (fault : WriteFault) → BreaksIn contents mid new sent (fade_line c next) fault → PolishLogStops contents c from given start kicks alone next old new (LogFailed (sent_of fault))
      unfolding first_line
      fade_breaks kicks new fault q =
          let front : sent ≡ saturated (0 + length (kicks_text c start None [])) = sends.counted in
          let count : saturated (sent + q.sent) ≡ saturated (length (kicks_text c start None []) + q.sent) = omega arith in
          let whole : List LogEntry = log_entries c given start (Some next) [] true next in
          let size : length (kicks_text c start None []) + q.sent ≡ length first_line + q.sent = ap (λ text. length text + q.sent) (append-nil first_line) in
          record {
            settled = true;
            last = next;
            text = kicks_text c start (Some next) [] ++ last_line c true next;
            run = record {
              fade = Some next;
              fadeless = λ e. absurd (fades e);
              faded = faded;
              lines = [];
              is_log = no_log next kicks;
              reached = faded.reached;
              as_logged = refl;
              no_dearer = no_dearer_than (Some next) faded [] next tt refl;
              is_settled = λ e. faded.is_settled;
              surely = λ end. refl;
              text_is = refl;
            };
            sent = length (kicks_text c start None []) + q.sent;
            stops = StopsAt-append contents old new (kicks_text c start (Some next) []) (last_line c true next) (length (kicks_text c start None []) + q.sent)
                (subst (λ text. StopsAt contents old new text (length (kicks_text c start None []) + q.sent)) fade_more (StopsAt-after contents old mid new (kicks_text c start None []) (fade_line c next) q.sent sends.writes q.stops));
            counted = ap (λ f. LogFailed (sent_of f)) q.counted ∙ ap LogFailed count;
            held = sym (ap (λ m. held_at m whole given) size ∙ held_later (start_entry c start given) (fade_entry c (Some next) ++ last_entry c true next ∷ []) given q.sent
                ∙ held_here (record { text = fade_line c next; roster = next }) (last_entry c true next ∷ []) given q.sent q.stops.left);
            reached = faded.reached;
          }

    module _ (mid : Watched W) (made sent : ℕ) (settled reported : Bool) (kept : Rows) (p : Underway contents c from given start alone old mid made sent settled reported kept) where
      abbrev begin : Rows
      begin = begun p.fade first

      pub underway_no_dearer : penalty c kept ≤ penalty c given
      underway_no_dearer = no_dearer_than p.fade p.faded p.lines kept p.is_log.falls p.as_logged

      -- the kept roster is one that the log has reported
      pub reported_now : reported ≡ true → IsReached c from given kept → IsReported contents c from given start old kept
      reported_now is reached = record { fade = p.fade; lines = p.lines; met = mid; sent = sent; sends = p.sends; reached = reached; as_dear = p.as_reported is }

      -- a kick that left the roster as dear
      pub underway_same : (now : Bool) (next : Rows) → penalty c next ≡ penalty c kept → (now ≡ true → IsSettled c from next) → (settled ≡ true → now ≡ true) → Underway contents c from given start alone old mid (made + 1) sent now reported next
      underway_same now next same is_settled still = record {
        fade = p.fade;
        fadeless = p.fadeless;
        faded = p.faded;
        lines = p.lines;
        is_log = later_log begin made (made + 1) p.lines (omega arith) p.is_log;
        as_logged = same ∙ p.as_logged;
        as_reported = λ e. same ∙ p.as_reported e;
        is_settled = is_settled;
        surely = λ end. still (p.surely end);
        sends = p.sends;
      }

      module _ (next : Rows) (less : penalty c next < penalty c kept) (reached : IsReached c from given next) (is_settled : IsSettled c from next) where
        abbrev pub one : KickLine
        one = record { kick = made + 1; roster = next }

        abbrev lines_then : List KickLine
        lines_then = p.lines ++ one ∷ []

        more_log : IsKickLog c from given begin (made + 1) lines_then
        more_log =
            let within : (last_kick (no_kick begin) p.lines).kick ≤ made = p.is_log.within in
            record {
              reached = All-append IsLine p.lines (one ∷ []) p.is_log.reached (All-cons IsLine one [] (reached, is_settled) (All-nil IsLine));
              falls = falls_more c (no_kick begin) p.lines one p.is_log.falls (omega arith) (omega (arith, less, p.as_logged));
              within = omega (arith, ap (λ (y : KickLine). y.kick) (last_is (no_kick begin) p.lines one));
            }

        logged_then : penalty c next ≡ penalty c (last_kick (no_kick begin) lines_then).roster
        logged_then = sym (ap (λ (y : KickLine). penalty c y.roster) (last_is (no_kick begin) p.lines one))

        -- a kick that left it cheaper
        pub underway_cheaper : (new : Watched W) (after : ℕ) → Sends contents mid new sent after (kick_line c one) → Underway contents c from given start alone old new (made + 1) after true true next
        underway_cheaper new after q = record {
          fade = p.fade;
          fadeless = p.fadeless;
          faded = p.faded;
          lines = lines_then;
          is_log = more_log;
          as_logged = logged_then;
          as_reported = λ e. sym (ap (λ (y : KickLine). penalty c y.roster) (last_is (no_kick (begun p.fade given)) p.lines one));
          is_settled = λ e. is_settled;
          surely = λ end. refl;
          sends = subst (Sends contents old new 0 after) (text_more p.fade p.lines one) (Sends-append contents old mid new 0 sent after (kicks_text c start p.fade p.lines) (kick_line c one) p.sends q);
        }

        -- its line broke off
        pub cheaper_breaks : (kicks : ℕ) (new : Watched W) (fault : WriteFault) → made < kicks → BreaksIn contents mid new sent (kick_line c one) fault → PolishLogStops contents c from given start kicks alone next old new (LogFailed (sent_of fault))
        cheaper_breaks kicks new fault inside q =
            let front : sent ≡ saturated (0 + length (kicks_text c start p.fade p.lines)) = p.sends.counted in
            let count : saturated (sent + q.sent) ≡ saturated (length (kicks_text c start p.fade p.lines) + q.sent) = omega arith in
            record {
              settled = true;
              last = next;
              text = kicks_text c start p.fade lines_then ++ last_line c true next;
              run = record {
                fade = p.fade;
                fadeless = p.fadeless;
                faded = p.faded;
                lines = lines_then;
                is_log = later_log begin (made + 1) kicks lines_then (omega arith) more_log;
                reached = reached;
                no_dearer = no_dearer_than p.fade p.faded lines_then next more_log.falls logged_then;
                as_logged = logged_then;
                is_settled = λ e. is_settled;
                surely = λ end. refl;
                text_is = refl;
              };
              sent = length (kicks_text c start p.fade p.lines) + q.sent;
              stops = StopsAt-append contents old new (kicks_text c start p.fade lines_then) (last_line c true next) (length (kicks_text c start p.fade p.lines) + q.sent)
                  (subst (λ text. StopsAt contents old new text (length (kicks_text c start p.fade p.lines) + q.sent)) (text_more p.fade p.lines one) (StopsAt-after contents old mid new (kicks_text c start p.fade p.lines) (kick_line c one) q.sent p.sends.writes q.stops));
              counted = ap (λ f. LogFailed (sent_of f)) q.counted ∙ ap LogFailed count;
              held = sym (subst (λ those. held_at (length (kicks_text c start p.fade p.lines) + q.sent) those given ≡ next) (logged_more c given start p.fade p.lines one true next) (held_after c given start p.fade p.lines (kick_entry c one) (last_entry c true next ∷ []) q.sent q.stops.left));
              reached = reached;
            }

      -- ---- the end

      abbrev whole : List ℕ
      whole = kicks_text c start p.fade p.lines ++ last_line c settled kept

      abbrev ended : (kicks : ℕ) → made ≤ kicks → IsReached c from given kept → IsPolishing c from given start kicks alone settled kept whole
      ended kicks few reached = record {
        fade = p.fade;
        fadeless = p.fadeless;
        faded = p.faded;
        lines = p.lines;
        is_log = later_log begin made kicks p.lines few p.is_log;
        reached = reached;
        as_logged = p.as_logged;
        no_dearer = no_dearer_than p.fade p.faded p.lines kept p.is_log.falls p.as_logged;
        is_settled = p.is_settled;
        surely = p.surely;
        text_is = refl;
      }

      pub ends : (kicks : ℕ) (new : Watched W) (after : ℕ) (logged : Polished) → made ≤ kicks → IsReached c from given kept → logged.settled ≡ settled → logged.total ≡ penalty c kept → Sends contents mid new sent after (last_line c settled kept) → Polishes contents c from given start kicks alone kept old new logged
      ends kicks new after logged few reached settled_is total_is q = record {
        text = whole;
        run = subst (λ b. IsPolishing c from given start kicks alone b kept whole) (sym settled_is) (ended kicks few reached);
        writes = (Sends-append contents old mid new 0 sent after (kicks_text c start p.fade p.lines) (last_line c settled kept) p.sends q).writes;
        total = total_is;
      }

      pub end_breaks : (kicks : ℕ) (new : Watched W) (fault : WriteFault) → made ≤ kicks → IsReached c from given kept → BreaksIn contents mid new sent (last_line c settled kept) fault → PolishLogStops contents c from given start kicks alone kept old new (LogFailed (sent_of fault))
      end_breaks kicks new fault few reached q =
          let front : sent ≡ saturated (0 + length (kicks_text c start p.fade p.lines)) = p.sends.counted in
          let count : saturated (sent + q.sent) ≡ saturated (length (kicks_text c start p.fade p.lines) + q.sent) = omega arith in
          record {
            settled = settled;
            last = kept;
            text = whole;
            run = ended kicks few reached;
            sent = length (kicks_text c start p.fade p.lines) + q.sent;
            stops = StopsAt-after contents old mid new (kicks_text c start p.fade p.lines) (last_line c settled kept) q.sent p.sends.writes q.stops;
            counted = ap (λ f. LogFailed (sent_of f)) q.counted ∙ ap LogFailed count;
            held = sym (held_after c given start p.fade p.lines (last_entry c settled kept) [] q.sent q.stops.left);
            reached = reached;
          }
