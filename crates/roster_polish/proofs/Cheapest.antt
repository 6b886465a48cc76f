-- No roster at which a run's log has a line is cheaper than the last one.
use Rattle.std.proofs.Common.{◌≡◌, ◌≤◌, ℕ, Bool, List, [], ◌∷◌, ◌++◌, None, Option, Some, arith, map}
use Rattle.std.specs.Prelude.{All}
use Rattle.std.proofs.lemmas.List.Elements.{All-append, All-cons, All-nil}
use Rattle.roster_instance.specs.Meaning.{Meaning}
use Rattle.roster_instance.specs.Rosters.{Rows}
use Rattle.roster_rules.specs.Penalties.{penalty}
use Rattle.roster_polish.specs.Polished.{EndsCheapest, Falls, IsPolishing, KickLine, LogEntry, begun, fade_entry, fade_line, first_run, kick_entry, last_entry, last_kick, no_kick, start_entry}
use Rattle.roster_polish.proofs.KickLogs.{last_is_least}

module _ (c : Meaning) (last : Rows) where
  abbrev IsAtLeast : LogEntry → Type 0
  IsAtLeast entry = penalty c last ≤ penalty c entry.roster

  -- the last of some lines is the cheapest
  kicks_above : (before : KickLine) (lines : List KickLine) → Falls c before lines → penalty c last ≡ penalty c (last_kick before lines).roster → All IsAtLeast (map (kick_entry c) lines)
  kicks_above before [] falls same = All-nil IsAtLeast
  kicks_above before (x ∷ xs) falls same =
      let less : penalty c last ≤ penalty c x.roster = omega (arith, same, last_is_least c x xs falls.2) in
      All-cons IsAtLeast (kick_entry c x) (map (kick_entry c) xs) less (kicks_above x xs falls.2 same)

  fade_above : (fade : Option Rows) (first : Rows) → penalty c last ≤ penalty c (begun fade first) → All IsAtLeast (fade_entry c fade)
  fade_above None first less = All-nil IsAtLeast
  fade_above (Some r) first less = All-cons IsAtLeast (record { text = fade_line c r; roster = r }) [] less (All-nil IsAtLeast)

pub end_above : (c : Meaning) (from start kicks : ℕ) (given last : Rows) (alone settled : Bool) (text : List ℕ) (run : IsPolishing c from given start kicks alone settled last text) → EndsCheapest run
end_above c from start kicks given last alone settled text run =
    let first = (first_run c from given).roster in
    let begin = no_kick (begun run.fade first) in
    let least = last_is_least c begin run.lines run.is_log.falls in
    let less : penalty c last ≤ penalty c (begun run.fade first) = omega (arith, run.as_logged, least) in
    let own : penalty c last ≤ penalty c last = omega arith in
    All-cons (IsAtLeast c last) (start_entry c start given) (fade_entry c run.fade ++ (map (kick_entry c) run.lines ++ last_entry c settled last ∷ [])) run.no_dearer
    (All-append (IsAtLeast c last) (fade_entry c run.fade) (map (kick_entry c) run.lines ++ last_entry c settled last ∷ []) (fade_above c last run.fade first less)
    (All-append (IsAtLeast c last) (map (kick_entry c) run.lines) (last_entry c settled last ∷ []) (kicks_above c last begin run.lines run.is_log.falls run.as_logged)
    (All-cons (IsAtLeast c last) (last_entry c settled last) [] own (All-nil (IsAtLeast c last)))))
