-- A run that raises a lower bound: the lines so far are sent.
use Rattle.std.proofs.Common.{All, ◌≡◌, ◌∙◌, ◌+◌, ◌*◌, ◌<◌, ◌≤◌, ◌⊎◌, ℕ, Bool, true, false, List, [], ◌∷◌, ◌++◌, Option, ap, append_assoc, append-nil, arith, flat_map, if◌then◌else◌, inl, inr, refl, subst, sym}
use Rattle.std.proofs.lemmas.Bool.{cases_lt}
use Rattle.std.proofs.lemmas.List.Concat.{flat_map-append}
use Rattle.std.proofs.lemmas.List.Elements.{All-append, All-cons, All-head, All-nil, All-tail, All-weaker}
use Rattle.roster_text.specs.Io.{Sends, Watched}
use Rattle.roster_text.proofs.Texts.{Sends-append}
use Rattle.roster_instance.specs.Meaning.{Meaning}
use Rattle.roster_instance.specs.Rosters.{Rows, fits_case}
use Rattle.roster_rules.specs.HardRules.{keeps_hard}
use Rattle.roster_rules.specs.Penalties.{penalty}
use Rattle.roster_laws.proofs.Frozen.{stays_self}
use Rattle.roster_rules.specs.Weights.{staffing_weight}
use Rattle.roster_rules.specs.Improver.{line, start_word}
use Rattle.roster_bound.specs.declared.effort.Effort.{Effort}
use Rattle.roster_bound.specs.BoundLogs.{BoundLine, IsBoundLog, IsRoundBound, Rises, bound_line, bound_log_text, last_line, no_line, rounds_alone}
use Rattle.roster_bound.specs.Branching.{IsNodesBound}
use Rattle.roster_slots.specs.Slots.{AreDualPrices, SlotPrices, asks_for_nurses, most_dual_price}
use Rattle.roster_prices.specs.LowerBounds.{IsLowerBound, bound_by, first_bound, first_dual_prices}
use Rattle.roster_bound.proofs.Duality.{no_roster_below}

-- ---- one more line

pub last_is : (before : BoundLine) (xs : List BoundLine) (x : BoundLine) → last_line before (xs ++ x ∷ []) ≡ x
last_is before [] x = refl
last_is before (y ∷ xs) x = last_is y xs x

pub rises_more : (before : BoundLine) (xs : List BoundLine) (x : BoundLine) → Rises before xs → (last_line before xs).round < x.round → (last_line before xs).bound < x.bound → Rises before (xs ++ x ∷ [])
rises_more before [] x rises later more = (later, more, tt)
rises_more before (y ∷ xs) x rises later more = (rises.0, rises.1, rises_more y xs x rises.2 later more)

-- no line is of a later round than the last
pub last_later : (before : BoundLine) (xs : List BoundLine) → Rises before xs → before.round ≤ (last_line before xs).round
last_later before [] rises = omega arith
last_later before (x ∷ xs) rises = omega (arith, rises.0, last_later x xs rises.2)

none_later : (before : BoundLine) (xs : List BoundLine) → Rises before xs → All (λ x. x.round ≤ (last_line before xs).round) xs
none_later before [] rises = All-nil (λ x. x.round ≤ before.round)
none_later before (x ∷ xs) rises = All-cons (λ (y : BoundLine). y.round ≤ (last_line x xs).round) x xs (last_later x xs rises.2) (none_later x xs rises.2)

-- what holds of the line before some lines, and of each of them, holds of the last
pub last_holds : (P : BoundLine → Type 0) (before : BoundLine) (xs : List BoundLine) → P before → All P xs → P (last_line before xs)
last_holds P before [] first all = first
last_holds P before (x ∷ xs) first all = last_holds P x xs (All-head P x xs all) (All-tail P x xs all)

-- ---- the log of the rounds

-- each line is the bound of its round
pub record IsRoundsLog (c : Meaning) (from : ℕ) (given : Rows) (rounds : ℕ) (lines : List BoundLine) : Type 0 where
  pub bounds : All (λ x. IsLowerBound c from given x.bound) lines
  pub each : All (IsRoundBound c from given) lines
  pub rises : Rises no_line lines
  pub within : (last_line no_line lines).round ≤ rounds
  pub first : 0 < rounds → first_bound c from given ≤ (last_line no_line lines).bound

-- without a branching, or with some
pub bound_log : (c : Meaning) (from : ℕ) (given : Rows) (effort : Effort) (lines : List BoundLine) → IsRoundsLog c from given effort.rounds lines → IsBoundLog c from given effort lines
bound_log c from given effort lines p =
    let within : (last_line no_line lines).round ≤ effort.rounds = p.within in
    record {
      bounds = p.bounds;
      each = All-weaker (IsRoundBound c from given) (λ x. x.round ≤ effort.rounds → IsRoundBound c from given x) (λ x is early. is) lines p.each;
      later = All-weaker (λ x. x.round ≤ (last_line no_line lines).round) (λ x. effort.rounds < x.round → IsNodesBound c from given x.bound) (λ x few beyond. absurd (omega (arith, few, beyond, within))) lines (none_later no_line lines p.rises);
      rises = p.rises;
      within = omega arith;
      first = p.first;
    }

-- ---- the first line

pub first_text : (c : Meaning) (given : Rows) (total : ℕ) → total ≡ penalty c given → line (start_word c) total ≡ bound_log_text c given []
first_text c given total e = ap (line (start_word c)) e ∙ sym (append-nil (line (start_word c) (penalty c given)))

-- ---- the first round's dual prices

even_within : (scale : ℕ) (asks : Bool) → (if asks then scale * staffing_weight else 0) ≤ scale * most_dual_price
even_within scale true = omega arith
even_within scale false = omega arith

pub first_are_dual_prices : (c : Meaning) → AreDualPrices 1 (first_dual_prices c 1)
first_are_dual_prices c d s k = even_within 1 (asks_for_nurses c d s k)

-- ---- the bound of a round, after this many others

pub record IsBoundOfRound (c : Meaning) (from : ℕ) (given : Rows) (made bound : ℕ) : Type 0 where
  pub scale : ℕ
  pub some : 0 < scale
  pub dual_prices : SlotPrices
  pub are_dual_prices : AreDualPrices scale dual_prices
  pub bound_is : bound ≡ bound_by c from given scale dual_prices
  pub first : made ≡ 0 → bound ≡ first_bound c from given

module _ (c : Meaning) (from : ℕ) (given : Rows) where
  pub bounds_below : (made bound : ℕ) → IsBoundOfRound c from given made bound → IsLowerBound c from given bound
  bounds_below made bound t = subst (IsLowerBound c from given) (sym t.bound_is) (no_roster_below c from given t.scale t.dual_prices t.some t.are_dual_prices)

  -- the first round
  first_below : IsLowerBound c from given (first_bound c from given)
  first_below = no_roster_below c from given 1 (first_dual_prices c 1) (omega arith) (first_are_dual_prices c)

  pub first_bounds : IsBoundOfRound c from given 0 (first_bound c from given)
  first_bounds = record {
    scale = 1;
    some = omega arith;
    dual_prices = first_dual_prices c 1;
    are_dual_prices = first_are_dual_prices c;
    bound_is = refl;
    first = λ e. refl;
  }

  -- ---- the log of no round, of later ones, and of one more

  pub no_log : IsRoundsLog c from given 0 []
  no_log = record { bounds = All-nil (λ x. IsLowerBound c from given x.bound); each = All-nil (IsRoundBound c from given); rises = tt; within = omega arith; first = λ some. absurd (omega (arith, some)) }

  reached_log : (made next : ℕ) (lines : List BoundLine) → made ≤ next → (0 < next → first_bound c from given ≤ (last_line no_line lines).bound) → IsRoundsLog c from given made lines → IsRoundsLog c from given next lines
  reached_log made next lines h some p =
      let within : (last_line no_line lines).round ≤ made = p.within in
      record { bounds = p.bounds; each = p.each; rises = p.rises; within = omega arith; first = some }

  pub later_log : (made next : ℕ) (lines : List BoundLine) → made ≤ next → (0 < next → 0 < made) → IsRoundsLog c from given made lines → IsRoundsLog c from given next lines
  later_log made next lines h some p = reached_log made next lines h (λ any. p.first (some any)) p

  -- the first round's bound is a lower bound, too
  first_within : fits_case c given ≡ true → keeps_hard c given ≡ true → first_bound c from given ≤ penalty c given
  first_within fits keeps = first_below given fits keeps (stays_self c from given)

  -- a round that didn't raise the lower bound
  pub same_log : (made best bound : ℕ) (lines : List BoundLine) → IsRoundsLog c from given made lines → best ≡ (last_line no_line lines).bound → bound ≤ best → IsBoundOfRound c from given made bound → IsRoundsLog c from given (made + 1) lines
  same_log made best bound lines p best_is no_more t =
      let within : (last_line no_line lines).round ≤ made = p.within in
      record { bounds = p.bounds; each = p.each; rises = p.rises; within = omega arith; first = λ any. reached (cases_lt 0 made) }
    where
      reached : (0 < made) ⊎ (made ≤ 0) → first_bound c from given ≤ (last_line no_line lines).bound
      reached (inl some) = p.first some
      reached (inr none) = omega (arith, t.first (omega (arith, none)), no_more, best_is)

  -- one that raised it
  no_less : (made best bound : ℕ) → (0 < made → first_bound c from given ≤ best) → best < bound → IsBoundOfRound c from given made bound → first_bound c from given ≤ bound
  no_less made best bound reached more t = go (cases_lt 0 made)
    where
      go : (0 < made) ⊎ (made ≤ 0) → first_bound c from given ≤ bound
      go (inl some) = omega (arith, reached some, more)
      go (inr none) = omega (arith, t.first (omega (arith, none)))

  pub more_log : (made best bound : ℕ) (lines : List BoundLine) → IsRoundsLog c from given made lines → best ≡ (last_line no_line lines).bound → best < bound → IsBoundOfRound c from given made bound
      → IsRoundsLog c from given (made + 1) (lines ++ record { round = made + 1; bound = bound } ∷ [])
  more_log made best bound lines p best_is more t =
      let x : BoundLine = record { round = made + 1; bound = bound } in
      let within : (last_line no_line lines).round ≤ made = p.within in
      let below : IsLowerBound c from given bound = bounds_below made bound t in
      let above : first_bound c from given ≤ bound = no_less made best bound (λ some. omega (arith, p.first some, best_is)) more t in
      let line : IsRoundBound c from given x = record { scale = t.scale; some = t.some; dual_prices = t.dual_prices; are_dual_prices = t.are_dual_prices; bound_is = t.bound_is; first = λ one. t.first (omega (arith, one)); no_less = above } in
      record {
        bounds = All-append (λ y. IsLowerBound c from given y.bound) lines (x ∷ []) p.bounds (All-cons (λ y. IsLowerBound c from given y.bound) x [] below (All-nil (λ y. IsLowerBound c from given y.bound)));
        each = All-append (IsRoundBound c from given) lines (x ∷ []) p.each (All-cons (IsRoundBound c from given) x [] line (All-nil (IsRoundBound c from given)));
        rises = rises_more no_line lines x p.rises (omega arith) (omega arith);
        within = omega (arith, ap (λ (y : BoundLine). y.round) (last_is no_line lines x));
        first = λ any. omega (arith, above, ap (λ (y : BoundLine). y.bound) (last_is no_line lines x));
      }

-- ---- the rounds made so far

pub record Going {W : Type 0} (contents : W → Option (List ℕ)) (c : Meaning) (from : ℕ) (given : Rows) (old mid : Watched W) (made sent best : ℕ) : Type 0 where
  pub lines : List BoundLine
  pub is_log : IsRoundsLog c from given made lines
  pub sends : Sends contents old mid 0 sent (bound_log_text c given lines)
  pub best_is : best ≡ (last_line no_line lines).bound

-- the text with one more line
first_line : Meaning → Rows → List ℕ
first_line c given = line (start_word c) (penalty c given)

pub text_more : (c : Meaning) (given : Rows) (xs : List BoundLine) (x : BoundLine) → bound_log_text c given xs ++ bound_line x ≡ bound_log_text c given (xs ++ x ∷ [])
unfolding first_line
text_more c given xs x =
    append_assoc (first_line c given) (flat_map bound_line xs) (bound_line x)
    ∙ ap (λ text. first_line c given ++ text) (ap (λ text. flat_map bound_line xs ++ text) (sym (append-nil (bound_line x))) ∙ sym (flat_map-append bound_line xs (x ∷ [])))

module _ {W : Type 0} (contents : W → Option (List ℕ)) (c : Meaning) (from : ℕ) (given : Rows) (old : Watched W) where
  unfoldable pub Going-start : (new : Watched W) (sent : ℕ) → Sends contents old new 0 sent (bound_log_text c given []) → Going contents c from given old new 0 sent 0
  Going-start new sent p = record { lines = []; is_log = no_log c from given; sends = p; best_is = refl }

  -- a round that didn't raise the lower bound
  unfoldable pub Going-same : (mid : Watched W) (made sent best bound : ℕ) → Going contents c from given old mid made sent best → bound ≤ best → IsBoundOfRound c from given made bound → Going contents c from given old mid (made + 1) sent best
  Going-same mid made sent best bound p no_more t = record {
    lines = p.lines;
    is_log = same_log c from given made best bound p.lines p.is_log p.best_is no_more t;
    sends = p.sends;
    best_is = p.best_is;
  }

  unfoldable pub Going-raised : (mid new : Watched W) (made sent after best bound : ℕ) → Going contents c from given old mid made sent best → best < bound → IsBoundOfRound c from given made bound
      → Sends contents mid new sent after (bound_line (record { round = made + 1; bound = bound })) → Going contents c from given old new (made + 1) after bound
  Going-raised mid new made sent after best bound p more t q =
      let x : BoundLine = record { round = made + 1; bound = bound } in
      record {
        lines = p.lines ++ x ∷ [];
        is_log = more_log c from given made best bound p.lines p.is_log p.best_is more t;
        sends = subst (Sends contents old new 0 after) (text_more c given p.lines x) (Sends-append contents old mid new 0 sent after (bound_log_text c given p.lines) (bound_line x) p.sends q);
        best_is = sym (ap (λ (y : BoundLine). y.bound) (last_is no_line p.lines x));
      }

  -- ---- the log once no more rounds are made

  -- all were made
  pub log_at_end : (rounds : ℕ) (new : Watched W) (made sent best : ℕ) (p : Going contents c from given old new made sent best) → made ≤ rounds → rounds ≤ made → IsBoundLog c from given (rounds_alone rounds) p.lines
  log_at_end rounds new made sent best p few all = bound_log c from given (rounds_alone rounds) p.lines (later_log c from given made rounds p.lines few (λ some. omega (arith, some, all)) p.is_log)

  -- not all were made
  pub log_of_some : (rounds : ℕ) (new : Watched W) (made sent best : ℕ) (p : Going contents c from given old new made sent best) → made ≤ rounds → 0 < made → IsBoundLog c from given (rounds_alone rounds) p.lines
  log_of_some rounds new made sent best p few some = bound_log c from given (rounds_alone rounds) p.lines (later_log c from given made rounds p.lines few (λ any. some) p.is_log)

  -- the lower bound is what the given roster costs: then it is no less than any bound
  pub log_of_met : (rounds : ℕ) (new : Watched W) (made sent best : ℕ) (p : Going contents c from given old new made sent best) → made ≤ rounds → penalty c given ≤ best → fits_case c given ≡ true → keeps_hard c given ≡ true
      → IsBoundLog c from given (rounds_alone rounds) p.lines
  log_of_met rounds new made sent best p few met fits keeps =
      bound_log c from given (rounds_alone rounds) p.lines (reached_log c from given made rounds p.lines few (λ some. omega (arith, met, p.best_is, first_within c from given fits keeps)) p.is_log)

  -- the line of a round broke off
  pub log_with_line : (rounds : ℕ) (mid : Watched W) (made sent best bound : ℕ) (p : Going contents c from given old mid made sent best) → made < rounds → best < bound → IsBoundOfRound c from given made bound
      → IsBoundLog c from given (rounds_alone rounds) (p.lines ++ record { round = made + 1; bound = bound } ∷ [])
  log_with_line rounds mid made sent best bound p inside more t =
      let lines : List BoundLine = p.lines ++ record { round = made + 1; bound = bound } ∷ [] in
      bound_log c from given (rounds_alone rounds) lines (later_log c from given (made + 1) rounds lines (omega arith) (λ any. omega arith) (more_log c from given made best bound p.lines p.is_log p.best_is more t))
