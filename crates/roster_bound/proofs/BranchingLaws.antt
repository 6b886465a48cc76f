-- A run that raises a lower bound by branchings: the lines so far are sent.
use Rattle.std.specs.Prelude.{vec_capacity}
use Rattle.std.proofs.Common.{◌≡◌, ◌∙◌, ◌+◌, ◌<◌, ◌≤◌, ◌⊎◌, ℕ, List, [], ◌∷◌, ◌++◌, Option, ap, arith, inl, inr, length, refl, subst, sym}
use Rattle.std.specs.List.{All}
use Rattle.std.proofs.lemmas.List.Elements.{All-append, All-cons, All-contains, All-head, All-nil, All-weaker}
use Rattle.roster_text.specs.declared.fault.WriteFault.{WriteFault}
use Rattle.roster_text.specs.Io.{BreaksIn, Sends, StopsAt, Watched, saturated, sent_of}
use Rattle.roster_text.proofs.Texts.{Sends-append, StopsAt-after}
use Rattle.roster_instance.specs.Meaning.{Meaning}
use Rattle.roster_instance.specs.Rosters.{Rows}
use Rattle.roster_reports.specs.declared.log_fault.LogFault.{LogFault}
use Rattle.roster_reports.specs.declared.log_fault.LogFault.TheVariants.{LogFailed}
use Rattle.roster_bound.specs.declared.effort.Effort.{Effort}
use Rattle.roster_bound.specs.declared.effort.Raised.{Raised}
use Rattle.roster_bound.specs.declared.effort.Reached.{Reached}
use Rattle.roster_bound.specs.BoundLogs.{BoundLine, IsBoundLog, IsRoundBound, bound_line, bound_log_text, last_line, no_line}
use Rattle.roster_bound.specs.declared.nodes.Node.{Node}
use Rattle.roster_bound.specs.declared.nodes.Nodes.{Nodes}
use Rattle.roster_bound.specs.declared.tree.BoundSpace.{BoundSpace}
use Rattle.roster_bound.specs.BoundRuns.{BoundLogStops, HasReached, RaisesBound}
use Rattle.roster_bound.specs.Branching.{IsBoundByPrices, IsFirstLeastAt, IsLeastOf, IsNodesBound, IsRoot}
use Rattle.roster_bound.specs.Branchings.{AreNoMore, EndsBranching, HasSearched, HasSearchedFor, ReachesLeast}
use Rattle.roster_bound.specs.PooledUses.{IsStuck}
use Rattle.roster_slots.specs.declared.pool.ColumnPool.{ColumnPool}
use Rattle.roster_timer.specs.Deadlines.{IsLater, Time, time_of}
use Rattle.roster_timer.specs.declared.deadline.Deadline.{Deadline}
use Rattle.roster_prices.specs.LowerBounds.{IsLowerBound}
use Rattle.roster_bound.proofs.BoundLogLaws.{last_holds, last_is, rises_more, text_more}
use Rattle.roster_bound.proofs.NodeBounds.{bound_of_root}
use Rattle.roster_bound.proofs.NodeLaws.{bound_of_all}
use Rattle.roster_bound.proofs.RoundLaws.{branched_lines, counts-branched, counts-later}
use Rattle.roster_bound.proofs.Times.{searched-more}

-- ---- the root

-- the bound that the rounds reached is that of a round, or 0 if there was none
pub reached_by_prices : {W : Type 0} (contents : W → Option (List ℕ)) (c : Meaning) (from : ℕ) (given : Rows) (rounds counted counted_after : ℕ) (old mid : Watched W) (reached : Reached)
    → HasReached contents c from given (record { rounds = rounds; nodes = 0 }) counted counted_after old mid reached → (reached.bound ≡ 0) ⊎ IsBoundByPrices c from given [] reached.bound
reached_by_prices contents c from given rounds counted counted_after old mid reached p =
    let Of : ℕ → Type 0 = λ b. (b ≡ 0) ⊎ IsBoundByPrices c from given [] b in
    let within : (last_line no_line p.lines).round ≤ rounds + 0 = p.is_log.within in
    subst Of (sym p.bound_is)
    (last_holds (λ x. x.round ≤ rounds → Of x.bound) no_line p.lines (λ early. inl refl)
    (All-weaker (λ x. x.round ≤ rounds → IsRoundBound c from given x) (λ x. x.round ≤ rounds → Of x.bound) (λ x is early. inr (of_round x (is early))) p.lines p.is_log.each) (omega (arith, within)))
  where
    of_round : (x : BoundLine) → IsRoundBound c from given x → IsBoundByPrices c from given [] x.bound
    of_round x is = record { scale = is.scale; some = is.some; dual_prices = is.dual_prices; are_dual_prices = is.are_dual_prices; bound_is = is.bound_is ∙ sym (bound_of_root c from given is.scale is.dual_prices) }

-- ---- the branchings made so far

module _ {W : Type 0} (contents : W → Option (List ℕ)) (c : Meaning) (from : ℕ) (given : Rows) (counted counted_after : ℕ) (old : Watched W) where
  -- it stays one if more branchings may be made
  later_nodes : (effort : Effort) (more : ℕ) (lines : List BoundLine) → effort.nodes ≤ more → IsBoundLog c from given effort lines → IsBoundLog c from given (record effort { nodes = more }) lines
  later_nodes effort more lines few p =
      let within : (last_line no_line lines).round ≤ effort.rounds + effort.nodes = p.within in
      record { bounds = p.bounds; each = p.each; later = p.later; rises = p.rises; within = omega arith; first = p.first }

  pub reached-later : (effort : Effort) (more counted_then : ℕ) (mid : Watched W) (reached : Reached) → effort.nodes ≤ more → counted_then ≤ counted_after → HasReached contents c from given effort counted counted_then old mid reached
      → HasReached contents c from given (record effort { nodes = more }) counted counted_after old mid reached
  reached-later effort more counted_then mid reached few grows p = record {
    lines = p.lines;
    is_log = later_nodes effort more p.lines few p.is_log;
    rounds = counts-later c from given effort.rounds counted counted_then counted_after grows p.lines p.rounds;
    sends = p.sends;
    bound_is = p.bound_is;
  }

  pub stops-later : (effort : Effort) (more : ℕ) (mid : Watched W) (fault : LogFault) → effort.nodes ≤ more → BoundLogStops contents c from given effort old mid fault → BoundLogStops contents c from given (record effort { nodes = more }) old mid fault
  stops-later effort more mid fault few p = record { lines = p.lines; is_log = later_nodes effort more p.lines few p.is_log; rounds = p.rounds; sent = p.sent; stops = p.stops; counted = p.counted }

  pub reached-end : (effort : Effort) (mid : Watched W) (reached : Reached) → HasReached contents c from given effort counted counted_after old mid reached → RaisesBound contents c from given effort counted counted_after old mid reached.bound
  reached-end effort mid reached p = record { lines = p.lines; is_log = p.is_log; rounds = p.rounds; writes = p.sends.writes; bound_is = p.bound_is }

  -- a branching that raised the lower bound
  branched_log : (rounds branched best bound : ℕ) (lines : List BoundLine) → IsBoundLog c from given (record { rounds = rounds; nodes = branched }) lines → best ≡ (last_line no_line lines).bound → best < bound → IsNodesBound c from given bound
      → IsBoundLog c from given (record { rounds = rounds; nodes = branched + 1 }) (lines ++ record { round = rounds + branched + 1; bound = bound } ∷ [])
  branched_log rounds branched best bound lines p best_is more least =
      let x : BoundLine = record { round = rounds + branched + 1; bound = bound } in
      let within : (last_line no_line lines).round ≤ rounds + branched = p.within in
      let below : IsLowerBound c from given bound = bound_of_all c from given least.nodes bound least.are least.least.all in
      let Late : BoundLine → Type 0 = λ y. rounds < y.round → IsNodesBound c from given y.bound in
      let Early : BoundLine → Type 0 = λ y. y.round ≤ rounds → IsRoundBound c from given y in
      record {
        bounds = All-append (λ y. IsLowerBound c from given y.bound) lines (x ∷ []) p.bounds (All-cons (λ y. IsLowerBound c from given y.bound) x [] below (All-nil (λ y. IsLowerBound c from given y.bound)));
        each = All-append Early lines (x ∷ []) p.each (All-cons Early x [] (λ early. absurd (omega (arith, early))) (All-nil Early));
        later = All-append Late lines (x ∷ []) p.later (All-cons Late x [] (λ beyond. least) (All-nil Late));
        rises = rises_more no_line lines x p.rises (omega arith) (omega arith);
        within = omega (arith, ap (λ (y : BoundLine). y.round) (last_is no_line lines x));
        first = λ any. omega (arith, p.first any, ap (λ (y : BoundLine). y.bound) (last_is no_line lines x));
      }

  pub reached-raised : (rounds branched after bound counted_then : ℕ) (mid new : Watched W) (reached : Reached) → counted_then ≤ counted_after → HasReached contents c from given (record { rounds = rounds; nodes = branched }) counted counted_then old mid reached
      → reached.bound < bound → IsNodesBound c from given bound
      → Sends contents mid new reached.sent after (bound_line (record { round = rounds + branched + 1; bound = bound }))
      → HasReached contents c from given (record { rounds = rounds; nodes = branched + 1 }) counted counted_after old new (record { bound = bound; sent = after })
  reached-raised rounds branched after bound counted_then mid new reached grows p more least q =
      let x : BoundLine = record { round = rounds + branched + 1; bound = bound } in
      record {
        lines = p.lines ++ x ∷ [];
        is_log = branched_log rounds branched reached.bound bound p.lines p.is_log p.bound_is more least;
        rounds = counts-branched c from given rounds counted counted_then counted_after grows p.lines x (omega arith) (omega (arith, more, p.bound_is)) p.rounds;
        sends = subst (Sends contents old new 0 after) (text_more c given p.lines x) (Sends-append contents old mid new 0 reached.sent after (bound_log_text c given p.lines) (bound_line x) p.sends q);
        bound_is = sym (ap (λ (y : BoundLine). y.bound) (last_is no_line p.lines x));
      }

  -- its line broke off
  pub branched_breaks : (rounds branched bound counted_then : ℕ) (mid new : Watched W) (reached : Reached) (fault : WriteFault) → HasReached contents c from given (record { rounds = rounds; nodes = branched }) counted counted_then old mid reached → reached.bound < bound
      → IsNodesBound c from given bound
      → BreaksIn contents mid new reached.sent (bound_line (record { round = rounds + branched + 1; bound = bound })) fault
      → BoundLogStops contents c from given (record { rounds = rounds; nodes = branched + 1 }) old new (LogFailed (sent_of fault))
  branched_breaks rounds branched bound counted_then mid new reached fault p more least q =
      let x : BoundLine = record { round = rounds + branched + 1; bound = bound } in
      let front : reached.sent ≡ saturated (0 + length (bound_log_text c given p.lines)) = p.sends.counted in
      let count : saturated (reached.sent + q.sent) ≡ saturated (length (bound_log_text c given p.lines) + q.sent) = omega arith in
      record {
        lines = p.lines ++ x ∷ [];
        is_log = branched_log rounds branched reached.bound bound p.lines p.is_log p.bound_is more least;
        rounds = branched_lines c from given rounds p.lines x (omega arith) (omega (arith, more, p.bound_is)) p.rounds.are;
        sent = length (bound_log_text c given p.lines) + q.sent;
        stops = subst (λ text. StopsAt contents old new text (length (bound_log_text c given p.lines) + q.sent)) (text_more c given p.lines x) (StopsAt-after contents old mid new (bound_log_text c given p.lines) (bound_line x) q.sent p.sends.writes q.stops);
        counted = ap (λ f. LogFailed (sent_of f)) q.counted ∙ ap LogFailed count;
      }

-- ---- the rounds, and then some branchings, each of which counted a round, unless the time is up

pub record AreBranched {W : Type 0} (contents : W → Option (List ℕ)) (c : Meaning) (from : ℕ) (given : Rows) (rounds branched counted meter : ℕ) (old mid : Watched W) (time : Time) (reached : Reached) : Type 0 where
  pub by_rounds : ℕ
  pub has : HasReached contents c from given (record { rounds = rounds; nodes = branched }) counted by_rounds old mid reached
  pub grows : by_rounds ≤ meter
  pub searched : HasSearchedFor c time branched by_rounds meter

module _ {W : Type 0} (contents : W → Option (List ℕ)) (c : Meaning) (from : ℕ) (given : Rows) (rounds branched counted meter : ℕ) (old mid : Watched W) (time : Time) (reached : Reached) where
  -- there is none yet
  pub branched-none : HasReached contents c from given (record { rounds = rounds; nodes = 0 }) counted meter old mid reached → AreBranched contents c from given rounds 0 counted meter old mid time reached
  branched-none has = record { by_rounds = meter; has = has; grows = omega arith; searched = inr (omega arith) }

  module _ (p : AreBranched contents c from given rounds branched counted meter old mid time reached) where
    -- one more
    module _ (after : ℕ) (now : Time) (later : IsLater time now) (more : meter ≤ after) (searched : HasSearched c now meter after) where
      pub branched-later : AreBranched contents c from given rounds (branched + 1) counted after old mid now reached
      branched-later = record {
        by_rounds = p.by_rounds;
        has = reached-later contents c from given counted p.by_rounds old (record { rounds = rounds; nodes = branched }) (branched + 1) p.by_rounds mid reached (omega arith) (omega arith) p.has;
        grows = omega (arith, p.grows, more);
        searched = searched-more c branched p.by_rounds meter after time now later p.searched searched;
      }

      pub branched-raised : (sent bound : ℕ) (new : Watched W) → reached.bound < bound → IsNodesBound c from given bound → Sends contents mid new reached.sent sent (bound_line (record { round = rounds + branched + 1; bound = bound }))
          → AreBranched contents c from given rounds (branched + 1) counted after old new now (record { bound = bound; sent = sent })
      branched-raised sent bound new above least sends = record {
        by_rounds = p.by_rounds;
        has = reached-raised contents c from given counted p.by_rounds old rounds branched sent bound p.by_rounds mid new reached (omega arith) p.has above least sends;
        grows = omega (arith, p.grows, more);
        searched = searched-more c branched p.by_rounds meter after time now later p.searched searched;
      }

    -- there are no more
    pub branched-end : {K T : Type 0} (branchings after : ℕ) (deadline : Deadline K) (space : BoundSpace T) → branched ≤ branchings → meter ≤ after → AreNoMore c given branchings (time_of deadline) space.nodes space.bounds.pool reached.bound p.by_rounds after
        → (branchings < vec_capacity space.nodes.items → ReachesLeast space.nodes.items.items reached.bound)
        → EndsBranching contents c from given deadline space counted after old mid (record { bound = reached.bound; effort = record { rounds = rounds; nodes = branchings } })
    branched-end branchings after deadline space few more no_more least = record {
      counted_by_rounds = p.by_rounds;
      raises = reached-end contents c from given counted p.by_rounds old (record { rounds = rounds; nodes = branchings }) mid reached
          (reached-later contents c from given counted p.by_rounds old (record { rounds = rounds; nodes = branched }) branchings p.by_rounds mid reached few (omega arith) p.has);
      grows = omega (arith, p.grows, more);
      no_more = no_more;
      least = λ some. least;
    }

-- an answer by its parts
pub raised_is : (raised : Raised) (bound : ℕ) (effort : Effort) → raised.bound ≡ bound → raised.effort ≡ effort → record { bound = bound; effort = effort } ≡ raised
raised_is raised bound effort bound_is effort_is = sym (λ i. record { bound = bound_is i; effort = effort_is i })

-- the same run, by what was counted in the end
pub raises-end : {W K T : Type 0} (contents : W → Option (List ℕ)) (c : Meaning) (from : ℕ) (given : Rows) (deadline : Deadline K) (space : BoundSpace T) (counted counted_after : ℕ) (old new : Watched W) (raised : Raised)
    → EndsBranching contents c from given deadline space counted counted_after old new raised → RaisesBound contents c from given raised.effort counted counted_after old new raised.bound
raises-end contents c from given deadline space counted counted_after old new raised p =
    let r = p.raises in
    record { lines = r.lines; is_log = r.is_log; rounds = counts-later c from given raised.effort.rounds counted p.counted_by_rounds counted_after p.grows r.lines r.rounds; writes = r.writes; bound_is = r.bound_is }

-- ---- the least of the nodes' bounds

-- there is one alone
pub least_within : (nodes : List Node) (bound most : ℕ) → IsLeastOf bound nodes → bound ≤ most → ReachesLeast nodes most
least_within nodes bound most p few other q = omega (arith, few, p.bound_is, All-contains (λ (x : Node). other ≤ x.bound) nodes p.one q.all p.here)

pub least_of_root : (nodes : List Node) (bound : ℕ) → IsRoot bound nodes → ReachesLeast nodes bound
least_of_root nodes bound p other q = omega (arith, p.bound_is, All-head (λ (x : Node). other ≤ x.bound) p.node [] (subst (All (λ (x : Node). other ≤ x.bound)) p.only q.all))

-- ---- a node that can't be branched

pub stuck_now : (c : Meaning) (old now : Nodes) (pool : ColumnPool) → IsStuck c old now pool → IsStuck c now now pool
stuck_now c old now pool p = record { same = refl; at = p.at; least = subst (λ nodes. IsFirstLeastAt nodes p.at) (sym p.same) p.least; undecided = p.undecided }
