-- One round: the steps of the first nurses are made, and their lines are sent.
use Rattle.std.proofs.Common.{◌≡◌, ℕ, ◌+◌, ◌<◌, ◌≤◌, Bool, true, false, not, List, [], ◌∷◌, ◌++◌, Option, codes, decimal, length, sym, ap, ◌∙◌, arith, refl, subst, length-append}
use Rattle.std.specs.List.{fold, range_with_len}
use Rattle.std.proofs.lemmas.Bool.{not-true, not-false}
use Rattle.roster_text.specs.declared.fault.WriteFault.{WriteFault}
use Rattle.roster_text.specs.Io.{Watched, Sends, BreaksIn}
use Rattle.roster_rules.specs.Improver.{BestRows, round_log, entry, started, changed, round_done, settled, stopped, step, round, changes, line, line_of, same_rows, start_word}
use Rattle.roster_instance.specs.Limits.{most_nurses}
use Rattle.roster_instance.specs.Meaning.{Meaning, nurse_count, nurse_name}
use Rattle.roster_rules.specs.Penalties.{penalty}
use Rattle.roster_instance.specs.Rosters.{Rows}
use Rattle.roster_rounds.specs.RunLogs.{BreaksAmong, RoundMade, text_of}
use Rattle.roster_rounds.proofs.Sent.{BreaksAmong-after, BreaksAmong-front, BreaksAmong-one, Sends-entries, Sends-one}
use Rattle.roster_rounds.proofs.RoundSteps.{fold_more, changes_more_changed, changes_more_same, round_log-front}

-- ---- the lines

pub change_line : (c : Meaning) (k n : ℕ) (next : Rows) (name : List ℕ) (total : ℕ) → name ≡ nurse_name c n → total ≡ penalty c next
    → line (decimal k ++ codes " " ++ name) total ≡ line_of c (entry (changed k n) next)
change_line c k n next name total e f = rw (e, f) refl

pub round_line : (c : Meaning) (k : ℕ) (r : Rows) (total : ℕ) → total ≡ penalty c r → line (codes "round " ++ decimal k) total ≡ line_of c (entry (round_done k) r)
round_line c k r total e = rw e refl

-- a step that reports no change left the roster as it was
pub unchanged : (b same : Bool) → b ≡ not same → not b ≡ true → same ≡ true
unchanged b same e h = not-false same (sym e ∙ not-true b h)

pub is_changed : (b same : Bool) → b ≡ not same → not b ≡ false → same ≡ false
is_changed b same e h = not-true same (sym e ∙ not-false b h)

-- ---- the first n nurses of round k, which began with the roster r

pub record SoFar {W : Type 0} (contents : W → Option (List ℕ)) (c : Meaning) (best : BestRows) (k : ℕ) (r now : Rows) (old mid : Watched W) (before sent count n : ℕ) : Type 0 where
  pub roster_is : now ≡ fold (step c best) r (range_with_len 0 n)
  pub sends : Sends contents old mid before sent (text_of c (changes c best k (range_with_len 0 n) r))
  pub counted : count ≡ length (changes c best k (range_with_len 0 n) r)
  pub few : count ≤ n

module _ {W : Type 0} (contents : W → Option (List ℕ)) (c : Meaning) (best : BestRows) (k : ℕ) (r : Rows) (old : Watched W) (before : ℕ) where
  next_roster : (now next : Rows) (n : ℕ) → now ≡ fold (step c best) r (range_with_len 0 n) → next ≡ step c best now n → next ≡ fold (step c best) r (range_with_len 0 (n + 1))
  next_roster now next n now_is next_is = next_is ∙ ap (λ s. step c best s n) now_is ∙ sym (fold_more c best r n)

  pub SoFar-same : (now next : Rows) (mid : Watched W) (sent count n : ℕ) → SoFar contents c best k r now old mid before sent count n → next ≡ step c best now n → same_rows next now ≡ true
      → SoFar contents c best k r next old mid before sent count (n + 1)
  SoFar-same now next mid sent count n p next_is same =
      let e = changes_more_same c best k r now next n p.roster_is next_is same in
      let few : count ≤ n = p.few in
      record {
        roster_is = next_roster now next n p.roster_is next_is;
        sends = rw e p.sends;
        counted = rw e p.counted;
        few = omega arith;
      }

  pub SoFar-changed : (now next : Rows) (mid new : Watched W) (sent after count n : ℕ) → SoFar contents c best k r now old mid before sent count n → next ≡ step c best now n → same_rows next now ≡ false
      → Sends contents mid new sent after (line_of c (entry (changed k n) next)) → SoFar contents c best k r next old new before after (count + 1) (n + 1)
  SoFar-changed now next mid new sent after count n p next_is differs q =
      let e = changes_more_changed c best k r now next n p.roster_is next_is differs in
      let few : count ≤ n = p.few in
      let counted : count ≡ length (changes c best k (range_with_len 0 n) r) = p.counted in
      record {
        roster_is = next_roster now next n p.roster_is next_is;
        sends = rw e (Sends-entries contents c old mid new before sent after _ _ p.sends (Sends-one contents c mid new sent after (entry (changed k n) next) q));
        counted = rw (e, length-append) (omega arith);
        few = omega arith;
      }

  pub SoFar-breaks : (now next : Rows) (mid new : Watched W) (sent count n : ℕ) (fault : WriteFault) → SoFar contents c best k r now old mid before sent count n → n < nurse_count c
      → next ≡ step c best now n → same_rows next now ≡ false → BreaksIn contents mid new sent (line_of c (entry (changed k n) next)) fault
      → BreaksAmong contents c (round_log c best k r) next old new before fault
  SoFar-breaks now next mid new sent count n fault p within next_is differs q =
      let e = changes_more_changed c best k r now next n p.roster_is next_is differs in
      let front = round_log-front c best k r (n + 1) (omega arith) in
      rw (front.1, e) (BreaksAmong-front contents c (changes c best k (range_with_len 0 n) r ++ entry (changed k n) next ∷ []) front.0 next old new before fault
      (BreaksAmong-after contents c (changes c best k (range_with_len 0 n) r) (entry (changed k n) next ∷ []) next old mid new before sent fault p.sends
      (BreaksAmong-one contents c (entry (changed k n) next) next mid new sent fault refl q)))

  whole_round : (now : Rows) (n : ℕ) → now ≡ fold (step c best) r (range_with_len 0 n) → n ≡ nurse_count c → now ≡ round c best r
  unfolding round
  whole_round now n now_is all = now_is ∙ ap (λ m. fold (step c best) r (range_with_len 0 m)) all

  pub SoFar-done : (now : Rows) (mid new : Watched W) (sent after count n : ℕ) → SoFar contents c best k r now old mid before sent count n → n ≡ nurse_count c → n ≤ most_nurses
      → Sends contents mid new sent after (line_of c (entry (round_done k) now)) → RoundMade contents c best k r now old new before after count
  SoFar-done now mid new sent after count n p all within q =
      let last = whole_round now n p.roster_is all in
      let few : count ≤ n = p.few in
      record {
        roster_is = last;
        sends = Sends-entries contents c old mid new before sent after _ _ (subst (λ m. Sends contents old mid before sent (text_of c (changes c best k (range_with_len 0 m) r))) all p.sends)
            (Sends-one contents c mid new sent after (entry (round_done k) (round c best r)) (subst (λ s. Sends contents mid new sent after (line_of c (entry (round_done k) s))) last q));
        counted = subst (λ m. count ≡ length (changes c best k (range_with_len 0 m) r)) all p.counted;
        few = omega arith;
      }

  pub SoFar-done_breaks : (now : Rows) (mid new : Watched W) (sent count n : ℕ) (fault : WriteFault) → SoFar contents c best k r now old mid before sent count n → n ≡ nurse_count c
      → BreaksIn contents mid new sent (line_of c (entry (round_done k) now)) fault → BreaksAmong contents c (round_log c best k r) now old new before fault
  SoFar-done_breaks now mid new sent count n fault p all q =
      let last = whole_round now n p.roster_is all in
      BreaksAmong-after contents c (changes c best k (range_with_len 0 (nurse_count c)) r) (entry (round_done k) (round c best r) ∷ []) now old mid new before sent fault
      (subst (λ m. Sends contents old mid before sent (text_of c (changes c best k (range_with_len 0 m) r))) all p.sends)
      (BreaksAmong-one contents c (entry (round_done k) (round c best r)) now mid new sent fault last (subst (λ s. BreaksIn contents mid new sent (line_of c (entry (round_done k) s)) fault) last q))

-- ---- lines of one word

pub start_line : (c m : Meaning) (r : Rows) (total : ℕ) → m ≡ c → total ≡ penalty c r → line (start_word m) total ≡ line_of c (entry started r)
start_line c m r total same e = ap (λ (x : Meaning). line (start_word x) total) same ∙ ap (line (start_word c)) e

pub settled_line : (c : Meaning) (r : Rows) (total : ℕ) → total ≡ penalty c r → line (codes "settled") total ≡ line_of c (entry settled r)
settled_line c r total e = rw e refl

pub stopped_line : (c : Meaning) (r : Rows) (total : ℕ) → total ≡ penalty c r → line (codes "stopped") total ≡ line_of c (entry stopped r)
stopped_line c r total e = rw e refl
