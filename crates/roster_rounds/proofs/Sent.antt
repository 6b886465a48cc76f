-- Entries whose lines are sent one after the other.
use Rattle.std.proofs.Common.{◌≡◌, ℕ, ◌+◌, ◌-◌, ◌^◌, ◌<◌, ◌≤◌, min, List, [], ◌∷◌, ◌++◌, Option, length, sym, ap, ◌∙◌, arith, refl, length-append, append-nil, append_assoc}
use Rattle.std.proofs.lemmas.List.Concat.{flat_map-append}
use Rattle.roster_text.specs.declared.fault.WriteFault.{WriteFault}
use Rattle.roster_text.specs.declared.fault.WriteFault.TheVariants.{WriteFailed}
use Rattle.roster_text.specs.Io.{Watched, Sends, BreaksIn}
use Rattle.roster_text.proofs.Texts.{Sends-append, StopsAt-append, StopsAt-after}
use Rattle.roster_rules.specs.Improver.{Entry, line_of}
use Rattle.roster_instance.specs.Meaning.{Meaning}
use Rattle.roster_instance.specs.Rosters.{Rows}
use Rattle.roster_rounds.specs.RunLogs.{BreaksAmong, text_of}

pub text_of-append : (c : Meaning) (xs ys : List Entry) → text_of c (xs ++ ys) ≡ text_of c xs ++ text_of c ys
text_of-append c xs ys = flat_map-append (line_of c) xs ys

pub text_of-one : (c : Meaning) (e : Entry) → text_of c (e ∷ []) ≡ line_of c e
text_of-one c e = append-nil (line_of c e)

module _ {W : Type 0} (contents : W → Option (List ℕ)) (c : Meaning) where
  -- the entries xs were sent, and then ys
  pub Sends-entries : (old mid new : Watched W) (before between after : ℕ) (xs ys : List Entry)
      → Sends contents old mid before between (text_of c xs) → Sends contents mid new between after (text_of c ys) → Sends contents old new before after (text_of c (xs ++ ys))
  Sends-entries old mid new before between after xs ys p q = rw (text_of-append c xs ys) (Sends-append contents old mid new before between after (text_of c xs) (text_of c ys) p q)

  pub Sends-one : (old new : Watched W) (before after : ℕ) (e : Entry) → Sends contents old new before after (line_of c e) → Sends contents old new before after (text_of c (e ∷ []))
  Sends-one old new before after e p = rw (text_of-one c e) p

  -- stopped in the line of the only entry
  pub BreaksAmong-one : (e : Entry) (roster : Rows) (old new : Watched W) (before : ℕ) (fault : WriteFault) → roster ≡ e.roster → BreaksIn contents old new before (line_of c e) fault
      → BreaksAmong contents c (e ∷ []) roster old new before fault
  BreaksAmong-one e roster old new before fault at p =
      let left : p.sent < length (line_of c e) = p.stops.left in
      record {
        sent = p.sent;
        stops = record {
          done = [];
          next = e;
          rest = [];
          split = refl;
          stops = rw (text_of-one c e) p.stops;
          whole = omega arith;
          broken = rw (text_of-one c e) left;
          roster_is = at;
        };
        counted = p.counted;
      }

  -- stopped among these entries, and so also if more follow
  pub BreaksAmong-front : (xs ys : List Entry) (roster : Rows) (old new : Watched W) (before : ℕ) (fault : WriteFault) → BreaksAmong contents c xs roster old new before fault
      → BreaksAmong contents c (xs ++ ys) roster old new before fault
  BreaksAmong-front xs ys roster old new before fault p =
      let s = p.stops in
      record {
        sent = p.sent;
        stops = record {
          done = s.done;
          next = s.next;
          rest = s.rest ++ ys;
          split = ap (λ l. l ++ ys) s.split ∙ append_assoc s.done (s.next ∷ s.rest) ys;
          stops = rw (text_of-append c xs ys) (StopsAt-append contents old new (text_of c xs) (text_of c ys) p.sent s.stops);
          whole = s.whole;
          broken = s.broken;
          roster_is = s.roster_is;
        };
        counted = p.counted;
      }

  -- these entries were sent, and the writer stopped among those after them
  pub BreaksAmong-after : (xs ys : List Entry) (roster : Rows) (old mid new : Watched W) (before between : ℕ) (fault : WriteFault) → Sends contents old mid before between (text_of c xs)
      → BreaksAmong contents c ys roster mid new between fault → BreaksAmong contents c (xs ++ ys) roster old new before fault
  BreaksAmong-after xs ys roster old mid new before between fault sends p =
      let s = p.stops in
      let front : between ≡ min (before + length (text_of c xs)) (2 ^ 64 - 1) = sends.counted in
      let count : min (between + p.sent) (2 ^ 64 - 1) ≡ min (before + (length (text_of c xs) + p.sent)) (2 ^ 64 - 1) = omega arith in
      let whole : length (text_of c s.done) ≤ p.sent = s.whole in
      let broken : p.sent < length (text_of c (s.done ++ s.next ∷ [])) = s.broken in
      record {
        sent = length (text_of c xs) + p.sent;
        stops = record {
          done = xs ++ s.done;
          next = s.next;
          rest = s.rest;
          split = ap (λ l. xs ++ l) s.split ∙ sym (append_assoc xs s.done (s.next ∷ s.rest));
          stops = rw (text_of-append c xs ys) (StopsAt-after contents old mid new (text_of c xs) (text_of c ys) p.sent sends.writes s.stops);
          whole = rw (text_of-append c xs s.done, length-append) (omega arith);
          broken = rw (append_assoc xs s.done (s.next ∷ []), text_of-append c xs (s.done ++ s.next ∷ []), length-append) (omega arith);
          roster_is = s.roster_is;
        };
        counted = p.counted ∙ ap WriteFailed count;
      }
