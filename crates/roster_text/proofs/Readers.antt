-- What it means that a reading function reads exactly what a list of patterns describes, and how such
-- functions are combined. A section of the grammar then takes one line for each of its fields.
use Rattle.std.proofs.Common.{◌≡◌, ◌⊎◌, inl, inr, List, [], ◌∷◌, ◌++◌, Ok, Err, refl, sym, ap, subst, ◌∙◌, append_assoc, ◌&&◌}
use Rattle.std.specs.Prelude.{if◌then◌else◌}
use Rattle.roster_text.specs.declared.parser.Refusal.{Refusal}
use Rattle.roster_text.specs.declared.parser.Refusal.TheVariants.{Due, OutOfRange}
use Rattle.roster_bundle.specs.Token.{Seen}
use Rattle.roster_text.specs.Grammar.{Pattern, Spelled, label, is_number}
use Rattle.roster_text.specs.FirstFault.{wants_number}
use Rattle.roster_text.specs.Reading.{Read, ◌>>=◌}
use Rattle.roster_text.proofs.Spelling.{spelled_append, divided, cut}

-- why a token that doesn't fit is refused: digits alone are out of range if a number is due
abbrev pub refusal : Pattern → List Seen → Refusal
refusal p [] = Due (label p)
refusal p (t ∷ ts) = if wants_number (label p) && is_number t.text then OutOfRange else Due (label p)

-- the tokens begin with some that fit the patterns, and `rest` is left
pub record Takes (ps : List Pattern) (ts rest : List Seen) : Type 0 where
  pub front : List Seen
  pub split : ts ≡ front ++ rest
  pub spelled : Spelled ps front

pub record Found {B : Type 0} (V : B → Type 0) (pat : B → List Pattern) (ts rest : List Seen) (b : B) : Type 0 where
  pub valid : V b
  pub takes : Takes (pat b) ts rest

-- A value with tokens that spell it.
pub record Example {B : Type 0} (V : B → Type 0) (pat : B → List Pattern) : Type 0 where
  pub value : B
  pub tokens : List Seen
  pub valid : V value
  pub spelled : Spelled (pat value) tokens

-- Reading stops at the tokens `left`. The tokens before them fit the patterns before `next` of some value,
-- which more tokens could complete. It stops the same whatever follows the refused token.
pub record Stops {B : Type 0} (V : B → Type 0) (pat : B → List Pattern) (read : List Seen → Read B) (ts : List Seen) (r : Refusal) (left : List Seen) : Type 0 where
  pub front : List Seen
  pub split : ts ≡ front ++ left
  pub value : B
  pub valid : V value
  pub done : List Pattern
  pub next : Pattern
  pub due : List Pattern
  pub patterns : pat value ≡ done ++ next ∷ due
  pub spelled : Spelled done front
  pub more : List Seen
  pub goes_on : Spelled (next ∷ due) more
  pub is : r ≡ refusal next left
  pub again : (t : Seen) (us other : List Seen) → left ≡ t ∷ us → read (front ++ t ∷ other) ≡ Err (r, t ∷ other)

-- The function reads exactly the values that meet V, by their patterns.
pub record Reader {B : Type 0} (V : B → Type 0) (pat : B → List Pattern) (read : List Seen → Read B) : Type 0 where
  -- what is read is spelled by the tokens that were taken
  pub sound : (ts rest : List Seen) (b : B) → read ts ≡ Ok (b, rest) → Found V pat ts rest b
  -- what is spelled is read, whatever follows
  pub whole : (b : B) (front rest : List Seen) → V b → Spelled (pat b) front → read (front ++ rest) ≡ Ok (b, rest)
  -- some value is valid and spelled
  pub some : Example V pat
  -- where it stops, the tokens before can be completed, and with the refused token they can't
  pub stops : (ts : List Seen) (r : Refusal) (left : List Seen) → read ts ≡ Err (r, left) → Stops V pat read ts r left
  -- tokens that end before a due pattern stop at their end
  pub ends : (b : B) (done due : List Pattern) (p : Pattern) (front more : List Seen) → V b → pat b ≡ done ++ p ∷ due → Spelled done front → Spelled (p ∷ due) more → read front ≡ Err (Due (label p), [])

-- ---- nothing left to read

-- the pair is what was read
abbrev ok_of : {B : Type 0} → B × List Seen → Read B
ok_of x = Ok x

same_pair : {B : Type 0} (p q : B × List Seen) (r : Read B) → r ≡ Ok p → r ≡ Ok q → p ≡ q
same_pair p q r d e = let both : ok_of p ≡ ok_of q = sym d ∙ e in cc

pub same_value : {B : Type 0} (a b : B) (ts us : List Seen) (r : Read B) → r ≡ Ok (a, ts) → r ≡ Ok (b, us) → a ≡ b
same_value a b ts us r d e = ap (λ p. p.0) (same_pair (a, ts) (b, us) r d e)

pub same_rest : {B : Type 0} (a b : B) (ts us : List Seen) (r : Read B) → r ≡ Ok (a, ts) → r ≡ Ok (b, us) → ts ≡ us
same_rest a b ts us r d e = ap (λ p. p.1) (same_pair (a, ts) (b, us) r d e)

nothing_spelled : (front : List Seen) → Spelled [] front → front ≡ []
nothing_spelled [] s = refl
nothing_spelled (t ∷ ts) s = absurd s

pub nothing_due : (done due : List Pattern) (p : Pattern) → (let none : List Pattern = [] in none ≡ done ++ p ∷ due) → ⊥
nothing_due [] due p e = cc
nothing_due (d ∷ done) due p e = cc

pub done_reader : {B : Type 0} (V : B → Type 0) (b : B) → V b → ((x : B) → V x → x ≡ b) → Reader V (λ _. []) (λ ts. Ok (b, ts))
done_reader V b valid only = record {
  sound = λ ts rest x e. record { valid = subst V (same_value b x ts rest (Ok (b, ts)) refl e) valid; takes = record { front = []; split = same_rest b x ts rest (Ok (b, ts)) refl e; spelled = tt } };
  whole = λ x front rest v s. rw (only x v, nothing_spelled front s) refl;
  some = record { value = b; tokens = []; valid = valid; spelled = tt };
  stops = λ ts r left e. absurd cc;
  ends = λ x done due p front more v e s m. absurd (nothing_due done due p e);
}

-- ---- a field, and then the rest

bind_ok : {A B : Type 0} (r : Read A) (f : A × List Seen → Read B) (y : B × List Seen) → (r >>= f) ≡ Ok y → (x : A × List Seen) × (r ≡ Ok x) × (f x ≡ Ok y)
bind_ok (Ok x) f y e = (x, refl, e)
bind_ok (Err d) f y e = absurd cc

bind_err : {A B : Type 0} (r : Read A) (f : A × List Seen → Read B) (d : Refusal × List Seen) → (r >>= f) ≡ Err d → ((x : A × List Seen) × (r ≡ Ok x) × (f x ≡ Err d)) ⊎ (r ≡ Err d)
bind_err (Ok x) f d e = inl (x, refl, e)
bind_err (Err c) f d e = inr cc

bind_to : {A B : Type 0} (r : Read A) (f : A × List Seen → Read B) (x : A × List Seen) (y : Read B) → r ≡ Ok x → f x ≡ y → (r >>= f) ≡ y
bind_to r f x y d e = rw d e

bind_stops : {A B : Type 0} (r : Read A) (f : A × List Seen → Read B) (d : Refusal × List Seen) → r ≡ Err d → (r >>= f) ≡ Err d
bind_stops r f d e = rw e refl

module _ {A B : Type 0} (VA : A → Type 0) (patA : A → List Pattern) (readA : List Seen → Read A) (first : Reader VA patA readA)
    (V : B → Type 0) (get : B → A) (valid : (b : B) → V b → VA (get b))
    (patB : B → List Pattern) (k : A → List Seen → Read B) (rest_of : (a : A) → VA a → Reader (λ b. V b × (get b ≡ a)) patB (k a)) where
  abbrev both : B → List Pattern
  both b = patA (get b) ++ patB b

  abbrev read : List Seen → Read B
  read ts = readA ts >>= λ x. k x.0 x.1

  then_sound : (ts rest : List Seen) (b : B) → read ts ≡ Ok (b, rest) → Found V both ts rest b
  then_sound ts rest b e =
      let p = bind_ok (readA ts) (λ x. k x.0 x.1) (b, rest) e in
      let f = first.sound ts p.0.1 p.0.0 p.1 in
      let g = (rest_of p.0.0 f.valid).sound p.0.1 rest b p.2 in
      let s : Spelled (patA (get b)) f.takes.front = subst (λ (a : A). Spelled (patA a) f.takes.front) (sym g.valid.1) f.takes.spelled in
      record {
        valid = g.valid.0;
        takes = record {
          front = f.takes.front ++ g.takes.front;
          split = f.takes.split ∙ ap (λ (us : List Seen). f.takes.front ++ us) g.takes.split ∙ sym (append_assoc f.takes.front g.takes.front rest);
          spelled = spelled_append (patA (get b)) (patB b) f.takes.front g.takes.front s g.takes.spelled;
        };
      }

  then_whole : (b : B) (front rest : List Seen) → V b → Spelled (both b) front → read (front ++ rest) ≡ Ok (b, rest)
  then_whole b front rest v s =
      let p = divided (patA (get b)) (patB b) front s in
      let a = first.whole (get b) p.front (p.back ++ rest) (valid b v) p.first in
      let c = (rest_of (get b) (valid b v)).whole b p.back rest (v, refl) p.second in
      let e : front ++ rest ≡ p.front ++ (p.back ++ rest) = ap (λ (us : List Seen). us ++ rest) p.split ∙ append_assoc p.front p.back rest in
      ap read e ∙ bind_to (readA (p.front ++ (p.back ++ rest))) (λ x. k x.0 x.1) (get b, p.back ++ rest) (Ok (b, rest)) a c

  then_some : Example V both
  then_some =
      let a = first.some in
      let b = (rest_of a.value a.valid).some in
      let s : Spelled (patA (get b.value)) a.tokens = subst (λ (x : A). Spelled (patA x) a.tokens) (sym b.valid.1) a.spelled in
      record {
        value = b.value;
        tokens = a.tokens ++ b.tokens;
        valid = b.valid.0;
        spelled = spelled_append (patA (get b.value)) (patB b.value) a.tokens b.tokens s b.spelled;
      }

  -- the first field stops: an example of the rest completes its value
  stops_in_first : (ts : List Seen) (r : Refusal) (left : List Seen) → Stops VA patA readA ts r left → Stops V both read ts r left
  stops_in_first ts r left s =
      let b = (rest_of s.value s.valid).some in
      let same : patA (get b.value) ≡ s.done ++ s.next ∷ s.due = ap patA b.valid.1 ∙ s.patterns in
      record {
        front = s.front;
        split = s.split;
        value = b.value;
        valid = b.valid.0;
        done = s.done;
        next = s.next;
        due = s.due ++ patB b.value;
        patterns = ap (λ (ps : List Pattern). ps ++ patB b.value) same ∙ append_assoc s.done (s.next ∷ s.due) (patB b.value);
        spelled = s.spelled;
        more = s.more ++ b.tokens;
        goes_on = spelled_append (s.next ∷ s.due) (patB b.value) s.more b.tokens s.goes_on b.spelled;
        is = s.is;
        again = λ t us other e. bind_stops (readA (s.front ++ t ∷ other)) (λ x. k x.0 x.1) (r, t ∷ other) (s.again t us other e);
      }

  -- the rest stops
  stops_in_rest : (ts mid : List Seen) (a : A) (r : Refusal) (left : List Seen) (f : Found VA patA ts mid a) → Stops (λ b. V b × (get b ≡ a)) patB (k a) mid r left → Stops V both read ts r left
  stops_in_rest ts mid a r left f s =
      let spelled_a : Spelled (patA (get s.value)) f.takes.front = subst (λ (x : A). Spelled (patA x) f.takes.front) (sym s.valid.1) f.takes.spelled in
      record {
        front = f.takes.front ++ s.front;
        split = f.takes.split ∙ ap (λ (us : List Seen). f.takes.front ++ us) s.split ∙ sym (append_assoc f.takes.front s.front left);
        value = s.value;
        valid = s.valid.0;
        done = patA (get s.value) ++ s.done;
        next = s.next;
        due = s.due;
        patterns = ap (λ (ps : List Pattern). patA (get s.value) ++ ps) s.patterns ∙ sym (append_assoc (patA (get s.value)) s.done (s.next ∷ s.due));
        spelled = spelled_append (patA (get s.value)) s.done f.takes.front s.front spelled_a s.spelled;
        more = s.more;
        goes_on = s.goes_on;
        is = s.is;
        again = λ t us other e.
            let w = first.whole a f.takes.front (s.front ++ t ∷ other) f.valid f.takes.spelled in
            ap read (append_assoc f.takes.front s.front (t ∷ other)) ∙ bind_to (readA (f.takes.front ++ (s.front ++ t ∷ other))) (λ x. k x.0 x.1) (a, s.front ++ t ∷ other) (Err (r, t ∷ other)) w (s.again t us other e);
      }

  then_stops : (ts : List Seen) (r : Refusal) (left : List Seen) → read ts ≡ Err (r, left) → Stops V both read ts r left
  then_stops ts r left e =
      elim (bind_err (readA ts) (λ x. k x.0 x.1) (r, left) e) [
        | inl p ↦
            let f = first.sound ts p.0.1 p.0.0 p.1 in
            stops_in_rest ts p.0.1 p.0.0 r left f ((rest_of p.0.0 f.valid).stops p.0.1 r left p.2)
        | inr d ↦ stops_in_first ts r left (first.stops ts r left d)
      ]

  then_ends : (b : B) (done due : List Pattern) (p : Pattern) (front more : List Seen) → V b → both b ≡ done ++ p ∷ due → Spelled done front → Spelled (p ∷ due) more → read front ≡ Err (Due (label p), [])
  then_ends b done due p front more v e s m =
      elim (cut (patA (get b)) (patB b) done due p e) [
        | inl c ↦
            let m' : Spelled ((p ∷ c.rest) ++ patB b) more = subst (λ (ps : List Pattern). Spelled (p ∷ ps) more) c.after m in
            let q = divided (p ∷ c.rest) (patB b) more m' in
            bind_stops (readA front) (λ x. k x.0 x.1) (Due (label p), []) (first.ends (get b) done c.rest p front q.front (valid b v) c.position s q.first)
        | inr c ↦
            let s' : Spelled (patA (get b) ++ c.before) front = subst (λ (ps : List Pattern). Spelled ps front) c.passed s in
            let q = divided (patA (get b)) c.before front s' in
            let a = first.whole (get b) q.front q.back (valid b v) q.first in
            let d = (rest_of (get b) (valid b v)).ends b c.before due p q.back more (v, refl) c.position q.second m in
            ap read q.split ∙ bind_to (readA (q.front ++ q.back)) (λ x. k x.0 x.1) (get b, q.back) (Err (Due (label p), [])) a d
      ]

  pub then : Reader V both read
  then = record { sound = then_sound; whole = then_whole; some = then_some; stops = then_stops; ends = then_ends }
