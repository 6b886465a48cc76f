-- The functions that read one token, each by its pattern.
use Rattle.std.proofs.Common.{◌≡◌, ◌≤◌, ◌⊎◌, inl, inr, ℕ, Bool, true, false, cond, leb, List, [], ◌∷◌, ◌++◌, Option, Some, None, Ok, Err, refl, sym, ap, subst, ◌∙◌, arith}
use Rattle.std.specs.List.{find}
use Rattle.std.specs.Str.{bytes_eq}
use Rattle.std.specs.Str.Parse.{digits_value}
use Rattle.std.proofs.lemmas.Bool.{leb-true, le-leb, or_cases}
use Rattle.std.proofs.lemmas.Slice.Eq.{bytes_eq-Decides}
use Rattle.roster_bundle.specs.declared.bundle.Day.{Day}
use Rattle.roster_bundle.specs.declared.bundle.Day.TheVariants as days
use Rattle.roster_bundle.specs.declared.bundle.Number.{Number}
use Rattle.roster_text.specs.declared.fault.What.{What}
use Rattle.roster_text.specs.declared.fault.What.TheVariants as what
use Rattle.roster_text.specs.declared.parser.Refusal.{Refusal}
use Rattle.roster_text.specs.declared.parser.Refusal.TheVariants.{Due, OutOfRange}
use Rattle.roster_bundle.specs.declared.token.Token.{Token}
use Rattle.roster_bundle.specs.Token.{Seen, is_mark}
use Rattle.roster_text.specs.Grammar.{Pattern, fixed, name, number, placed, day, Fits, Spelled, label, is_name, is_number}
use Rattle.roster_bundle.specs.Weekdays.{short, long}
use Rattle.roster_text.specs.FirstFault.{wants_number}
use Rattle.roster_text.specs.Reading.{Read, word_at, name_at, number_at, value_at, is_day, day_of, all_days, day_or_stop, day_at}
use Rattle.roster_text.proofs.Readers.{Reader, Stops, Found, refusal, same_value, same_rest}

-- The function returns the value of the pattern that the first token fits, and refuses any other token, and
-- the end.
pub record OneToken {A : Type 0} (p : A → Pattern) (read : List Seen → Read A) : Type 0 where
  pub at_end : (a : A) → read [] ≡ Err (Due (label (p a)), [])
  pub fits : (t : Seen) (ts : List Seen) (a : A) → Fits (p a) t → read (t ∷ ts) ≡ Ok (a, ts)
  pub found : (t : Seen) (ts : List Seen) (a : A) (rest : List Seen) → read (t ∷ ts) ≡ Ok (a, rest) → Fits (p a) t × (ts ≡ rest)
  pub refused : (a : A) (t : Seen) (ts left : List Seen) (r : Refusal) → read (t ∷ ts) ≡ Err (r, left) → (r ≡ refusal (p a) (t ∷ ts)) × (left ≡ t ∷ ts) × ((other : List Seen) → read (t ∷ other) ≡ Err (r, t ∷ other))
  pub value : A
  pub token : Seen
  pub example : Fits (p value) token

abbrev err_of : {B : Type 0} → Refusal × List Seen → Read B
err_of x = Err x

same_stop : {B : Type 0} (p q : Refusal × List Seen) (r : Read B) → r ≡ Err p → r ≡ Err q → p ≡ q
same_stop {B} p q r d e = let both : err_of {B = B} p ≡ err_of q = sym d ∙ e in cc

module _ {A : Type 0} (p : A → Pattern) (read : List Seen → Read A) (one : OneToken p read) where
  abbrev every : A → Type 0
  every a = Unit {0}

  abbrev pat : A → List Pattern
  pat a = p a ∷ []

  one_sound : (ts rest : List Seen) (a : A) → read ts ≡ Ok (a, rest) → Found every pat ts rest a
  one_sound [] rest a e = let stopped = one.at_end a in absurd cc
  one_sound (t ∷ ts) rest a e =
      let f = one.found t ts a rest e in
      record { valid = tt; takes = record { front = t ∷ []; split = ap (λ (us : List Seen). t ∷ us) f.1; spelled = (f.0, tt) } }

  one_whole : (a : A) (front rest : List Seen) → Unit {0} → Spelled (pat a) front → read (front ++ rest) ≡ Ok (a, rest)
  one_whole a [] rest v s = absurd s
  one_whole a (t ∷ []) rest v s = one.fits t rest a s.0
  one_whole a (t ∷ u ∷ us) rest v s = absurd s.1

  one_stops : (ts : List Seen) (r : Refusal) (left : List Seen) → read ts ≡ Err (r, left) → Stops every pat read ts r left
  one_stops [] r left e =
      let q = same_stop (Due (label (p one.value)), []) (r, left) (read []) (one.at_end one.value) e in
      let none : [] ≡ left = ap (λ x. x.1) q in
      let why : Due (label (p one.value)) ≡ r = ap (λ x. x.0) q in
      record {
        front = [];
        split = none;
        value = one.value;
        valid = tt;
        done = [];
        next = p one.value;
        due = [];
        patterns = refl;
        spelled = tt;
        more = one.token ∷ [];
        goes_on = (one.example, tt);
        is = sym why ∙ ap (refusal (p one.value)) none;
        again = λ t us other h. let bad : [] ≡ t ∷ us = none ∙ h in absurd cc;
      }
  one_stops (t ∷ ts) r left e =
      let q = one.refused one.value t ts left r e in
      record {
        front = [];
        split = sym q.1;
        value = one.value;
        valid = tt;
        done = [];
        next = p one.value;
        due = [];
        patterns = refl;
        spelled = tt;
        more = one.token ∷ [];
        goes_on = (one.example, tt);
        is = q.0 ∙ ap (refusal (p one.value)) (sym q.1);
        again = λ u us other h.
            let heads : t ∷ ts ≡ u ∷ us = sym q.1 ∙ h in
            let same : t ≡ u = cc in
            subst (λ (w : Seen). read (w ∷ other) ≡ Err (r, w ∷ other)) same (q.2 other);
      }

  one_ends : (a : A) (done due : List Pattern) (next : Pattern) (front more : List Seen) → Unit {0} → pat a ≡ done ++ next ∷ due → Spelled done front → Spelled (next ∷ due) more → read front ≡ Err (Due (label next), [])
  one_ends a [] due next [] more v e s m = let same : p a ≡ next = cc in subst (λ (w : Pattern). read [] ≡ Err (Due (label w), [])) same (one.at_end a)
  one_ends a [] due next (t ∷ ts) more v e s m = absurd s
  one_ends a (d ∷ []) due next front more v e s m = let bad : [] ≡ next ∷ due = cc in absurd cc
  one_ends a (d ∷ c ∷ done) due next front more v e s m = let bad : [] ≡ c ∷ (done ++ next ∷ due) = cc in absurd cc

  pub one_reader : Reader every pat read
  one_reader = record {
    sound = one_sound;
    whole = one_whole;
    some = record { value = one.value; tokens = one.token ∷ []; valid = tt; spelled = (one.example, tt) };
    stops = one_stops;
    ends = one_ends;
  }

-- ---- the five kinds

-- which way a test went
chosen : {A : Type 0} (b : Bool) (x y z : A) → cond b x y ≡ z → ((b ≡ true) × (x ≡ z)) ⊎ ((b ≡ false) × (y ≡ z))
chosen true x y z e = inl (refl, e)
chosen false x y z e = inr (refl, e)

token_zero : Token
token_zero = record { start = 0; end = 0; line = 0 }

abbrev seen_as : List ℕ → Seen
seen_as text = record { token = token_zero; text = text }

word_found : (due : What) (text : List ℕ) (t : Seen) (ts : List Seen) (a : Unit {0}) (rest : List Seen) → word_at due text (t ∷ ts) ≡ Ok (a, rest) → Fits (fixed due text) t × (ts ≡ rest)
word_found due text t ts a rest e =
    elim (chosen (bytes_eq t.text text) (Ok (tt, ts)) (Err (Due due, t ∷ ts)) (Ok (a, rest)) e) [
      | inl h ↦ ((bytes_eq-Decides t.text text).0 h.0, same_rest tt a ts rest (Ok (tt, ts)) refl h.1)
      | inr h ↦ let bad = h.1 in absurd cc
    ]

word_refused : (due : What) (text : List ℕ) (no_number : wants_number due ≡ false) (a : Unit {0}) (t : Seen) (ts left : List Seen) (r : Refusal) → word_at due text (t ∷ ts) ≡ Err (r, left)
    → (r ≡ refusal (fixed due text) (t ∷ ts)) × (left ≡ t ∷ ts) × ((other : List Seen) → word_at due text (t ∷ other) ≡ Err (r, t ∷ other))
word_refused due text no_number a t ts left r e =
    elim (chosen (bytes_eq t.text text) (Ok (tt, ts)) (Err (Due due, t ∷ ts)) (Err (r, left)) e) [
      | inl h ↦ let bad = h.1 in absurd cc
      | inr h ↦
          let q = same_stop (Due due, t ∷ ts) (r, left) (Err (Due due, t ∷ ts)) refl h.1 in
          let why : Due due ≡ r = ap (λ x. x.0) q in
          (sym why ∙ rw no_number refl, sym (ap (λ x. x.1) q), λ other. rw (h.0, sym why) refl)
    ]

pub word_one : (due : What) (text : List ℕ) → wants_number due ≡ false → OneToken (λ (_ : Unit {0}). fixed due text) (word_at due text)
word_one due text no_number = record {
  at_end = λ a. refl;
  fits = λ t ts a h. rw ((bytes_eq-Decides t.text text).1 h) refl;
  found = word_found due text;
  refused = word_refused due text no_number;
  value = tt;
  token = seen_as text;
  example = refl;
}

name_found : (t : Seen) (ts : List Seen) (a : Token) (rest : List Seen) → name_at (t ∷ ts) ≡ Ok (a, rest) → Fits (name a) t × (ts ≡ rest)
name_found t ts a rest e =
    elim (chosen (is_name t.text) (Ok (t.token, ts)) (Err (Due what.Name, t ∷ ts)) (Ok (a, rest)) e) [
      | inl h ↦ ((h.0, same_value t.token a ts rest (Ok (t.token, ts)) refl h.1), same_rest t.token a ts rest (Ok (t.token, ts)) refl h.1)
      | inr h ↦ let bad = h.1 in absurd cc
    ]

name_refused : (a : Token) (t : Seen) (ts left : List Seen) (r : Refusal) → name_at (t ∷ ts) ≡ Err (r, left)
    → (r ≡ refusal (name a) (t ∷ ts)) × (left ≡ t ∷ ts) × ((other : List Seen) → name_at (t ∷ other) ≡ Err (r, t ∷ other))
name_refused a t ts left r e =
    elim (chosen (is_name t.text) (Ok (t.token, ts)) (Err (Due what.Name, t ∷ ts)) (Err (r, left)) e) [
      | inl h ↦ let bad = h.1 in absurd cc
      | inr h ↦
          let q = same_stop (Due what.Name, t ∷ ts) (r, left) (Err (Due what.Name, t ∷ ts)) refl h.1 in
          let why : Due what.Name ≡ r = ap (λ x. x.0) q in
          (sym why, sym (ap (λ x. x.1) q), λ other. rw (h.0, sym why) refl)
    ]

pub name_one : OneToken name name_at
unfolding is_mark
name_one = record {
  at_end = λ a. refl;
  fits = λ t ts a h. rw h.0 (ap (λ (n : Token). Ok (n, ts)) h.1);
  found = name_found;
  refused = name_refused;
  value = token_zero;
  token = seen_as (120 ∷ []);
  example = (refl, refl);
}

-- ---- numbers

abbrev number_of : Seen → Number
number_of t = record { token = t.token; value = digits_value 10 t.text }

-- what reading a number gives at a token
number_gives : (limit : ℕ) (t : Seen) (ts : List Seen) →
    ((is_number t.text ≡ true) × (digits_value 10 t.text ≤ limit) × ((other : List Seen) → number_at limit (t ∷ other) ≡ Ok (number_of t, other)))
    ⊎ ((r : Refusal) × ((token : Token) (n : ℕ) → r ≡ refusal (placed token limit n) (t ∷ ts)) × ((other : List Seen) → number_at limit (t ∷ other) ≡ Err (r, t ∷ other)))
number_gives limit t ts =
    elim (chosen (is_number t.text) true false (is_number t.text) (cond_same (is_number t.text))) [
      | inl h ↦
          elim (chosen (leb (digits_value 10 t.text) limit) true false (leb (digits_value 10 t.text) limit) (cond_same (leb (digits_value 10 t.text) limit))) [
            | inl k ↦ inl (h.0, leb-true (digits_value 10 t.text) limit k.0, λ other. rw (h.0, k.0) refl)
            | inr k ↦ inr (OutOfRange, λ token n. rw h.0 refl, λ other. rw (h.0, k.0) refl)
          ]
      | inr h ↦ inr (Due what.Number, λ token n. rw h.0 refl, λ other. rw h.0 refl)
    ]
  where
    cond_same : (b : Bool) → cond b true false ≡ b
    cond_same true = refl
    cond_same false = refl

number_found : (limit : ℕ) (t : Seen) (ts : List Seen) (a : Number) (rest : List Seen) → number_at limit (t ∷ ts) ≡ Ok (a, rest) → Fits (placed a.token limit a.value) t × (ts ≡ rest)
number_found limit t ts a rest e =
    elim (number_gives limit t ts) [
      | inl g ↦
          let same : number_of t ≡ a = same_value (number_of t) a ts rest (number_at limit (t ∷ ts)) (g.2 ts) e in
          let value : digits_value 10 t.text ≡ a.value = ap (λ (n : Number). n.value) same in
          ((g.0, value, subst (λ (n : ℕ). n ≤ limit) value g.1, ap (λ (n : Number). n.token) same), same_rest (number_of t) a ts rest (number_at limit (t ∷ ts)) (g.2 ts) e)
      | inr g ↦ let stopped = g.2 ts in absurd cc
    ]

number_refused : (limit : ℕ) (a : Number) (t : Seen) (ts left : List Seen) (r : Refusal) → number_at limit (t ∷ ts) ≡ Err (r, left)
    → (r ≡ refusal (placed a.token limit a.value) (t ∷ ts)) × (left ≡ t ∷ ts) × ((other : List Seen) → number_at limit (t ∷ other) ≡ Err (r, t ∷ other))
number_refused limit a t ts left r e =
    elim (number_gives limit t ts) [
      | inl g ↦ let read = g.2 ts in absurd cc
      | inr g ↦
          let q = same_stop (g.0, t ∷ ts) (r, left) (number_at limit (t ∷ ts)) (g.2 ts) e in
          let why : g.0 ≡ r = ap (λ x. x.0) q in
          (sym why ∙ g.1 a.token a.value, sym (ap (λ x. x.1) q), λ other. subst (λ (w : Refusal). number_at limit (t ∷ other) ≡ Err (w, t ∷ other)) why (g.2 other))
    ]

number_fits : (limit : ℕ) (t : Seen) (ts : List Seen) (a : Number) → Fits (placed a.token limit a.value) t → number_at limit (t ∷ ts) ≡ Ok (a, ts)
number_fits limit t ts a h =
    let small : leb (digits_value 10 t.text) limit ≡ true = le-leb (digits_value 10 t.text) limit (omega (arith, h.1, h.2)) in
    let same : number_of t ≡ a = λ i. record { token = h.3 i; value = h.1 i } in
    rw (h.0, small) (ap (λ (n : Number). Ok (n, ts)) same)

pub placed_one : (limit : ℕ) → OneToken (λ (n : Number). placed n.token limit n.value) (number_at limit)
unfolding is_mark
placed_one limit = record {
  at_end = λ a. refl;
  fits = number_fits limit;
  found = number_found limit;
  refused = number_refused limit;
  value = number_of (seen_as (48 ∷ []));
  token = seen_as (48 ∷ []);
  example = (refl, refl, omega arith, refl);
}

-- the value alone
value_found : (limit : ℕ) (t : Seen) (ts : List Seen) (a : ℕ) (rest : List Seen) → value_at limit (t ∷ ts) ≡ Ok (a, rest) → Fits (number limit a) t × (ts ≡ rest)
value_found limit t ts a rest e =
    elim (number_gives limit t ts) [
      | inl g ↦
          let read : value_at limit (t ∷ ts) ≡ Ok (digits_value 10 t.text, ts) = rw (g.2 ts) refl in
          let value : digits_value 10 t.text ≡ a = same_value (digits_value 10 t.text) a ts rest (value_at limit (t ∷ ts)) read e in
          ((g.0, value, subst (λ (n : ℕ). n ≤ limit) value g.1), same_rest (digits_value 10 t.text) a ts rest (value_at limit (t ∷ ts)) read e)
      | inr g ↦ let stopped : value_at limit (t ∷ ts) ≡ Err (g.0, t ∷ ts) = rw (g.2 ts) refl in absurd cc
    ]

value_refused : (limit : ℕ) (a : ℕ) (t : Seen) (ts left : List Seen) (r : Refusal) → value_at limit (t ∷ ts) ≡ Err (r, left)
    → (r ≡ refusal (number limit a) (t ∷ ts)) × (left ≡ t ∷ ts) × ((other : List Seen) → value_at limit (t ∷ other) ≡ Err (r, t ∷ other))
value_refused limit a t ts left r e =
    elim (number_gives limit t ts) [
      | inl g ↦ let read : value_at limit (t ∷ ts) ≡ Ok (digits_value 10 t.text, ts) = rw (g.2 ts) refl in absurd cc
      | inr g ↦
          let stopped : (other : List Seen) → value_at limit (t ∷ other) ≡ Err (g.0, t ∷ other) = λ other. rw (g.2 other) refl in
          let q = same_stop (g.0, t ∷ ts) (r, left) (value_at limit (t ∷ ts)) (stopped ts) e in
          let why : g.0 ≡ r = ap (λ x. x.0) q in
          (sym why ∙ g.1 token_zero a, sym (ap (λ x. x.1) q), λ other. subst (λ (w : Refusal). value_at limit (t ∷ other) ≡ Err (w, t ∷ other)) why (stopped other))
    ]

value_fits : (limit : ℕ) (t : Seen) (ts : List Seen) (a : ℕ) → Fits (number limit a) t → value_at limit (t ∷ ts) ≡ Ok (a, ts)
value_fits limit t ts a h = rw (number_fits limit t ts (record { token = t.token; value = a }) (h.0, h.1, h.2, refl)) refl

-- `0`, which is within each limit
pub zero_seen : Seen
zero_seen = seen_as (48 ∷ [])

pub zero_fits : (limit : ℕ) → Fits (number limit 0) zero_seen
unfolding zero_seen is_mark
zero_fits limit = (refl, refl, omega arith)

pub value_one : (limit : ℕ) → OneToken (number limit) (value_at limit)
value_one limit = record {
  at_end = λ a. refl;
  fits = value_fits limit;
  found = value_found limit;
  refused = value_refused limit;
  value = 0;
  token = zero_seen;
  example = zero_fits limit;
}

-- ---- days

found_passes : {X : Type 0} (test : X → Bool) (xs : List X) (x : X) → find test xs ≡ Some x → test x ≡ true
found_passes test [] x e = absurd cc
found_passes test (y ∷ ys) x e =
    elim (chosen (test y) (Some y) (find test ys) (Some x) e) [
      | inl h ↦ let same : y ≡ x = let both = h.1 in cc in subst (λ (z : _). test z ≡ true) same h.0
      | inr h ↦ found_passes test ys x h.1
    ]

day_of_short : (d : Day) → day_of (short d) ≡ Some d
day_of_short days.Monday = refl
day_of_short days.Tuesday = refl
day_of_short days.Wednesday = refl
day_of_short days.Thursday = refl
day_of_short days.Friday = refl
day_of_short days.Saturday = refl
day_of_short days.Sunday = refl

day_of_long : (d : Day) → day_of (long d) ≡ Some d
day_of_long days.Monday = refl
day_of_long days.Tuesday = refl
day_of_long days.Wednesday = refl
day_of_long days.Thursday = refl
day_of_long days.Friday = refl
day_of_long days.Saturday = refl
day_of_long days.Sunday = refl

is_day_fits : (text : List ℕ) (d : Day) → is_day text d ≡ true → (text ≡ short d) ⊎ (text ≡ long d)
is_day_fits text d e =
    elim (or_cases (bytes_eq text (short d)) (bytes_eq text (long d)) e) [
      | inl h ↦ inl ((bytes_eq-Decides text (short d)).0 h)
      | inr h ↦ inr ((bytes_eq-Decides text (long d)).0 h)
    ]

day_fits : (t : Seen) (ts : List Seen) (d : Day) → Fits (day d) t → day_at (t ∷ ts) ≡ Ok (d, ts)
day_fits t ts d (inl e) = ap (λ (o : Option Day). day_or_stop o t ts) (ap day_of e ∙ day_of_short d)
day_fits t ts d (inr e) = ap (λ (o : Option Day). day_or_stop o t ts) (ap day_of e ∙ day_of_long d)

-- the day that a text names, or none
day_cases : (t : Seen) → ((d : Day) × (day_of t.text ≡ Some d)) ⊎ (day_of t.text ≡ None)
day_cases t = cases (day_of t.text)
  where
    cases : (o : Option Day) → ((d : Day) × (o ≡ Some d)) ⊎ (o ≡ None)
    cases None = inr refl
    cases (Some d) = inl (d, refl)

day_found : (t : Seen) (ts : List Seen) (a : Day) (rest : List Seen) → day_at (t ∷ ts) ≡ Ok (a, rest) → Fits (day a) t × (ts ≡ rest)
day_found t ts a rest e =
    elim (day_cases t) [
      | inl g ↦
          let read : day_at (t ∷ ts) ≡ Ok (g.0, ts) = ap (λ (o : Option Day). day_or_stop o t ts) g.1 in
          let same = same_value g.0 a ts rest (day_at (t ∷ ts)) read e in
          (subst (λ (d : Day). Fits (day d) t) same (is_day_fits t.text g.0 (found_passes (is_day t.text) all_days g.0 g.1)), same_rest g.0 a ts rest (day_at (t ∷ ts)) read e)
      | inr g ↦ let stopped : day_at (t ∷ ts) ≡ Err (Due what.Day, t ∷ ts) = ap (λ (o : Option Day). day_or_stop o t ts) g in absurd cc
    ]

day_refused : (a : Day) (t : Seen) (ts left : List Seen) (r : Refusal) → day_at (t ∷ ts) ≡ Err (r, left)
    → (r ≡ refusal (day a) (t ∷ ts)) × (left ≡ t ∷ ts) × ((other : List Seen) → day_at (t ∷ other) ≡ Err (r, t ∷ other))
day_refused a t ts left r e =
    elim (day_cases t) [
      | inl g ↦ let read : day_at (t ∷ ts) ≡ Ok (g.0, ts) = ap (λ (o : Option Day). day_or_stop o t ts) g.1 in absurd cc
      | inr g ↦
          let stopped : (other : List Seen) → day_at (t ∷ other) ≡ Err (Due what.Day, t ∷ other) = λ other. ap (λ (o : Option Day). day_or_stop o t other) g in
          let q = same_stop (Due what.Day, t ∷ ts) (r, left) (day_at (t ∷ ts)) (stopped ts) e in
          let why : Due what.Day ≡ r = ap (λ x. x.0) q in
          (sym why, sym (ap (λ x. x.1) q), λ other. subst (λ (w : Refusal). day_at (t ∷ other) ≡ Err (w, t ∷ other)) why (stopped other))
    ]

pub day_one : OneToken day day_at
day_one = record {
  at_end = λ a. refl;
  fits = day_fits;
  found = day_found;
  refused = day_refused;
  value = days.Monday;
  token = seen_as (short days.Monday);
  example = inl refl;
}
