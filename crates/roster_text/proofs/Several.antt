-- Reading several items of a kind: a given number, a section, lines up to the next section.
use Rattle.std.proofs.Common.{◌≡◌, ℕ, zero, suc, false, List, [], ◌∷◌, ◌++◌, length, Ok, refl, sym, ap, subst, ◌∙◌, codes, arith}
use Rattle.std.proofs.lemmas.List.{append-nil}
use Rattle.std.specs.List.{flat_map}
use Rattle.roster_bundle.specs.declared.bundle.Listed.{Listed}
use Rattle.roster_bundle.specs.declared.bundle.Number.{Number}
use Rattle.roster_text.specs.declared.fault.Keyword.{Keyword}
use Rattle.roster_text.specs.declared.fault.What.{What}
use Rattle.roster_text.specs.declared.fault.What.TheVariants as what
use Rattle.roster_bundle.specs.Token.{Seen}
use Rattle.roster_text.specs.Words.{keyword_text}
use Rattle.roster_text.specs.Grammar.{Pattern, fixed, name, number, placed, Spelled, named, section, counted_names, rest_of_section}
use Rattle.roster_text.specs.FirstFault.{wants_number}
use Rattle.roster_text.specs.Reading.{Read, ◌>>=◌, word_at, name_at, number_at, value_at, times_at, listed_at, section_at, names_at}
use Rattle.roster_text.proofs.Readers.{Reader, done_reader, then}
use Rattle.roster_text.proofs.OneToken.{one_reader, word_one, name_one, placed_one, value_one}
use Rattle.roster_bundle.specs.Limits.{most_counted}

-- any value is valid
abbrev pub every : {A : Type 0} → A → Type 0
every a = Unit {0}

-- the same reader for an equivalent condition
pub with_fact : {B : Type 0} (V W : B → Type 0) (pat : B → List Pattern) (read : List Seen → Read B) → ((b : B) → V b → W b) → ((b : B) → W b → V b) → Reader V pat read → Reader W pat read
with_fact V W pat read to back r = record {
  sound = λ ts rest b e. let f = r.sound ts rest b e in record { valid = to b f.valid; takes = f.takes };
  whole = λ b front rest w s. r.whole b front rest (back b w) s;
  some = let x = r.some in record { value = x.value; tokens = x.tokens; valid = to x.value x.valid; spelled = x.spelled };
  stops = λ ts q left e.
      let s = r.stops ts q left e in
      record { front = s.front; split = s.split; value = s.value; valid = to s.value s.valid; done = s.done; next = s.next; due = s.due; patterns = s.patterns; spelled = s.spelled; more = s.more; goes_on = s.goes_on; is = s.is; again = s.again };
  ends = λ b done due p front more w e s m. r.ends b done due p front more (back b w) e s m;
}

-- a fixed text, and then the rest
pub then_word : {B : Type 0} (V : B → Type 0) (due : What) (text : List ℕ) → wants_number due ≡ false → (pat : B → List Pattern) (k : List Seen → Read B) → Reader V pat k
    → Reader V (λ b. fixed due text ∷ pat b) (λ ts. word_at due text ts >>= λ x. k x.1)
then_word V due text no_number pat k r =
    then every (λ _. fixed due text ∷ []) (word_at due text) (one_reader (λ _. fixed due text) (word_at due text) (word_one due text no_number))
    V (λ _. tt) (λ b v. tt) pat (λ a ts. k ts) (λ a v. with_fact V (λ b. V b × (tt ≡ a)) pat k (λ b w. (w, refl)) (λ b w. w.0) r)

-- the same reader for patterns that are equal for valid values
pub with_patterns : {B : Type 0} (V : B → Type 0) (p q : B → List Pattern) (read : List Seen → Read B) → ((b : B) → V b → p b ≡ q b) → Reader V p read → Reader V q read
with_patterns V p q read same r = record {
  sound = λ ts rest b e.
      let f = r.sound ts rest b e in
      record { valid = f.valid; takes = record { front = f.takes.front; split = f.takes.split; spelled = subst (λ (ps : List Pattern). Spelled ps f.takes.front) (same b f.valid) f.takes.spelled } };
  whole = λ b front rest v s. r.whole b front rest v (subst (λ (ps : List Pattern). Spelled ps front) (sym (same b v)) s);
  some = let x = r.some in record { value = x.value; tokens = x.tokens; valid = x.valid; spelled = subst (λ (ps : List Pattern). Spelled ps x.tokens) (same x.value x.valid) x.spelled };
  stops = λ ts w left e.
      let s = r.stops ts w left e in
      record { front = s.front; split = s.split; value = s.value; valid = s.valid; done = s.done; next = s.next; due = s.due; patterns = sym (same s.value s.valid) ∙ s.patterns; spelled = s.spelled; more = s.more; goes_on = s.goes_on; is = s.is; again = s.again };
  ends = λ b done due next front more v e s m. r.ends b done due next front more v (same b v ∙ e) s m;
}

-- ---- a given number of items

abbrev pub AreMany : {A : Type 0} → ℕ → List A → Type 0
AreMany n xs = length xs ≡ n

-- xs without its first item, if it has one
abbrev tail : {A : Type 0} → List A → List A
tail [] = []
tail (x ∷ xs) = xs

abbrev head_or : {A : Type 0} → A → List A → A
head_or d [] = d
head_or d (x ∷ xs) = x

-- a list of n + 1 items is its first and the rest
made_of : {A : Type 0} (d a : A) (n : ℕ) (xs b : List A) → ((length b ≡ suc n) × (head_or d b ≡ a)) × (tail b ≡ xs) → b ≡ a ∷ xs
made_of d a n xs [] v = absurd (let bad = v.0.0 in omega arith)
made_of d a n xs (x ∷ b) v = λ i. v.0.1 i ∷ v.1 i

nil_of_length : {A : Type 0} (b : List A) → length b ≡ 0 → b ≡ []
nil_of_length [] e = refl
nil_of_length (x ∷ b) e = absurd (omega arith)

module _ {A : Type 0} (pat : A → List Pattern) (read : List Seen → Read A) (item : Reader every pat read) where
  -- the others, and then all of them
  others : (n : ℕ) → Reader (AreMany n) (flat_map pat) (times_at read n) → (a : A)
      → Reader (λ b. (length b ≡ suc n) × (head_or item.some.value b ≡ a)) (λ b. flat_map pat (tail b) ++ []) (λ ts. times_at read n ts >>= λ x. Ok (a ∷ x.0, x.1))
  others n r a =
      then (AreMany n) (flat_map pat) (times_at read n) r
      (λ b. (length b ≡ suc n) × (head_or item.some.value b ≡ a)) tail (tail_many n a)
      (λ _. []) (λ xs ts. Ok (a ∷ xs, ts))
      (λ xs v. done_reader (λ b. ((length b ≡ suc n) × (head_or item.some.value b ≡ a)) × (tail b ≡ xs)) (a ∷ xs) ((ap suc v, refl), refl) (made_of item.some.value a n xs))
    where
      tail_many : (n : ℕ) (a : A) (b : List A) → (length b ≡ suc n) × (head_or item.some.value b ≡ a) → length (tail b) ≡ n
      tail_many n a [] v = absurd (let bad = v.0 in omega arith)
      tail_many n a (x ∷ b) v = let len = v.0 in omega arith

  one_more : (n : ℕ) → Reader (AreMany n) (flat_map pat) (times_at read n) → Reader (AreMany (suc n)) (flat_map pat) (times_at read (suc n))
  unfolding times_at
  one_more n r =
      with_patterns (AreMany (suc n)) (λ b. pat (head_or item.some.value b) ++ (flat_map pat (tail b) ++ [])) (flat_map pat) (times_at read (suc n)) same
      (then every pat read item (AreMany (suc n)) (head_or item.some.value) (λ b v. tt) (λ b. flat_map pat (tail b) ++ []) (λ a ts. times_at read n ts >>= λ x. Ok (a ∷ x.0, x.1)) (λ a v. others n r a))
    where
      same : (b : List A) → length b ≡ suc n → pat (head_or item.some.value b) ++ (flat_map pat (tail b) ++ []) ≡ flat_map pat b
      same [] e = absurd (omega arith)
      same (x ∷ b) e = ap (λ (ps : List Pattern). pat x ++ ps) (append-nil (flat_map pat b))

  none : Reader (AreMany 0) (flat_map pat) (times_at read 0)
  unfolding times_at
  none =
      with_patterns (AreMany 0) (λ _. []) (flat_map pat) (times_at read 0) (λ b e. ap (flat_map pat) (sym (nil_of_length b e)))
      (done_reader (AreMany 0) [] refl nil_of_length)

  pub times_reader : (n : ℕ) → Reader (AreMany n) (flat_map pat) (times_at read n)
  times_reader zero = none
  times_reader (suc n) = one_more n (times_reader n)

  -- ---- a section after its keyword

  abbrev listed_count : Listed A → Number
  listed_count b = record { token = b.count; value = length b.items }

  listed_items : (n : Number) → Reader (λ b. Unit {0} × (listed_count b ≡ n)) (λ b. flat_map pat b.items ++ []) (λ ts. times_at read n.value ts >>= λ xs. Ok (record { count = n.token; items = xs.0 }, xs.1))
  listed_items n =
      then (AreMany n.value) (flat_map pat) (times_at read n.value) (times_reader n.value)
      (λ b. Unit {0} × (listed_count b ≡ n)) (λ b. b.items) (λ b v. ap (λ (m : Number). m.value) v.1)
      (λ _. []) (λ xs ts. Ok (record { count = n.token; items = xs }, ts))
      (λ xs v. done_reader (λ b. (Unit {0} × (listed_count b ≡ n)) × (b.items ≡ xs)) (record { count = n.token; items = xs })
      ((tt, λ i. record { token = n.token; value = v i }), refl)
      (λ b w. λ i. record { count = (ap (λ (m : Number). m.token) w.0.1) i; items = w.1 i }))

  pub listed_reader : Reader every (rest_of_section pat) (listed_at read)
  unfolding listed_at
  listed_reader =
      then every (λ (n : Number). placed n.token most_counted n.value ∷ []) (number_at most_counted) (one_reader (λ (n : Number). placed n.token most_counted n.value) (number_at most_counted) (placed_one most_counted))
      every listed_count (λ b v. tt) (λ b. flat_map pat b.items ++ [])
      (λ n ts. times_at read n.value ts >>= λ xs. Ok (record { count = n.token; items = xs.0 }, xs.1)) (λ n v. listed_items n)

  pub section_reader : (k : Keyword) → Reader every (section k pat) (section_at k read)
  unfolding section_at
  section_reader k =
      then_word every (what.Keyword k) (keyword_text k) refl (λ b. fixed what.Equals (codes "=") ∷ rest_of_section pat b) (λ ts. word_at what.Equals (codes "=") ts >>= λ b. listed_at read b.1)
      (then_word every what.Equals (codes "=") refl (rest_of_section pat) (listed_at read) listed_reader)

pub name_reader : Reader every named name_at
name_reader = one_reader name name_at name_one

pub names_reader : Reader every counted_names names_at
unfolding names_at
names_reader =
    with_patterns every (λ b. number most_counted (length b) ∷ flat_map named b) counted_names names_at (λ b v. ap (λ (ps : List Pattern). number most_counted (length b) ∷ ps) (sym (append-nil (flat_map named b))))
    (then every (λ n. number most_counted n ∷ []) (value_at most_counted) (one_reader (number most_counted) (value_at most_counted) (value_one most_counted))
    every length (λ b v. tt) (flat_map named) (λ n ts. times_at name_at n ts)
    (λ n v. with_fact (AreMany n) (λ b. Unit {0} × (length b ≡ n)) (flat_map named) (times_at name_at n) (λ b e. (tt, e)) (λ b w. w.1) (times_reader named name_at name_reader n)))
