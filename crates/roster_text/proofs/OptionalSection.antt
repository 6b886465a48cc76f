-- Reading a section that may be absent, and then one that begins with a keyword of its own.
use Rattle.std.proofs.Common.{◌≡◌, ◌⊎◌, inl, inr, ℕ, true, false, cond, List, [], ◌∷◌, ◌++◌, Option, Some, None, Ok, Err, refl, sym, ap, subst, ◌∙◌, codes}
use Rattle.std.proofs.lemmas.Bool.{cases_Bool, false_from_ne_true}
use Rattle.std.specs.Str.{bytes_eq}
use Rattle.std.proofs.lemmas.Slice.Eq.{bytes_eq-Decides}
use Rattle.roster_bundle.specs.declared.bundle.Listed.{Listed}
use Rattle.roster_text.specs.declared.fault.Keyword.{Keyword}
use Rattle.roster_text.specs.declared.fault.What.{What}
use Rattle.roster_text.specs.declared.fault.What.TheVariants as what
use Rattle.roster_text.specs.declared.parser.Refusal.{Refusal}
use Rattle.roster_text.specs.declared.parser.Refusal.TheVariants.{Due}
use Rattle.roster_bundle.specs.Token.{Seen}
use Rattle.roster_text.specs.Words.{keyword_text}
use Rattle.roster_text.specs.Grammar.{Pattern, Fits, Spelled, fixed, label, optional_section, rest_of_section}
use Rattle.roster_text.specs.Reading.{Read, ◌>>=◌, word_at, listed_at, section_at, optional_at, begins_with}
use Rattle.roster_text.proofs.Readers.{Reader, Stops, Found, then}
use Rattle.roster_text.proofs.Several.{every, then_word, with_fact, with_patterns, listed_reader}

-- what reading gave
pub outcome : {A : Type 0} (r : Read A) → ((x : A × List Seen) × (r ≡ Ok x)) ⊎ ((d : Refusal × List Seen) × (r ≡ Err d))
outcome (Ok x) = inl (x, refl)
outcome (Err d) = inr (d, refl)

-- a reader also describes each function that reads the same
pub with_read : {B : Type 0} {V : B → Type 0} {pat : B → List Pattern} (r s : List Seen → Read B) → ((ts : List Seen) → r ts ≡ s ts) → Reader V pat r → Reader V pat s
with_read {B} {V} {pat} r s same reader = subst (λ (f : List Seen → Read B). Reader V pat f) (λ i ts. same ts i) reader

-- ---- one reader or the other, depending on the first token

-- the first pattern is one for which the same is due, and which the text doesn't fit
pub record BeginsElse (due : What) (text : List ℕ) (ps : List Pattern) : Type 0 where
  pub next : Pattern
  pub rest : List Pattern
  pub is : ps ≡ next ∷ rest
  pub labelled : label next ≡ due
  pub other : (t : Seen) → Fits next t → t.text ≡ text → ⊥

-- the patterns begin with the text
pub record BeginsSo (due : What) (text : List ℕ) (ps : List Pattern) : Type 0 where
  pub rest : List Pattern
  pub is : ps ≡ fixed due text ∷ rest

same_head : (k : Keyword) (front us other : List Seen) (t : Seen) → begins_with k (front ++ t ∷ us) ≡ begins_with k (front ++ t ∷ other)
same_head k [] us other t = refl
same_head k (u ∷ front) us other t = refl

abbrev err_of : {B : Type 0} → Refusal × List Seen → Read B
err_of x = Err x

module _ {B : Type 0} (V IsElse IsSo : B → Type 0) (pat : B → List Pattern) (k : Keyword) (due : What)
    (read_else read_so : List Seen → Read B) (reader_else : Reader IsElse pat read_else) (reader_so : Reader IsSo pat read_so)
    (cases : (b : B) → V b → IsElse b ⊎ IsSo b) (valid_else : (b : B) → IsElse b → V b) (valid_so : (b : B) → IsSo b → V b)
    (begins_else : (b : B) → IsElse b → BeginsElse due (keyword_text k) (pat b)) (begins_so : (b : B) → IsSo b → BeginsSo due (keyword_text k) (pat b)) where
  abbrev pub either : List Seen → Read B
  either ts = cond (begins_with k ts) (read_so ts) (read_else ts)

  either_so : (ts : List Seen) → begins_with k ts ≡ true → either ts ≡ read_so ts
  either_so ts e = rw e refl

  either_else : (ts : List Seen) → begins_with k ts ≡ false → either ts ≡ read_else ts
  either_else ts e = rw e refl

  sound_else : (ts rest : List Seen) (b : B) → read_else ts ≡ Ok (b, rest) → Found V pat ts rest b
  sound_else ts rest b e = let f = reader_else.sound ts rest b e in record { valid = valid_else b f.valid; takes = f.takes }

  sound_so : (ts rest : List Seen) (b : B) → read_so ts ≡ Ok (b, rest) → Found V pat ts rest b
  sound_so ts rest b e = let f = reader_so.sound ts rest b e in record { valid = valid_so b f.valid; takes = f.takes }

  either_sound : (ts rest : List Seen) (b : B) → either ts ≡ Ok (b, rest) → Found V pat ts rest b
  either_sound ts rest b e =
      elim (cases_Bool (begins_with k ts)) [
        | inl so ↦ sound_so ts rest b (sym (either_so ts so) ∙ e)
        | inr other_way ↦ sound_else ts rest b (sym (either_else ts other_way) ∙ e)
      ]

  -- ---- which way the patterns go

  goes_else : (b : B) → IsElse b → (d : Pattern) (rest : List Pattern) → pat b ≡ d ∷ rest → (t : Seen) → Fits d t → (ts : List Seen) → begins_with k (t ∷ ts) ≡ false
  goes_else b w d rest e t fits ts =
      let x = begins_else b w in
      let both : x.next ∷ x.rest ≡ d ∷ rest = sym x.is ∙ e in
      let same : x.next ≡ d = cc in
      false_from_ne_true (bytes_eq t.text (keyword_text k)) (λ h. x.other t (subst (λ (p : Pattern). Fits p t) (sym same) fits) ((bytes_eq-Decides t.text (keyword_text k)).0 h))

  goes_so : (b : B) → IsSo b → (d : Pattern) (rest : List Pattern) → pat b ≡ d ∷ rest → (t : Seen) → Fits d t → (ts : List Seen) → begins_with k (t ∷ ts) ≡ true
  goes_so b w d rest e t fits ts =
      let x = begins_so b w in
      let both : fixed due (keyword_text k) ∷ x.rest ≡ d ∷ rest = sym x.is ∙ e in
      let same : fixed due (keyword_text k) ≡ d = cc in
      (bytes_eq-Decides t.text (keyword_text k)).1 (subst (λ (p : Pattern). Fits p t) (sym same) fits)

  -- ---- what is spelled is read

  whole_else : (b : B) (front rest : List Seen) → IsElse b → Spelled (pat b) front → either (front ++ rest) ≡ Ok (b, rest)
  whole_else b [] rest w s = absurd (let x = begins_else b w in subst (λ (ps : List Pattern). Spelled ps []) x.is s)
  whole_else b (t ∷ ts) rest w s =
      let x = begins_else b w in
      let s' : Spelled (x.next ∷ x.rest) (t ∷ ts) = subst (λ (ps : List Pattern). Spelled ps (t ∷ ts)) x.is s in
      either_else (t ∷ ts ++ rest) (goes_else b w x.next x.rest x.is t s'.0 (ts ++ rest)) ∙ reader_else.whole b (t ∷ ts) rest w s

  whole_so : (b : B) (front rest : List Seen) → IsSo b → Spelled (pat b) front → either (front ++ rest) ≡ Ok (b, rest)
  whole_so b [] rest w s = absurd (let x = begins_so b w in subst (λ (ps : List Pattern). Spelled ps []) x.is s)
  whole_so b (t ∷ ts) rest w s =
      let x = begins_so b w in
      let s' : Spelled (fixed due (keyword_text k) ∷ x.rest) (t ∷ ts) = subst (λ (ps : List Pattern). Spelled ps (t ∷ ts)) x.is s in
      either_so (t ∷ ts ++ rest) (goes_so b w (fixed due (keyword_text k)) x.rest x.is t s'.0 (ts ++ rest)) ∙ reader_so.whole b (t ∷ ts) rest w s

  either_whole : (b : B) (front rest : List Seen) → V b → Spelled (pat b) front → either (front ++ rest) ≡ Ok (b, rest)
  either_whole b front rest v s =
      elim (cases b v) [
        | inl w ↦ whole_else b front rest w s
        | inr w ↦ whole_so b front rest w s
      ]

  -- ---- where reading stops

  same_way : (ts front left : List Seen) → ts ≡ front ++ left → (t : Seen) (us other : List Seen) → left ≡ t ∷ us → begins_with k ts ≡ begins_with k (front ++ t ∷ other)
  same_way ts front left split t us other e = ap (begins_with k) (split ∙ ap (λ (vs : List Seen). front ++ vs) e) ∙ same_head k front us other t

  -- if reading takes one of the two ways, it stops as that reader does
  stops_so_far : (read : List Seen → Read B) (W : B → Type 0) → ((b : B) → W b → V b) → (ts : List Seen) (r : Refusal) (left : List Seen) (s : Stops W pat read ts r left)
      → ((t : Seen) (us other : List Seen) → left ≡ t ∷ us → either (s.front ++ t ∷ other) ≡ read (s.front ++ t ∷ other)) → Stops V pat either ts r left
  stops_so_far read W valid ts r left s same = record {
    front = s.front;
    split = s.split;
    value = s.value;
    valid = valid s.value s.valid;
    done = s.done;
    next = s.next;
    due = s.due;
    patterns = s.patterns;
    spelled = s.spelled;
    more = s.more;
    goes_on = s.goes_on;
    is = s.is;
    again = λ t us other f. same t us other f ∙ s.again t us other f;
  }

  either_stops : (ts : List Seen) (r : Refusal) (left : List Seen) → either ts ≡ Err (r, left) → Stops V pat either ts r left
  either_stops ts r left e =
      elim (cases_Bool (begins_with k ts)) [
        | inl so ↦
            let s = reader_so.stops ts r left (sym (either_so ts so) ∙ e) in
            stops_so_far read_so IsSo valid_so ts r left s (λ t us other f. either_so (s.front ++ t ∷ other) (sym (same_way ts s.front left s.split t us other f) ∙ so))
        | inr other_way ↦
            let s = reader_else.stops ts r left (sym (either_else ts other_way) ∙ e) in
            stops_so_far read_else IsElse valid_else ts r left s (λ t us other f. either_else (s.front ++ t ∷ other) (sym (same_way ts s.front left s.split t us other f) ∙ other_way))
      ]

  -- ---- tokens after which something is still due

  empty_ends : either [] ≡ Err (Due due, [])
  empty_ends =
      let x = reader_else.some in
      let b = begins_else x.value x.valid in
      let s : Spelled (b.next ∷ b.rest) x.tokens = subst (λ (ps : List Pattern). Spelled ps x.tokens) b.is x.spelled in
      reader_else.ends x.value [] b.rest b.next [] x.tokens x.valid b.is tt s ∙ ap (λ (w : What). err_of (Due w, [])) b.labelled

  ends_else : (b : B) (done after : List Pattern) (p : Pattern) (front more : List Seen) → IsElse b → pat b ≡ done ++ p ∷ after → Spelled done front → Spelled (p ∷ after) more → either front ≡ Err (Due (label p), [])
  ends_else b [] after p [] more w e s m =
      let x = begins_else b w in
      let both : x.next ∷ x.rest ≡ p ∷ after = sym x.is ∙ e in
      let same : x.next ≡ p = cc in
      empty_ends ∙ ap (λ (w : What). err_of (Due w, [])) (sym x.labelled ∙ ap label same)
  ends_else b [] after p (t ∷ ts) more w e s m = absurd s
  ends_else b (d ∷ done) after p [] more w e s m = absurd s
  ends_else b (d ∷ done) after p (t ∷ ts) more w e s m =
      either_else (t ∷ ts) (goes_else b w d (done ++ p ∷ after) e t s.0 ts) ∙ reader_else.ends b (d ∷ done) after p (t ∷ ts) more w e s m

  ends_so : (b : B) (done after : List Pattern) (p : Pattern) (front more : List Seen) → IsSo b → pat b ≡ done ++ p ∷ after → Spelled done front → Spelled (p ∷ after) more → either front ≡ Err (Due (label p), [])
  ends_so b [] after p [] more w e s m =
      let x = begins_so b w in
      let both : fixed due (keyword_text k) ∷ x.rest ≡ p ∷ after = sym x.is ∙ e in
      let same : fixed due (keyword_text k) ≡ p = cc in
      empty_ends ∙ ap (λ (q : Pattern). err_of (Due (label q), [])) same
  ends_so b [] after p (t ∷ ts) more w e s m = absurd s
  ends_so b (d ∷ done) after p [] more w e s m = absurd s
  ends_so b (d ∷ done) after p (t ∷ ts) more w e s m =
      either_so (t ∷ ts) (goes_so b w d (done ++ p ∷ after) e t s.0 ts) ∙ reader_so.ends b (d ∷ done) after p (t ∷ ts) more w e s m

  either_ends : (b : B) (done after : List Pattern) (p : Pattern) (front more : List Seen) → V b → pat b ≡ done ++ p ∷ after → Spelled done front → Spelled (p ∷ after) more → either front ≡ Err (Due (label p), [])
  either_ends b done after p front more v e s m =
      elim (cases b v) [
        | inl w ↦ ends_else b done after p front more w e s m
        | inr w ↦ ends_so b done after p front more w e s m
      ]

  pub either_reader : Reader V pat either
  either_reader = record {
    sound = either_sound;
    whole = either_whole;
    some = let x = reader_else.some in record { value = x.value; tokens = x.tokens; valid = valid_else x.value x.valid; spelled = x.spelled };
    stops = either_stops;
    ends = either_ends;
  }

-- ---- a section that may be absent, and then one that begins with a keyword

-- the first pattern is one for which this keyword is due, and its text isn't the optional section's keyword
pub record BeginsOther (k due : Keyword) (ps : List Pattern) : Type 0 where
  pub text : List ℕ
  pub rest : List Pattern
  pub is : ps ≡ fixed (what.Keyword due) text ∷ rest
  pub other : text ≡ keyword_text k → ⊥

-- the items, if the section is there
abbrev listed_or : {A : Type 0} → Listed A → Option (Listed A) → Listed A
listed_or d None = d
listed_or d (Some xs) = xs

module _ {A B : Type 0} (pat : A → List Pattern) (read : List Seen → Read A) (item : Reader every pat read) (k after : Keyword)
    (V : B → Type 0) (get : B → Option (Listed A)) (patB : B → List Pattern) (then_at : Option (Listed A) → List Seen → Read B)
    (begins : (b : B) → V b → BeginsOther k after (patB b))
    (rest : (x : Option (Listed A)) → Reader (λ b. V b × (get b ≡ x)) patB (then_at x)) where
  abbrev both : B → List Pattern
  both b = optional_section k after pat (get b) ++ patB b

  abbrev IsAbsent : B → Type 0
  IsAbsent b = V b × (get b ≡ None)

  abbrev IsThere : B → Type 0
  IsThere b = V b × ((xs : Listed A) × (get b ≡ Some xs))

  absent : Reader IsAbsent both (then_at None)
  absent = with_patterns IsAbsent patB both (then_at None) (λ b v. ap (λ (o : Option (Listed A)). optional_section k after pat o ++ patB b) (sym v.1)) (rest None)

  example : Listed A
  example = (listed_reader pat read item).some.value

  abbrev items : B → Listed A
  items b = listed_or example (get b)

  there_is : (b : B) (xs : Listed A) → IsThere b × (items b ≡ xs) → V b × (get b ≡ Some xs)
  there_is b xs v = (v.0.0, v.0.1.1 ∙ ap (λ (ys : Listed A). Some ys) (sym (ap (listed_or example) v.0.1.1) ∙ v.1))

  is_there : (b : B) (xs : Listed A) → V b × (get b ≡ Some xs) → IsThere b × (items b ≡ xs)
  is_there b xs v = ((v.0, (xs, v.1)), ap (listed_or example) v.1)

  abbrev there_at : List Seen → Read B
  there_at ts = word_at (what.Keyword after) (keyword_text k) ts >>= λ a. word_at what.Equals (codes "=") a.1 >>= λ b. listed_at read b.1 >>= λ xs. then_at (Some xs.0) xs.1

  there : Reader IsThere both there_at
  there =
      with_patterns IsThere (λ b. fixed (what.Keyword after) (keyword_text k) ∷ fixed what.Equals (codes "=") ∷ (rest_of_section pat (items b) ++ patB b)) both there_at same
      (then_word IsThere (what.Keyword after) (keyword_text k) refl (λ b. fixed what.Equals (codes "=") ∷ (rest_of_section pat (items b) ++ patB b)) (λ ts. word_at what.Equals (codes "=") ts >>= λ b. listed_at read b.1 >>= λ xs. then_at (Some xs.0) xs.1)
      (then_word IsThere what.Equals (codes "=") refl (λ b. rest_of_section pat (items b) ++ patB b) (λ ts. listed_at read ts >>= λ xs. then_at (Some xs.0) xs.1)
      (then every (rest_of_section pat) (listed_at read) (listed_reader pat read item) IsThere items (λ b v. tt) patB (λ xs ts. then_at (Some xs) ts)
      (λ xs v. with_fact (λ b. V b × (get b ≡ Some xs)) (λ b. IsThere b × (items b ≡ xs)) patB (then_at (Some xs)) (λ b. is_there b xs) (λ b. there_is b xs) (rest (Some xs))))))
    where
      same : (b : B) → IsThere b → fixed (what.Keyword after) (keyword_text k) ∷ fixed what.Equals (codes "=") ∷ (rest_of_section pat (items b) ++ patB b) ≡ both b
      same b v =
          ap (λ (o : Option (Listed A)). fixed (what.Keyword after) (keyword_text k) ∷ fixed what.Equals (codes "=") ∷ (rest_of_section pat (listed_or example o) ++ patB b)) v.1.1
          ∙ ap (λ (o : Option (Listed A)). optional_section k after pat o ++ patB b) (sym v.1.1)

  by_cases : (b : B) → V b → IsAbsent b ⊎ IsThere b
  by_cases b v = go (get b) refl
    where
      go : (o : Option (Listed A)) → get b ≡ o → IsAbsent b ⊎ IsThere b
      go None e = inl (v, e)
      go (Some xs) e = inr (v, (xs, e))

  begins_absent : (b : B) → IsAbsent b → BeginsElse (what.Keyword after) (keyword_text k) (both b)
  begins_absent b v =
      let x = begins b v.0 in
      record {
        next = fixed (what.Keyword after) x.text;
        rest = x.rest;
        is = ap (λ (o : Option (Listed A)). optional_section k after pat o ++ patB b) v.1 ∙ x.is;
        labelled = refl;
        other = λ t fits e. x.other (sym fits ∙ e);
      }

  begins_there : (b : B) → IsThere b → BeginsSo (what.Keyword after) (keyword_text k) (both b)
  begins_there b v = record {
    rest = fixed what.Equals (codes "=") ∷ (rest_of_section pat v.1.0 ++ patB b);
    is = ap (λ (o : Option (Listed A)). optional_section k after pat o ++ patB b) v.1.1;
  }

  same_read : (ts : List Seen) → cond (begins_with k ts) (there_at ts) (then_at None ts) ≡ (optional_at k read ts >>= λ x. then_at x.0 x.1)
  unfolding optional_at section_at
  same_read [] = refl
  same_read (t ∷ ts) =
      elim (cases_Bool (bytes_eq t.text (keyword_text k))) [
        | inl so ↦
            elim (outcome (word_at what.Equals (codes "=") ts)) [
              | inl b ↦
                  elim (outcome (listed_at read b.0.1)) [
                    | inl xs ↦ rw (so, b.1, xs.1) refl
                    | inr d ↦ rw (so, b.1, d.1) refl
                  ]
              | inr d ↦ rw (so, d.1) refl
            ]
        | inr other_way ↦ rw other_way refl
      ]

  pub optional_reader : Reader V both (λ ts. optional_at k read ts >>= λ x. then_at x.0 x.1)
  optional_reader =
      with_read (either V IsAbsent IsThere both k (what.Keyword after) (then_at None) there_at absent there by_cases (λ b v. v.0) (λ b v. v.0) begins_absent begins_there)
      (λ ts. optional_at k read ts >>= λ x. then_at x.0 x.1) same_read
      (either_reader V IsAbsent IsThere both k (what.Keyword after) (then_at None) there_at absent there by_cases (λ b v. v.0) (λ b v. v.0) begins_absent begins_there)
