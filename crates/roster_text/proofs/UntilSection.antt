-- Reading lines up to the keyword and `=` of the next section.
use Rattle.std.proofs.Common.{◌≡◌, ◌<◌, ◌⊎◌, inl, inr, ℕ, zero, suc, ◌+◌, true, false, List, [], ◌∷◌, ◌++◌, length, drop, Ok, Err, refl, sym, ap, subst, ◌∙◌, append_assoc, codes, arith}
use Rattle.std.proofs.lemmas.Bool.{and_parts, cases_Bool, false_from_ne_true}
use Rattle.std.proofs.lemmas.List.{append-nil, length-append}
use Rattle.std.specs.List.{flat_map}
use Rattle.std.specs.Str.{bytes_eq}
use Rattle.std.proofs.lemmas.Slice.Eq.{bytes_eq-Decides}
use Rattle.roster_text.specs.declared.fault.Keyword.{Keyword}
use Rattle.roster_text.specs.declared.fault.Keyword.TheVariants as keyword
use Rattle.roster_text.specs.declared.fault.What.{What}
use Rattle.roster_text.specs.declared.fault.What.TheVariants as what
use Rattle.roster_text.specs.declared.parser.Refusal.{Refusal}
use Rattle.roster_text.specs.declared.parser.Refusal.TheVariants.{Due}
use Rattle.roster_bundle.specs.declared.token.Token.{Token}
use Rattle.roster_bundle.specs.Token.{Seen, is_mark}
use Rattle.roster_text.specs.Words.{keyword_text}
use Rattle.roster_text.specs.Grammar.{Pattern, fixed, name, Fits, Spelled, label, is_name, lines_until}
use Rattle.roster_text.specs.Reading.{Read, ◌>>=◌, begins_section, until_with, until_at}
use Rattle.roster_text.proofs.Spelling.{spelled_append, divided, cut}
use Rattle.roster_text.proofs.Readers.{Reader, Stops, Example, Takes, nothing_due, same_value, same_rest}
use Rattle.roster_text.proofs.Several.{every}

-- A line begins with a name, and what is due after it isn't `=`.
pub record Start (second : What) (ps : List Pattern) : Type 0 where
  pub lead : Token
  pub next : Pattern
  pub rest : List Pattern
  pub is : ps ≡ name lead ∷ next ∷ rest
  pub labelled : label next ≡ second
  pub no_equals : (t : Seen) → Fits next t → t.text ≡ codes "=" → ⊥

-- a line that begins with this token
pub record LineFrom {A : Type 0} (pat : A → List Pattern) (second : What) (t : Token) : Type 0 where
  pub value : A
  pub start : Start second (pat value)
  pub lead : start.lead ≡ t
  pub more : List Seen
  pub spelled : Spelled (start.next ∷ start.rest) more

pub record Lines {A : Type 0} (pat : A → List Pattern) (second : What) : Type 0 where
  pub starts : (a : A) → Start second (pat a)
  pub any : (t : Token) → LineFrom pat second t

-- a keyword is a name
pub keyword_is_name : (k : Keyword) → is_name (keyword_text k) ≡ true
unfolding is_mark
keyword_is_name keyword.Scenario = refl
keyword_is_name keyword.Weeks = refl
keyword_is_name keyword.Skills = refl
keyword_is_name keyword.ShiftTypes = refl
keyword_is_name keyword.Successions = refl
keyword_is_name keyword.Contracts = refl
keyword_is_name keyword.Nurses = refl
keyword_is_name keyword.History = refl
keyword_is_name keyword.NurseHistory = refl
keyword_is_name keyword.WeekData = refl
keyword_is_name keyword.Requirements = refl
keyword_is_name keyword.ShiftOffRequests = refl
keyword_is_name keyword.ShiftOnRequests = refl
keyword_is_name keyword.Absences = refl
keyword_is_name keyword.Fixed = refl
keyword_is_name keyword.Solution = refl
keyword_is_name keyword.Assignments = refl

pub no_equals_name : (n : Token) (t : Seen) → Fits (name n) t → t.text ≡ codes "=" → ⊥
unfolding is_mark
no_equals_name n t f e = let mark : is_name (codes "=") ≡ true = sym (ap is_name e) ∙ f.0 in let no : false ≡ true = mark in cc

-- ---- the beginning of a section

-- the two tokens, and what is after them
record Begun (k : Keyword) (ts : List Seen) : Type 0 where
  first : Seen
  second : Seen
  after : List Seen
  is : ts ≡ first ∷ second ∷ after
  keyword : first.text ≡ keyword_text k
  equals : second.text ≡ codes "="

begun : (k : Keyword) (ts : List Seen) → begins_section k ts ≡ true → Begun k ts
begun k [] e = absurd cc
begun k (t ∷ []) e = absurd cc
begun k (t ∷ u ∷ ts) e =
    let b = and_parts (bytes_eq t.text (keyword_text k)) (bytes_eq u.text (codes "=")) e in
    record { first = t; second = u; after = ts; is = refl; keyword = (bytes_eq-Decides t.text (keyword_text k)).0 b.0; equals = (bytes_eq-Decides u.text (codes "=")).0 b.1 }

begins : (k : Keyword) (t u : Seen) (ts : List Seen) → t.text ≡ keyword_text k → u.text ≡ codes "=" → begins_section k (t ∷ u ∷ ts) ≡ true
begins k t u ts e f = rw ((bytes_eq-Decides t.text (keyword_text k)).1 e, (bytes_eq-Decides u.text (codes "=")).1 f) refl

no_equals_no_section : (k : Keyword) (t u : Seen) (ts : List Seen) → (u.text ≡ codes "=" → ⊥) → begins_section k (t ∷ u ∷ ts) ≡ false
no_equals_no_section k t u ts h = false_from_ne_true (begins_section k (t ∷ u ∷ ts)) (λ e. let b = and_parts (bytes_eq t.text (keyword_text k)) (bytes_eq u.text (codes "=")) e in h ((bytes_eq-Decides u.text (codes "=")).0 b.1))

no_keyword_no_section : (k : Keyword) (t : Seen) (ts : List Seen) → (t.text ≡ keyword_text k → ⊥) → begins_section k (t ∷ ts) ≡ false
no_keyword_no_section k t [] h = refl
no_keyword_no_section k t (u ∷ ts) h = false_from_ne_true (begins_section k (t ∷ u ∷ ts)) (λ e. let b = and_parts (bytes_eq t.text (keyword_text k)) (bytes_eq u.text (codes "=")) e in h ((bytes_eq-Decides t.text (keyword_text k)).0 b.0))

outcome : {A : Type 0} (r : Read A) → ((x : A × List Seen) × (r ≡ Ok x)) ⊎ ((d : Refusal × List Seen) × (r ≡ Err d))
outcome (Ok x) = inl (x, refl)
outcome (Err d) = inr (d, refl)

abbrev ok_of : {B : Type 0} → B × List Seen → Read B
ok_of x = Ok x

abbrev err_of : {B : Type 0} → Refusal × List Seen → Read B
err_of x = Err x

module _ {A : Type 0} (pat : A → List Pattern) (read : List Seen → Read A) (item : Reader every pat read) (k : Keyword) (second : What) (lines : Lines pat second) where
  -- ---- a line's first two tokens

  -- a line begins no section, whatever follows
  record Two (front : List Seen) : Type 0 where
    one : Seen
    two : Seen
    after : List Seen
    is : front ≡ one ∷ two ∷ after
    no_equals : two.text ≡ codes "=" → ⊥

  two_of : (a : A) (front : List Seen) → Spelled (pat a) front → Two front
  two_of a front s =
      let st = lines.starts a in
      let s' : Spelled (name st.lead ∷ st.next ∷ st.rest) front = subst (λ (ps : List Pattern). Spelled ps front) st.is s in
      split front st.lead st.next st.rest s' st.no_equals
    where
      split : (front : List Seen) (n : Token) (q : Pattern) (due : List Pattern) → Spelled (name n ∷ q ∷ due) front → ((t : Seen) → Fits q t → t.text ≡ codes "=" → ⊥) → Two front
      split [] n q due s h = absurd s
      split (t ∷ []) n q due s h = absurd s.1
      split (t ∷ u ∷ us) n q due s h = record { one = t; two = u; after = us; is = refl; no_equals = h u s.1.0 }

  line_begins_none : (a : A) (front rest : List Seen) → Spelled (pat a) front → begins_section k (front ++ rest) ≡ false
  line_begins_none a front rest s =
      let w = two_of a front s in
      ap (λ (ts : List Seen). begins_section k (ts ++ rest)) w.is ∙ no_equals_no_section k w.one w.two (w.after ++ rest) w.no_equals

  shorter : (ts rest : List Seen) (a : A) → read ts ≡ Ok (a, rest) → length rest < length ts
  shorter ts rest a e =
      let f = item.sound ts rest a e in
      let w = two_of a f.takes.front f.takes.spelled in
      let len : length ts ≡ length f.takes.front + length rest = ap length f.takes.split ∙ length-append f.takes.front rest in
      let front_len : length f.takes.front ≡ 2 + length w.after = ap length w.is ∙ (omega arith) in
      omega (arith, len, front_len)

  -- ---- the tries are enough

  enough : (m n : ℕ) (ts : List Seen) → length ts < m → length ts < n → until_with read k m ts ≡ until_with read k n ts
  unfolding until_with
  enough zero n ts a b = absurd (omega arith)
  enough (suc m) zero ts a b = absurd (omega arith)
  enough (suc m) (suc n) ts a b =
      elim (cases_Bool (begins_section k ts)) [
        | inl e ↦ rw e refl
        | inr e ↦
            elim (outcome (read ts)) [
              | inl x ↦
                  let less = shorter ts x.0.1 x.0.0 x.1 in
                  let same = enough m n x.0.1 (omega arith) (omega arith) in
                  rw (e, x.1, same) refl
              | inr d ↦ rw (e, d.1) refl
            ]
      ]

  abbrev until : List Seen → Read (List A)
  until ts = until_at read k ts

  until_end : (ts : List Seen) → begins_section k ts ≡ true → until ts ≡ Ok ([], drop 2 ts)
  unfolding until_with
  until_end ts e = rw e refl

  abbrev with_first : A → Read (List A) → Read (List A)
  with_first a r = r >>= λ xs. Ok (a ∷ xs.0, xs.1)

  until_line : (ts rest : List Seen) (a : A) → begins_section k ts ≡ false → read ts ≡ Ok (a, rest) → until ts ≡ with_first a (until rest)
  unfolding until_with
  until_line ts rest a e h =
      let less = shorter ts rest a h in
      let same : until_with read k (length ts) rest ≡ until rest = enough (length ts) (suc (length rest)) rest less (omega arith) in
      rw (e, h) (ap (with_first a) same)

  until_refused : (ts : List Seen) (d : Refusal × List Seen) → begins_section k ts ≡ false → read ts ≡ Err d → until ts ≡ Err d
  unfolding until_with
  until_refused ts d e h = rw (e, h) refl

  -- ---- the patterns

  abbrev end : List Pattern
  end = fixed what.Name (keyword_text k) ∷ fixed second (codes "=") ∷ []

  abbrev all : List A → List Pattern
  all xs = lines_until k second pat xs

  all_cons : (a : A) (xs : List A) → all (a ∷ xs) ≡ pat a ++ all xs
  all_cons a xs = append_assoc (pat a) (flat_map pat xs) end

  -- ---- what is read

  found_end : (ts : List Seen) → begins_section k ts ≡ true → Takes (all []) ts (drop 2 ts)
  found_end ts e =
      let b = begun k ts e in
      record {
        front = b.first ∷ b.second ∷ [];
        split = b.is ∙ ap (λ (us : List Seen). b.first ∷ b.second ∷ drop 2 us) (sym b.is);
        spelled = (b.keyword, (b.equals, tt));
      }

  with_first_ok : (a : A) (r : Read (List A)) (y : List A × List Seen) → with_first a r ≡ Ok y → (x : List A × List Seen) × (r ≡ Ok x) × (y.0 ≡ a ∷ x.0) × (y.1 ≡ x.1)
  with_first_ok a (Ok x) y e = let both : ok_of (a ∷ x.0, x.1) ≡ ok_of y = e in let pairs : (a ∷ x.0, x.1) ≡ y = cc in (x, refl, sym (ap (λ p. p.0) pairs), sym (ap (λ p. p.1) pairs))
  with_first_ok a (Err d) y e = absurd cc

  with_first_err : (a : A) (r : Read (List A)) (d : Refusal × List Seen) → with_first a r ≡ Err d → r ≡ Err d
  with_first_err a (Ok x) d e = absurd cc
  with_first_err a (Err c) d e = let both : err_of {B = List A} c ≡ err_of d = e in cc

  takes_line : (ts mid rest : List Seen) (a : A) (xs : List A) → Takes (pat a) ts mid → Takes (all xs) mid rest → Takes (all (a ∷ xs)) ts rest
  takes_line ts mid rest a xs f g = record {
    front = f.front ++ g.front;
    split = f.split ∙ ap (λ (us : List Seen). f.front ++ us) g.split ∙ sym (append_assoc f.front g.front rest);
    spelled = subst (λ (ps : List Pattern). Spelled ps (f.front ++ g.front)) (sym (all_cons a xs)) (spelled_append (pat a) (all xs) f.front g.front f.spelled g.spelled);
  }

  until_sound : (n : ℕ) (ts rest : List Seen) (xs : List A) → length ts < n → until ts ≡ Ok (xs, rest) → Takes (all xs) ts rest
  until_sound zero ts rest xs less e = absurd (omega arith)
  until_sound (suc n) ts rest xs less e =
      elim (cases_Bool (begins_section k ts)) [
        | inl b ↦
            let read_end = until_end ts b in
            let none : [] ≡ xs = same_value [] xs (drop 2 ts) rest (until ts) read_end e in
            let left : drop 2 ts ≡ rest = same_rest [] xs (drop 2 ts) rest (until ts) read_end e in
            subst (λ (us : List Seen). Takes (all xs) ts us) left (subst (λ (ys : List A). Takes (all ys) ts (drop 2 ts)) none (found_end ts b))
        | inr b ↦
            elim (outcome (read ts)) [
              | inl x ↦
                  let f = item.sound ts x.0.1 x.0.0 x.1 in
                  let y = with_first_ok x.0.0 (until x.0.1) (xs, rest) (sym (until_line ts x.0.1 x.0.0 b x.1) ∙ e) in
                  let shorter_mid = shorter ts x.0.1 x.0.0 x.1 in
                  let g = until_sound n x.0.1 y.0.1 y.0.0 (omega arith) y.1 in
                  let t = takes_line ts x.0.1 y.0.1 x.0.0 y.0.0 f.takes g in
                  subst (λ (us : List Seen). Takes (all xs) ts us) (sym y.3) (subst (λ (ys : List A). Takes (all ys) ts y.0.1) (sym y.2) t)
              | inr d ↦ let stopped = until_refused ts d.0 b d.1 in absurd (let both : err_of {B = List A} d.0 ≡ ok_of (xs, rest) = sym stopped ∙ e in cc)
            ]
      ]

  -- ---- what is spelled is read

  until_whole : (xs : List A) (front rest : List Seen) → Spelled (all xs) front → until (front ++ rest) ≡ Ok (xs, rest)
  until_whole [] [] rest s = absurd s
  until_whole [] (t ∷ []) rest s = absurd s.1
  until_whole [] (t ∷ u ∷ []) rest s = until_end (t ∷ u ∷ rest) (begins k t u rest s.0 s.1.0)
  until_whole [] (t ∷ u ∷ v ∷ us) rest s = absurd s.1.1
  until_whole (a ∷ xs) front rest s =
      let p = divided (pat a) (all xs) front (subst (λ (ps : List Pattern). Spelled ps front) (all_cons a xs) s) in
      let e : front ++ rest ≡ p.front ++ (p.back ++ rest) = ap (λ (us : List Seen). us ++ rest) p.split ∙ append_assoc p.front p.back rest in
      let w = item.whole a p.front (p.back ++ rest) tt p.first in
      let others = until_whole xs p.back rest p.second in
      ap until e ∙ until_line (p.front ++ (p.back ++ rest)) (p.back ++ rest) a (line_begins_none a p.front (p.back ++ rest) p.first) w ∙ ap (with_first a) others

  token_zero : Token
  token_zero = record { start = 0; end = 0; line = 0 }

  abbrev closing : List Seen
  closing = record { token = token_zero; text = keyword_text k } ∷ record { token = token_zero; text = codes "=" } ∷ []

  until_some : Example every all
  until_some = record { value = []; tokens = closing; valid = tt; spelled = (refl, (refl, tt)) }

  -- ---- where reading stops

  -- a token that is refused as a line's first is no keyword
  refused_first : (t : Seen) (r : Refusal) → ((other : List Seen) → read (t ∷ other) ≡ Err (r, t ∷ other)) → t.text ≡ keyword_text k → ⊥
  refused_first t r stopped e =
      let x = lines.any t.token in
      let is_a_name : is_name t.text ≡ true = ap is_name e ∙ keyword_is_name k in
      let fits : Spelled (name x.start.lead ∷ x.start.next ∷ x.start.rest) (t ∷ x.more) = ((is_a_name, sym x.lead), x.spelled) in
      let s : Spelled (pat x.value) (t ∷ x.more) = subst (λ (ps : List Pattern). Spelled ps (t ∷ x.more)) (sym x.start.is) fits in
      let w : read (t ∷ x.more) ≡ Ok (x.value, []) = ap (λ (ts : List Seen). read (t ∷ ts)) (sym (append-nil x.more)) ∙ item.whole x.value (t ∷ x.more) [] tt s in
      let both : ok_of (x.value, []) ≡ err_of (r, t ∷ x.more) = sym w ∙ stopped x.more in
      let bad : ⊥ = cc in bad

  -- no section begins there either, whatever follows the refused token
  still_none : (front : List Seen) (t : Seen) (us other : List Seen) (r : Refusal) → begins_section k (front ++ t ∷ us) ≡ false → ((other : List Seen) → read (front ++ t ∷ other) ≡ Err (r, t ∷ other)) → begins_section k (front ++ t ∷ other) ≡ false
  still_none [] t us other r b stopped = no_keyword_no_section k t other (refused_first t r stopped)
  still_none (u ∷ []) t us other r b stopped = b
  still_none (u ∷ v ∷ front) t us other r b stopped = b

  stops_in_line : (ts : List Seen) (r : Refusal) (left : List Seen) → begins_section k ts ≡ false → Stops every pat read ts r left → Stops every all until ts r left
  stops_in_line ts r left b s =
      let one : all (s.value ∷ []) ≡ (s.done ++ s.next ∷ s.due) ++ end = all_cons s.value [] ∙ ap (λ (ps : List Pattern). ps ++ end) s.patterns in
      record {
        front = s.front;
        split = s.split;
        value = s.value ∷ [];
        valid = tt;
        done = s.done;
        next = s.next;
        due = s.due ++ end;
        patterns = one ∙ append_assoc s.done (s.next ∷ s.due) end;
        spelled = s.spelled;
        more = s.more ++ closing;
        goes_on = spelled_append (s.next ∷ s.due) end s.more closing s.goes_on (refl, (refl, tt));
        is = s.is;
        again = λ t us other e.
            let here : begins_section k (s.front ++ t ∷ us) ≡ false = ap (begins_section k) (sym (s.split ∙ ap (λ (vs : List Seen). s.front ++ vs) e)) ∙ b in
            let none = still_none s.front t us other r here (λ more. s.again t us more e) in
            until_refused (s.front ++ t ∷ other) (r, t ∷ other) none (s.again t us other e);
      }

  stops_after_line : (ts mid : List Seen) (a : A) (r : Refusal) (left : List Seen) → Takes (pat a) ts mid → Stops every all until mid r left → Stops every all until ts r left
  stops_after_line ts mid a r left f s = record {
    front = f.front ++ s.front;
    split = f.split ∙ ap (λ (us : List Seen). f.front ++ us) s.split ∙ sym (append_assoc f.front s.front left);
    value = a ∷ s.value;
    valid = tt;
    done = pat a ++ s.done;
    next = s.next;
    due = s.due;
    patterns = all_cons a s.value ∙ ap (λ (ps : List Pattern). pat a ++ ps) s.patterns ∙ sym (append_assoc (pat a) s.done (s.next ∷ s.due));
    spelled = spelled_append (pat a) s.done f.front s.front f.spelled s.spelled;
    more = s.more;
    goes_on = s.goes_on;
    is = s.is;
    again = λ t us other e.
        let whole_line = item.whole a f.front (s.front ++ t ∷ other) tt f.spelled in
        ap until (append_assoc f.front s.front (t ∷ other))
        ∙ until_line (f.front ++ (s.front ++ t ∷ other)) (s.front ++ t ∷ other) a (line_begins_none a f.front (s.front ++ t ∷ other) f.spelled) whole_line
        ∙ ap (with_first a) (s.again t us other e);
  }

  until_stops : (n : ℕ) (ts : List Seen) (r : Refusal) (left : List Seen) → length ts < n → until ts ≡ Err (r, left) → Stops every all until ts r left
  until_stops zero ts r left less e = absurd (omega arith)
  until_stops (suc n) ts r left less e =
      elim (cases_Bool (begins_section k ts)) [
        | inl b ↦ absurd (let both : ok_of ([], drop 2 ts) ≡ err_of (r, left) = sym (until_end ts b) ∙ e in cc)
        | inr b ↦
            elim (outcome (read ts)) [
              | inl x ↦
                  let f = item.sound ts x.0.1 x.0.0 x.1 in
                  let d = with_first_err x.0.0 (until x.0.1) (r, left) (sym (until_line ts x.0.1 x.0.0 b x.1) ∙ e) in
                  let shorter_mid = shorter ts x.0.1 x.0.0 x.1 in
                  stops_after_line ts x.0.1 x.0.0 r left f.takes (until_stops n x.0.1 r left (omega arith) d)
              | inr d ↦
                  let both : err_of {B = List A} d.0 ≡ err_of (r, left) = sym (until_refused ts d.0 b d.1) ∙ e in
                  let same : d.0 ≡ (r, left) = cc in
                  let stopped : read ts ≡ Err (r, left) = d.1 ∙ ap err_of same in
                  stops_in_line ts r left b (item.stops ts r left stopped)
            ]
      ]

  -- ---- tokens that end within a line

  -- no token, or a name alone, stops where a line's next token is due
  empty_stops : until [] ≡ Err (Due what.Name, [])
  empty_stops =
      let x = item.some in
      let st = lines.starts x.value in
      let s : Spelled (name st.lead ∷ st.next ∷ st.rest) x.tokens = subst (λ (ps : List Pattern). Spelled ps x.tokens) st.is x.spelled in
      until_refused [] (Due what.Name, []) refl (item.ends x.value [] (st.next ∷ st.rest) (name st.lead) [] x.tokens tt st.is tt s)

  lone_stops : (t : Seen) → t.text ≡ keyword_text k → until (t ∷ []) ≡ Err (Due second, [])
  lone_stops t e =
      let x = lines.any t.token in
      let is_a_name : is_name t.text ≡ true = ap is_name e ∙ keyword_is_name k in
      let stopped = item.ends x.value (name x.start.lead ∷ []) x.start.rest x.start.next (t ∷ []) x.more tt x.start.is ((is_a_name, sym x.lead), tt) x.spelled in
      until_refused (t ∷ []) (Due second, []) refl (stopped ∙ ap (λ (w : What). err_of (Due w, [])) x.start.labelled)

  -- the first tokens of a line begin no section
  front_begins_none : (a : A) (done rest : List Pattern) (p : Pattern) (front : List Seen) → pat a ≡ done ++ p ∷ rest → Spelled done front → begins_section k front ≡ false
  front_begins_none a done rest p [] e s = refl
  front_begins_none a done rest p (t ∷ []) e s = refl
  front_begins_none a [] rest p (t ∷ u ∷ us) e s = absurd s
  front_begins_none a (d ∷ []) rest p (t ∷ u ∷ us) e s = absurd s.1
  front_begins_none a (d ∷ c ∷ done) rest p (t ∷ u ∷ us) e s =
      let st = lines.starts a in
      let both : name st.lead ∷ st.next ∷ st.rest ≡ d ∷ c ∷ (done ++ p ∷ rest) = sym st.is ∙ e in
      let tails : st.next ∷ st.rest ≡ c ∷ (done ++ p ∷ rest) = cc in
      let same : st.next ≡ c = cc in
      no_equals_no_section k t u us (st.no_equals u (subst (λ (q : Pattern). Fits q u) (sym same) s.1.0))

  until_ends : (xs : List A) (done due : List Pattern) (p : Pattern) (front more : List Seen) → all xs ≡ done ++ p ∷ due → Spelled done front → Spelled (p ∷ due) more → until front ≡ Err (Due (label p), [])
  until_ends [] [] due p [] more e s m =
      let same : fixed what.Name (keyword_text k) ≡ p = cc in
      empty_stops ∙ ap (λ (q : Pattern). err_of (Due (label q), [])) same
  until_ends [] [] due p (t ∷ ts) more e s m = absurd s
  until_ends [] (d ∷ []) due p [] more e s m = absurd s
  until_ends [] (d ∷ []) due p (t ∷ []) more e s m =
      let tails : fixed second (codes "=") ∷ [] ≡ p ∷ due = cc in
      let same : fixed second (codes "=") ≡ p = cc in
      let first : fixed what.Name (keyword_text k) ≡ d = cc in
      let text : t.text ≡ keyword_text k = subst (λ (q : Pattern). Fits q t) (sym first) s.0 in
      lone_stops t text ∙ ap (λ (q : Pattern). err_of (Due (label q), [])) same
  until_ends [] (d ∷ []) due p (t ∷ u ∷ us) more e s m = absurd s.1
  until_ends [] (d ∷ c ∷ done) due p front more e s m = absurd (let tails : [] ≡ done ++ p ∷ due = cc in nothing_due done due p tails)
  until_ends (a ∷ xs) done due p front more e s m =
      elim (cut (pat a) (all xs) done due p (sym (all_cons a xs) ∙ e)) [
        | inl c ↦
            let m' : Spelled ((p ∷ c.rest) ++ all xs) more = subst (λ (ps : List Pattern). Spelled (p ∷ ps) more) c.after m in
            let q = divided (p ∷ c.rest) (all xs) more m' in
            until_refused front (Due (label p), []) (front_begins_none a done c.rest p front c.position s) (item.ends a done c.rest p front q.front tt c.position s q.first)
        | inr c ↦
            let q = divided (pat a) c.before front (subst (λ (ps : List Pattern). Spelled ps front) c.passed s) in
            let w = item.whole a q.front q.back tt q.first in
            let others = until_ends xs c.before due p q.back more c.position q.second m in
            ap until q.split ∙ until_line (q.front ++ q.back) q.back a (line_begins_none a q.front q.back q.first) w ∙ ap (with_first a) others
      ]

  pub until_reader : Reader every all until
  until_reader = record {
    sound = λ ts rest xs e. record { valid = tt; takes = until_sound (suc (length ts)) ts rest xs (omega arith) e };
    whole = λ xs front rest v s. until_whole xs front rest s;
    some = until_some;
    stops = λ ts r left e. until_stops (suc (length ts)) ts r left (omega arith) e;
    ends = λ xs done due p front more v e s m. until_ends xs done due p front more e s m;
  }
