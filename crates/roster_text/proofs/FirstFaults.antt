-- Reading a bundle finds the one that is spelled, or the first fault.
use Rattle.std.proofs.Common.{◌≡◌, ◌≢◌, ◌⊎◌, inl, inr, ℕ, Bool, true, false, cond, List, [], ◌∷◌, ◌++◌, Result, Ok, Err, refl, sym, ap, subst, ◌∙◌, append_assoc, ◌&&◌}
use Rattle.std.specs.Prelude.{MatchResult, IfOk, IfErr}
use Rattle.std.proofs.lemmas.List.{append-nil}
use Rattle.roster_bundle.specs.declared.bundle.Bundle.{Bundle}
use Rattle.roster_text.specs.declared.fault.TextFault.{TextFault}
use Rattle.roster_text.specs.declared.fault.TextFault.TheVariants as fault
use Rattle.roster_text.specs.declared.fault.What.{What}
use Rattle.roster_text.specs.declared.parser.Refusal.{Refusal}
use Rattle.roster_text.specs.declared.parser.Refusal.TheVariants.{Due, OutOfRange}
use Rattle.roster_bundle.specs.Token.{Seen}
use Rattle.roster_text.specs.Grammar.{Pattern, Spelled, Spells, label, bundle, is_number}
use Rattle.roster_text.specs.FirstFault.{GoesOn, AreDue, StopsBefore, wants_number, fault_at, IsFirstFault}
use Rattle.roster_text.specs.Reading.{Read, bundle_at, line_of_first, fault_of, whole_of, GivesUnlessMemory}
use Rattle.roster_text.proofs.Spelling.{spelled_append}
use Rattle.roster_text.proofs.Readers.{Stops, refusal, same_value, same_rest}
use Rattle.roster_text.proofs.GrammarReaders.{Counted, bundle_reader}

counted : (ts : List Seen) (b : Bundle) → Spells ts b → Counted b
counted ts b s = record { history_lines = s.history_lines; week_data_parts = s.week_data_parts; solution_parts = s.solution_parts }

spells : (ts : List Seen) (b : Bundle) → Counted b → Spelled (bundle b) ts → Spells ts b
spells ts b c s = record { fits = s; history_lines = c.history_lines; week_data_parts = c.week_data_parts; solution_parts = c.solution_parts }

-- ---- what is spelled is read

pub read_whole : (ts rest : List Seen) (b : Bundle) → Spells ts b → bundle_at (ts ++ rest) ≡ Ok (b, rest)
read_whole ts rest b s = bundle_reader.whole b ts rest (counted ts b s) s.fits

pub read_all_of : (ts : List Seen) (b : Bundle) → Spells ts b → bundle_at ts ≡ Ok (b, [])
read_all_of ts b s = ap bundle_at (sym (append-nil ts)) ∙ read_whole ts [] b s

-- a list of tokens spells one bundle at most
pub one_spelled : (ts : List Seen) (b c : Bundle) → Spells ts b → Spells ts c → b ≡ c
one_spelled ts b c s t = same_value b c [] [] (bundle_at ts) (read_all_of ts b s) (read_all_of ts c t)

-- ---- what is read is spelled

pub read_spelled : (ts : List Seen) (b : Bundle) → bundle_at ts ≡ Ok (b, []) → Spells ts b
read_spelled ts b e =
    let f = bundle_reader.sound ts [] b e in
    spells ts b f.valid (subst (λ (us : List Seen). Spelled (bundle b) us) (sym (f.takes.split ∙ append-nil f.takes.front)) f.takes.spelled)

-- ---- the first fault

abbrev ok_of : Bundle × List Seen → Read Bundle
ok_of x = Ok x

abbrev err_of : Refusal × List Seen → Read Bundle
err_of x = Err x

never : (x : Bundle × List Seen) (d : Refusal × List Seen) (r : Read Bundle) → r ≡ Ok x → r ≡ Err d → ⊥
never x d r e f = let both : ok_of x ≡ err_of d = sym e ∙ f in cc

regrouped : (front more : List Seen) (t : Seen) → (front ++ t ∷ []) ++ more ≡ front ++ t ∷ more
regrouped front more t = append_assoc front (t ∷ []) more

-- tokens that some more tokens complete to a bundle are read, with these, as that bundle
goes_on_read : (front : List Seen) (t : Seen) (g : GoesOn (front ++ t ∷ [])) → bundle_at (front ++ t ∷ g.more) ≡ Ok (g.value, [])
goes_on_read front t g = ap bundle_at (sym (regrouped front g.more t)) ∙ read_all_of ((front ++ t ∷ []) ++ g.more) g.value g.spells

-- tokens after the end
after_end : (end : ℕ) (ts : List Seen) (b : Bundle) (t : Seen) (us : List Seen) → bundle_at ts ≡ Ok (b, t ∷ us) → IsFirstFault end ts (fault.AfterEnd t.token.line)
after_end end ts b t us e =
    let f = bundle_reader.sound ts (t ∷ us) b e in
    let front = f.takes.front in
    let s : Spells front b = spells front b f.valid f.takes.spelled in
    record {
      front = front;
      rest = t ∷ us;
      due = [];
      split = f.takes.split;
      goes_on = record {
        more = [];
        value = b;
        spells = subst (λ (vs : List Seen). Spells vs b) (sym (append-nil front)) s;
        passed = bundle b;
        patterns = sym (append-nil (bundle b));
        front_fits = f.takes.spelled;
        more_fits = tt;
      };
      stops = λ g.
          let left : t ∷ g.more ≡ [] = same_rest b g.value (t ∷ g.more) [] (bundle_at (front ++ t ∷ g.more)) (read_whole front (t ∷ g.more) b s) (goes_on_read front t g) in
          cc left;
      is = refl;
    }

stops_before : (ts : List Seen) (r : Refusal) (left : List Seen) → bundle_at ts ≡ Err (r, left) → (s : Stops Counted bundle bundle_at ts r left) → StopsBefore s.front left
stops_before ts r [] e s = λ b spelled.
    never (b, []) (r, []) (bundle_at ts) (ap bundle_at (s.split ∙ append-nil s.front) ∙ read_all_of s.front b spelled) e
stops_before ts r (t ∷ us) e s = λ g.
    never (g.value, []) (r, t ∷ g.more) (bundle_at (s.front ++ t ∷ g.more)) (goes_on_read s.front t g) (s.again t us g.more refl)

fault_is : (end : ℕ) (p : Pattern) (due : List Pattern) (r : Refusal) (left : List Seen) → r ≡ refusal p left → fault_of r (line_of_first end left) ≡ fault_at end (p ∷ due) left
fault_is end p due r [] e = ap (λ (w : Refusal). fault_of w end) e
fault_is end p due r (t ∷ us) e = ap (λ (w : Refusal). fault_of w t.token.line) e ∙ by_test (wants_number (label p) && is_number t.text)
  where
    by_test : (b : Bool) → fault_of (cond b OutOfRange (Due (label p))) t.token.line ≡ cond b (fault.NumberRange t.token.line) (fault.Expected t.token.line (label p))
    by_test true = refl
    by_test false = refl

stopped : (end : ℕ) (ts : List Seen) (r : Refusal) (left : List Seen) → bundle_at ts ≡ Err (r, left) → IsFirstFault end ts (fault_of r (line_of_first end left))
stopped end ts r left e =
    let s = bundle_reader.stops ts r left e in
    let all : Spelled (bundle s.value) (s.front ++ s.more) = subst (λ (ps : List Pattern). Spelled ps (s.front ++ s.more)) (sym s.patterns) (spelled_append s.done (s.next ∷ s.due) s.front s.more s.spelled s.goes_on) in
    record {
      front = s.front;
      rest = left;
      due = s.next ∷ s.due;
      split = s.split;
      goes_on = record { more = s.more; value = s.value; spells = spells (s.front ++ s.more) s.value s.valid all; passed = s.done; patterns = s.patterns; front_fits = s.spelled; more_fits = s.goes_on };
      stops = stops_before ts r left e s;
      is = fault_is end s.next s.due r left s.is;
    }

-- ---- the three clauses of `parse_bundle`

outcome : (r : Read Bundle) → ((x : Bundle × List Seen) × (r ≡ Ok x)) ⊎ ((d : Refusal × List Seen) × (r ≡ Err d))
outcome (Ok x) = inl (x, refl)
outcome (Err d) = inr (d, refl)

-- what reading all tokens gives
pub data Answer (end : ℕ) (ts : List Seen) : Type 0 where
  read : (b : Bundle) → Spells ts b → whole_of end (bundle_at ts) ≡ Ok b → Answer end ts
  refused : (f : TextFault) → IsFirstFault end ts f → whole_of end (bundle_at ts) ≡ Err f → Answer end ts

after : (end : ℕ) (ts : List Seen) (b : Bundle) (left : List Seen) → bundle_at ts ≡ Ok (b, left) → Answer end ts
after end ts b [] e = read b (read_spelled ts b e) (ap (whole_of end) e)
after end ts b (t ∷ us) e = refused (fault.AfterEnd t.token.line) (after_end end ts b t us e) (ap (whole_of end) e)

pub answer : (end : ℕ) (ts : List Seen) → Answer end ts
answer end ts =
    elim (outcome (bundle_at ts)) [
      | inl x ↦ after end ts x.0.0 x.0.1 x.1
      | inr d ↦ refused (fault_of d.0.0 (line_of_first end d.0.1)) (stopped end ts d.0.0 d.0.1 d.1) (ap (whole_of end) d.1)
    ]

unless_memory : (r given : Result Bundle TextFault) → GivesUnlessMemory r given → (r ≡ Err fault.Memory) ⊎ (r ≡ given)
unless_memory (Ok b) given e = inr e
unless_memory (Err fault.Memory) given e = inl refl
unless_memory (Err fault.ReadFailed) given e = inr e
unless_memory (Err fault.TooLong) given e = inr e
unless_memory (Err (fault.Expected line w)) given e = inr e
unless_memory (Err (fault.NumberRange line)) given e = inr e
unless_memory (Err (fault.AfterEnd line)) given e = inr e

abbrev fault_result : TextFault → Result Bundle TextFault
fault_result f = Err f

abbrev bundle_result : Bundle → Result Bundle TextFault
bundle_result b = Ok b

-- the result is the bundle that is spelled, unless memory ran out
abbrev pub IsReadAs : Result Bundle TextFault → Bundle → Type 0
IsReadAs r b = MatchResult r (λ c. c ≡ b) (λ f. f ≡ fault.Memory)

module _ (end : ℕ) (ts : List Seen) (r : Result Bundle TextFault) (given : GivesUnlessMemory r (whole_of end (bundle_at ts))) where
  pub is_spelled : IfOk r (Spells ts)
  is_spelled =
      elim (unless_memory r (whole_of end (bundle_at ts)) given) [
        | inl e ↦ subst (λ (x : Result Bundle TextFault). IfOk x (Spells ts)) (sym e) tt
        | inr e ↦ subst (λ (x : Result Bundle TextFault). IfOk x (Spells ts)) (sym e) (by_answer (answer end ts))
      ]
    where
      by_answer : Answer end ts → IfOk (whole_of end (bundle_at ts)) (Spells ts)
      by_answer (read b s e) = subst (λ (x : Result Bundle TextFault). IfOk x (Spells ts)) (sym e) s
      by_answer (refused f i e) = subst (λ (x : Result Bundle TextFault). IfOk x (Spells ts)) (sym e) tt

  pub is_accepted : (b : Bundle) → Spells ts b → IsReadAs r b
  is_accepted b s =
      let all : whole_of end (bundle_at ts) ≡ Ok b = ap (whole_of end) (read_all_of ts b s) in
      elim (unless_memory r (whole_of end (bundle_at ts)) given) [
        | inl e ↦ subst (λ (x : Result Bundle TextFault). IsReadAs x b) (sym e) refl
        | inr e ↦ subst (λ (x : Result Bundle TextFault). IsReadAs x b) (sym (e ∙ all)) refl
      ]

  abbrev pub IsRefused : Result Bundle TextFault → Type 0
  IsRefused x = IfErr x (λ f. f ≢ fault.Memory → IsFirstFault end ts f)

  pub is_refused : IsRefused r
  is_refused =
      elim (unless_memory r (whole_of end (bundle_at ts)) given) [
        | inl e ↦ subst IsRefused (sym e) (λ other. absurd (other refl))
        | inr e ↦ subst IsRefused (sym e) (by_answer (answer end ts))
      ]
    where
      by_answer : Answer end ts → IsRefused (whole_of end (bundle_at ts))
      by_answer (read b s e) = subst IsRefused (sym e) tt
      by_answer (refused f i e) = subst IsRefused (sym e) (λ other. i)

-- ---- there is only one first fault

-- two ways to cut a list
data Cuts (a b c d : List Seen) : Type 0 where
  same : a ≡ c → b ≡ d → Cuts a b c d
  earlier : (t : Seen) (x rest : List Seen) → c ≡ a ++ t ∷ x → b ≡ t ∷ rest → Cuts a b c d
  later : (t : Seen) (x rest : List Seen) → a ≡ c ++ t ∷ x → d ≡ t ∷ rest → Cuts a b c d

cuts : (a b c d : List Seen) → a ++ b ≡ c ++ d → Cuts a b c d
cuts [] b [] d e = same refl e
cuts [] b (t ∷ c) d e = earlier t c (c ++ d) refl e
cuts (t ∷ a) b [] d e = later t a (a ++ b) refl (sym e)
cuts (t ∷ a) b (u ∷ c) d e =
    let heads : t ≡ u = cc in
    let tails : a ++ b ≡ c ++ d = cc in
    go (cuts a b c d tails) heads
  where
    go : Cuts a b c d → t ≡ u → Cuts (t ∷ a) b (u ∷ c) d
    go (same p q) h = same (cc) q
    go (earlier v x rest p q) h = earlier v x rest (cc) q
    go (later v x rest p q) h = later v x rest (cc) q

due_goes_on : (front : List Seen) (due : List Pattern) → AreDue front due → (c : List Seen) (t : Seen) (x : List Seen) → front ≡ c ++ t ∷ x → GoesOn (c ++ t ∷ [])
due_goes_on front due d c t x e = record {
  more = x ++ d.more;
  value = d.value;
  spells = subst (λ (ts : List Seen). Spells ts d.value) (ap (λ (ts : List Seen). ts ++ d.more) e ∙ append_assoc c (t ∷ x) d.more ∙ sym (regrouped c (x ++ d.more) t)) d.spells;
}

not_before : (a b : List Seen) (t : Seen) (rest : List Seen) → b ≡ t ∷ rest → StopsBefore a b → GoesOn (a ++ t ∷ []) → ⊥
not_before a [] t rest e stops g = cc e
not_before a (u ∷ us) t rest e stops g = let same : t ≡ u = sym cc in stops (subst (λ (v : Seen). GoesOn (a ++ v ∷ [])) same g)

-- a list of tokens after which something is due is refused at its end
due_stops : (front : List Seen) (p : Pattern) (due : List Pattern) → AreDue front (p ∷ due) → bundle_at front ≡ Err (Due (label p), [])
due_stops front p due d = bundle_reader.ends d.value d.passed due p front d.more (counted (front ++ d.more) d.value d.spells) d.patterns d.front_fits d.more_fits

-- if nothing is due after these tokens, they spell a bundle
none_due : (front : List Seen) → (d : AreDue front []) → bundle_at front ≡ Ok (d.value, [])
none_due front d =
    let all : bundle d.value ≡ d.passed = d.patterns ∙ append-nil d.passed in
    let s : Spelled (bundle d.value) front = subst (λ (ps : List Pattern). Spelled ps front) (sym all) d.front_fits in
    read_all_of front d.value (spells front d.value (counted (front ++ d.more) d.value d.spells) s)

same_stop : (c d : Refusal × List Seen) → err_of c ≡ err_of d → c ≡ d
same_stop c d e = cc

same_due : (v w : What) → Due v ≡ Due w → v ≡ w
same_due v w e = cc

same_label : (front : List Seen) (p q : Pattern) (due others : List Pattern) → AreDue front (p ∷ due) → AreDue front (q ∷ others) → label p ≡ label q
same_label front p q due others d e =
    let both : err_of (Due (label p), []) ≡ err_of (Due (label q), []) = sym (due_stops front p due d) ∙ due_stops front q others e in
    same_due (label p) (label q) (ap (λ (x : Refusal × List Seen). x.0) (same_stop (Due (label p), []) (Due (label q), []) both))

by_label : (end : ℕ) (p q : Pattern) (due others : List Pattern) (rest : List Seen) → label p ≡ label q → fault_at end (p ∷ due) rest ≡ fault_at end (q ∷ others) rest
by_label end p q due others [] e = ap (λ (w : What). fault.Expected end w) e
by_label end p q due others (t ∷ ts) e = ap (λ (w : What). cond (wants_number w && is_number t.text) (fault.NumberRange t.token.line) (fault.Expected t.token.line w)) e

same_fault : (end : ℕ) (front rest : List Seen) (due others : List Pattern) → AreDue front due → AreDue front others → fault_at end due rest ≡ fault_at end others rest
same_fault end front rest [] [] d e = refl
same_fault end front rest [] (q ∷ others) d e = absurd (never (d.value, []) (Due (label q), []) (bundle_at front) (none_due front d) (due_stops front q others e))
same_fault end front rest (p ∷ due) [] d e = absurd (never (e.value, []) (Due (label p), []) (bundle_at front) (none_due front e) (due_stops front p due d))
same_fault end front rest (p ∷ due) (q ∷ others) d e = by_label end p q due others rest (same_label front p q due others d e)

-- a list of tokens has one first fault
pub one_fault : (end : ℕ) (ts : List Seen) (f g : TextFault) → IsFirstFault end ts f → IsFirstFault end ts g → f ≡ g
one_fault end ts f g x y = by_cuts (cuts x.front x.rest y.front y.rest (sym x.split ∙ y.split))
  where
    by_cuts : Cuts x.front x.rest y.front y.rest → f ≡ g
    by_cuts (same p q) =
        let d : AreDue y.front x.due = subst (λ (ts : List Seen). AreDue ts x.due) p x.goes_on in
        x.is ∙ ap (fault_at end x.due) q ∙ same_fault end y.front y.rest x.due y.due d y.goes_on ∙ sym y.is
    by_cuts (earlier t z rest p q) = absurd (not_before x.front x.rest t rest q x.stops (due_goes_on y.front y.due y.goes_on x.front t z p))
    by_cuts (later t z rest p q) = absurd (not_before y.front y.rest t rest q y.stops (due_goes_on x.front x.due x.goes_on y.front t z p))

-- what holds of each spelled bundle holds of one that was read
pub of_spelled : (P : Bundle → Type 0) (ts : List Seen) (r : Result Bundle TextFault) → ((b : Bundle) → Spells ts b → P b) → IfOk r (Spells ts) → IfOk r P
of_spelled P ts (Ok b) holds s = holds b s
of_spelled P ts (Err f) holds s = tt
