-- How `who` ends.
use Rattle.std.proofs.Common.{◌≡◌, ◌∙◌, ◌+◌, ◌<◌, ◌≤◌, ◌++◌, ◌∷◌, [], ℕ, Bool, List, None, Option, Result, Some, ap, append-nil, arith, drop, flat_map, get_or, length, option_map, option_to_list, refl, subst, suc, sym, take, zero}
use Rattle.std.specs.List.{All, range_with_len}
use Rattle.std.proofs.lemmas.List.Elements.{All-append, All-cons, All-nil}
use Rattle.std.proofs.lemmas.List.Sorted.{All-permutation}
use Rattle.std.proofs.lemmas.List.{take-append-drop, take_more}
use Rattle.std.proofs.lemmas.List.Concat.{flat_map-append}
use Rattle.std.specs.Borrow.{Bor}
use Rattle.std.specs.Prelude.{IfErr, OnOk}
use Rattle.roster_text.specs.Io.{Writes}
use Rattle.roster_instance.specs.Meaning.{Meaning, nurse_count}
use Rattle.roster_instance.specs.Rosters.{Row, Rows}
use Rattle.roster_costs.specs.Irreparable.{irreparable}
use Rattle.roster_reports.specs.Lines.{Text}
use Rattle.roster_who.specs.Who.{AreInOrder, missed, taker, taker_by, takers, taking_row, without_absent_work}
use Rattle.roster_who.specs.declared.asked.Asked.{Asked}
use Rattle.roster_who.specs.declared.taker.Taker.{Taker}
use Rattle.roster_who.proofs.OrderLemmas.{some_order}
use Rattle.roster_answers.specs.Answer.{AskedNames, EndsBy, IsWhoReport, Output, Report, StopsOutput, Untouched, asked_by, outcome_of, unknown_asked, who_report, who_text}
use Rattle.roster_answers.specs.Lines.{IsFirstBreach}
use Rattle.roster_answers.specs.declared.fault.Fault.{Fault}
use Rattle.roster_answers.specs.declared.fault.Fault.TheVariants as fault
use Rattle.roster_answers.specs.declared.fault.Thing.{Thing}
use Rattle.roster_answers.proofs.AnswerLemmas.{written_ends}

module _ {W : Type 0} (names : AskedNames) (from : ℕ) (json : Bool) (c : Meaning) (r : Rows) (output : Output W) where
  abbrev all : List Taker
  all = takers c from (without_absent_work c r) (asked_by c names)

  abbrev report : List Taker → Report
  report listed = who_report names from json listed c r

  is_report : (listed : List Taker) → AreInOrder all listed → IsWhoReport names from json c r (report listed)
  is_report listed are = record { listed = listed; in_order = are; is = refl }

  -- some order, if no line is printed
  some : (listed : List Taker) × AreInOrder all listed
  some = some_order all

  pub who_refused : (f : Fault) → IsFirstBreach c (irreparable c from r) f → Untouched output → EndsBy output (IsWhoReport names from json c r) c (Some f)
  who_refused (fault.Hard f d) h same = record { report = report some.0; is = is_report some.0 some.1; ends = record { ends = h; left = same } }
  who_refused (fault.Text f) h same = absurd h
  who_refused (fault.Case f nurse) h same = absurd h
  who_refused (fault.Unfound f d) h same = absurd h
  who_refused (fault.Unknown thing name) h same = absurd h
  who_refused fault.Memory h same = absurd h
  who_refused fault.Workspace h same = absurd h
  who_refused fault.Output h same = absurd h
  who_refused fault.Log h same = absurd h

  module _ (kept : irreparable c from r ≡ []) where
    pub who_unknown : (thing : Thing) (name : Bor Text) → unknown_asked c names ≡ Some (thing, name.now) → Untouched output → EndsBy output (IsWhoReport names from json c r) c (Some (fault.Unknown thing name))
    who_unknown thing name unknown same = record { report = report some.0; is = is_report some.0 some.1; ends = record { ends = (kept, unknown); left = same } }

    module _ (known : unknown_asked c names ≡ None) where
      pub who_without_memory : Untouched output → EndsBy output (IsWhoReport names from json c r) c (Some fault.Workspace)
      who_without_memory same = record { report = report some.0; is = is_report some.0 some.1; ends = record { ends = (kept, known, refl); left = same } }

      pub who_written : {X : Type 0} (listed : List Taker) → AreInOrder all listed → (before : ℕ) → before ≡ missed c (without_absent_work c r) → (result : Result X Fault)
          → OnOk result (Writes output.contents output.before output.after (who_text c json before listed)) → IfErr result (StopsOutput output.contents output.before output.after (who_text c json before listed))
          → EndsBy output (IsWhoReport names from json c r) c (outcome_of result)
      who_written listed are before is result ok err = record {
        report = report listed;
        is = is_report listed are;
        ends = written_ends output (report listed) c result (record { kept = kept; found = refl; known = known })
            (subst (λ m. OnOk result (Writes output.contents output.before output.after (who_text c json m listed))) is ok)
            (subst (λ m. IfErr result (StopsOutput output.contents output.before output.after (who_text c json m listed))) is err);
      }

-- some report, if none is written
pub some_who : (names : AskedNames) (from : ℕ) (json : Bool) (c : Meaning) (r : Rows) → (p : Report) × IsWhoReport names from json c r p
some_who names from json c r =
    let some = some_order (takers c from (without_absent_work c r) (asked_by c names)) in
    (who_report names from json some.0 c r, record { listed = some.0; in_order = some.1; is = refl })

-- ---- the lines, one after another

module _ (f : Taker → Text) (xs : List Taker) (i : ℕ) (d : Taker) (inside : i < length xs) where
  pub lines_more : flat_map f (take (i + 1) xs) ≡ flat_map f (take i xs) ++ f (get_or xs i d)
  lines_more = ap (flat_map f) (take_more xs i d inside) ∙ flat_map-append f (take i xs) (get_or xs i d ∷ []) ∙ ap (λ l. flat_map f (take i xs) ++ l) (append-nil (f (get_or xs i d)))

  pub lines_split : flat_map f xs ≡ (flat_map f (take i xs) ++ f (get_or xs i d)) ++ flat_map f (drop (i + 1) xs)
  lines_split = ap (flat_map f) (sym (take-append-drop (i + 1) xs)) ∙ flat_map-append f (take (i + 1) xs) (drop (i + 1) xs) ∙ ap (λ l. l ++ flat_map f (drop (i + 1) xs)) lines_more

-- ---- each nurse who is listed is a nurse of the case

module _ (c : Meaning) (from : ℕ) (r : Rows) (asked : Asked) where
  IsNurse : Taker → Type 0
  IsNurse t = t.nurse < nurse_count c

  one_is : (n : ℕ) → n < nurse_count c → (row : Option Row) → All IsNurse (option_to_list (option_map (taker_by c r n) row))
  unfolding IsNurse
  one_is n inside None = All-nil IsNurse
  one_is n inside (Some row) = All-cons IsNurse (taker_by c r n row) [] inside (All-nil IsNurse)

  these_are : (a m : ℕ) → a + m ≤ nurse_count c → All IsNurse (flat_map (λ n. option_to_list (taker c from r asked n)) (range_with_len a m))
  these_are a zero within = All-nil IsNurse
  these_are a (suc m) within =
      All-append IsNurse (option_to_list (taker c from r asked a)) (flat_map (λ n. option_to_list (taker c from r asked n)) (range_with_len (a + 1) m))
      (one_is a (omega (arith, within)) (taking_row c from r asked a)) (these_are (a + 1) m (omega (arith, within)))

  pub listed_are : (listed : List Taker) → AreInOrder (takers c from r asked) listed → All (λ (t : Taker). t.nurse < nurse_count c) listed
  unfolding IsNurse
  listed_are listed are = All-permutation IsNurse (takers c from r asked) listed are.same (these_are 0 (nurse_count c) (omega arith))
