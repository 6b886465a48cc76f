-- How a command ends whose answer goes to a file.
use Rattle.std.proofs.Common.{◌≡◌, ◌∙◌, ◌++◌, ◌||◌, ℕ, Bool, Contains, List, None, Option, Some, [], ◌∷◌, ap, append-nil, inl, inr, map, refl, string_bytes, subst, sym, true}
use Rattle.std.proofs.lemmas.Cmp.{nat_list_eq_equiv}
use Rattle.std.proofs.lemmas.Map.Views.{list_any-from_Contains}
use Rattle.std.specs.List.{list_any}
use Rattle.std.specs.Str.{bytes_eq}
use Rattle.std.specs.declared.alloc.Global.{Global}
use Rattle.std.specs.declared.string.String.{String}
use Rattle.std.specs.Io.KnownBytes.{Appends, Keeps, append_known}
use Rattle.std.specs.Prelude.{IfSome}
use Rattle.roster_text.specs.Io.{Watched}
use Rattle.roster_out.specs.Places.{temporary_name}
use Rattle.roster_out.specs.Writers.{IsLastPut, IsUnwritten, LateWriter}
use Rattle.roster_answers.specs.Answer.{Logs}
use Rattle.roster_reports.specs.Lines.{Text, memory_line}
use Rattle.roster_cli.specs.Answer.{write_line}
use Rattle.roster_cli.specs.Start.{EndsAt, input_line}

list_any-map : {X Y : Type 0} (p : Y → Bool) (f : X → Y) (xs : List X) → list_any p (map f xs) ≡ list_any (λ x. p (f x)) xs
list_any-map p f [] = refl
list_any-map p f (x ∷ xs) = ap (λ b. p (f x) || b) (list_any-map p f xs)

-- a path that is one of the names is found
pub named_found : (path : Text) (files : List (String Global)) → Contains (map string_bytes files) path → list_any (λ file. bytes_eq path (string_bytes file)) files ≡ true
named_found path files named = sym (list_any-map (bytes_eq path) string_bytes files) ∙ list_any-from_Contains nat_list_eq_equiv path (map string_bytes files) named

-- what holds of a path that is named
pub at_path : (P : Text → Type 0) (out : Option Text) (path : Text) → out ≡ Some path → P path → IfSome out P
at_path P out path named p = subst (λ o. IfSome o P) (sym named) p

-- a file that had the one name had the other, if they are the same
pub put_under : {D Made : Type 0} (puts : Made → Text → Type 0) (name other : Text) (written : LateWriter D Made) → name ≡ other → IsLastPut puts name written → IsLastPut puts other written
put_under puts name other written same put = subst (λ n. IsLastPut puts n written) same put

module _ {D Made Log : Type 0} (ends : ℕ → LateWriter D Made → LateWriter D Made → Watched Log → Type 0) (puts : Made → Text → Type 0) (logged : Log → Option Text) (path : Text) (log : Watched Log) where
  pub input_refused : (status : ℕ) (after : Watched Log) → status ≡ 2 → Logs logged log after (input_line path) → EndsAt ends puts logged path status log after
  input_refused status after two line = record {
    done = λ zero. absurd (let bad : 0 ≡ 2 = sym zero ∙ two in cc);
    stopped = λ other. inr (inr (inl (two, line)));
  }

  pub write_refused : (out : Option Text) → out ≡ Some path → (status : ℕ) (after : Watched Log) → status ≡ 3 → Logs logged log after (write_line out) → EndsAt ends puts logged path status log after
  write_refused out named status after three line = record {
    done = λ zero. absurd (let bad : 0 ≡ 3 = sym zero ∙ three in cc);
    stopped = λ other. inr (inr (inr (inl (three, subst (λ o. Logs logged log after (write_line o)) named line))));
  }

  pub memory_refused : (status : ℕ) (after : Watched Log) → status ≡ 4 → Logs logged log after memory_line → EndsAt ends puts logged path status log after
  memory_refused status after four line = record {
    done = λ zero. absurd (let bad : 0 ≡ 4 = sym zero ∙ four in cc);
    stopped = λ other. inr (inr (inr (inr (four, line))));
  }

  module _ (number : ℕ) (writer : LateWriter D Made) (before : IsUnwritten (temporary_name path number) writer) (written : LateWriter D Made) (status : ℕ) (met : Watched Log) (ended : ends status writer written met) where
    pub stopped_in_temporary : (status ≡ 0 → ⊥) → EndsAt ends puts logged path status log met
    stopped_in_temporary other = record {
      done = λ zero. absurd (other zero);
      stopped = λ some. inl (record { number = number; writer = writer; unwritten = before; written = written; ended = ended });
    }

    module _ (zero : status ≡ 0) where
      ended_done : ends 0 writer written met
      ended_done = subst (λ s. ends s writer written met) zero ended

      pub put_in_place : IsLastPut puts (temporary_name path number) written → EndsAt ends puts logged path 0 log met
      put_in_place put = record {
        done = λ none. record { number = number; writer = writer; unwritten = before; written = written; ended = ended_done; put = put };
        stopped = λ other. absurd (other refl);
      }

      pub not_put : (out : Option Text) → out ≡ Some path → (last : ℕ) (after : Watched Log) → last ≡ 3 → Logs logged met after (write_line out) → EndsAt ends puts logged path last log after
      not_put out named last after three line = record {
        done = λ none. absurd (let bad : 0 ≡ 3 = sym none ∙ three in cc);
        stopped = λ other. inr (inl (record {
          met = met;
          done = record { number = number; writer = writer; unwritten = before; written = written; ended = ended_done };
          status_is = three;
          reported = subst (λ o. Logs logged met after (write_line o)) named line;
        }));
      }

-- what a writer took that had nothing before is in its file, once nothing of it is held back
pub in_file : (fresh had mid last : Option Text) (before after text : Text) → had ≡ fresh → before ≡ [] → Appends (append_known had before) mid text → Keeps mid (append_known last after) → after ≡ [] → Appends fresh last text
in_file fresh had mid last before after text none empty grown kept sent =
    go fresh mid last (subst (λ o. Appends (append_known o []) mid text) none (subst (λ bs. Appends (append_known had bs) mid text) empty grown)) (subst (λ bs. Keeps mid (append_known last bs)) sent kept)
  where
    go : (fresh mid last : Option Text) → Appends (append_known fresh []) mid text → Keeps mid (append_known last []) → Appends fresh last text
    go None mid last a k = tt
    go (Some xs) None last a k = absurd a
    go (Some xs) (Some ys) None a k = absurd k
    go (Some xs) (Some ys) (Some zs) a k = sym (append-nil zs) ∙ k ∙ a ∙ ap (λ those. those ++ text) (append-nil xs)
