-- The statuses of faults, and what a run did once its output is flushed.
use Rattle.std.proofs.Common.{◌≡◌, ◌∙◌, ◌==◌, ◌+◌, ◌<◌, ◌⊎◌, ◌++◌, ◌∷◌, ℕ, zero, suc, false, true≢false, List, [], IfSome, None, Ok, Option, Result, Some, ap, append_assoc, arith, drop, get_or, inl, inr, length, map, option_map, refl, string_bytes, subst, sym, take}
use Rattle.std.specs.Prelude.{OnSome}
use Rattle.std.specs.declared.alloc.Global.{Global}
use Rattle.std.specs.declared.string.String.{String}
use Rattle.std.specs.Io.KnownBytes.{Appends, Keeps}
use Rattle.std.proofs.KnownBytes.{Appends-kept}
use Rattle.std.proofs.lemmas.List.{map-append, take-append-drop, take_more}
use Rattle.std.specs.Borrow.{Bor}
use Rattle.std.specs.Fn.{Mut}
use Rattle.std.specs.declared.io.Error.{Error}
use Rattle.roster_text.specs.Io.{Watched}
use Rattle.roster_text.specs.declared.fault.TextFault.{TextFault}
use Rattle.roster_text.specs.declared.fault.TextFault.TheVariants as text
use Rattle.roster_request.specs.declared.request.Command.{Command}
use Rattle.roster_answers.specs.Answer.{Logged, Logs, input_of, output_of}
use Rattle.roster_request.specs.declared.request.Request.{Request}
use Rattle.roster_cli.specs.Answer.{IsAnswered, IsSilent, ReadsAndAnswers, StopsRun, out_of, write_line}
use Rattle.roster_reports.specs.Lines.{Text}
use Rattle.roster_answers.specs.Lines.{text_status}
use Rattle.roster_cli.specs.Start.{EndsRequest, FailsToSend, GoesTo, IsDoneAway, IsUnopened, Opens, OpensAll, ReadsAndSends, StopsOver, under_watch}

-- a list that isn't empty has items
pub some_files : (n : ℕ) → false ≡ (n == 0) → 0 < n
some_files zero none = absurd (true≢false (sym none))
some_files (suc n) none = omega arith

pub no_text_fault_is_done : (f : TextFault) → text_status f ≡ 0 → ⊥
no_text_fault_is_done text.Memory h = cc
no_text_fault_is_done text.ReadFailed h = cc
no_text_fault_is_done text.TooLong h = cc
no_text_fault_is_done (text.Expected line what) h = cc
no_text_fault_is_done (text.NumberRange line) h = cc
no_text_fault_is_done (text.AfterEnd line) h = cc

module _ {Out Log : Type 0} (contents : Out → Option Text) (held : Out → Text) (logged : Log → Option Text) (request : Request) where
  -- a run is done once its output is flushed
  pub done_once_flushed : {In : Type 0} (remaining : In → Option Text) (read read_after : Watched In) (taken taken_after : Watched Out) (log log_after : Watched Log)
      → (input : In) (output met flushed : Out) (log_flushed : Watched Log)
      → ReadsAndAnswers (record { remaining = remaining; before = read; after = read_after }) (record { contents = contents; before = taken; after = taken_after })
      (record { contents = logged; before = log; after = log_after }) request.command None
      → (IsSilent request.command → log_after ≡ log) → read.inner ≡ input → taken.inner ≡ output → met ≡ taken_after.inner
      → Keeps (contents met) (contents flushed) → held flushed ≡ [] → log_flushed ≡ log_after
      → ReadsAndSends contents held logged request.command (remaining input) output flushed log log_flushed
  done_once_flushed remaining read read_after taken taken_after log log_after input output met flushed log_flushed ran silent from to left kept sent same =
      let answers = ran.answers in
      let all = subst (λ i. IfSome (remaining i) (λ known. ran.bytes ≡ known)) from ran.read.all in
      let grown = subst (λ o. Appends (contents o) (contents taken_after.inner) answers.report.output) to answers.left.taken in
      let stays = subst (λ o. Keeps (contents o) (contents flushed)) left kept in
      record {
        bytes = ran.bytes;
        all = all;
        done = record {
          bundle = answers.bundle;
          spelled = answers.spelled;
          report = answers.report;
          is = answers.is;
          taken = answers.ends;
          written = Appends-kept _ _ _ _ grown stays;
          in_log = subst (λ l. Logged (record { contents = logged; before = log; after = l }) answers.report.log) (sym same) answers.logged;
        };
        sent_on = sent;
        silent = λ quiet. same ∙ silent quiet;
      }

  -- a run stopped
  pub stops_over : {In : Type 0} (remaining : In → Option Text) (before read : Watched In) (empty taken : Watched Out) (log log_after : Watched Log) (input : In) (output left : Out) (status : ℕ)
      → StopsRun (input_of remaining before read) (output_of contents empty taken) (output_of logged log log_after) request status → before ≡ under_watch input → empty ≡ under_watch output → left ≡ taken.inner
      → StopsOver remaining contents logged request input status output left log log_after ⊎ FailsToSend remaining contents logged request input status output left log log_after
  stops_over remaining before read empty taken log log_after input output left status stops from to is = inl (record {
    read = read;
    taken = taken;
    stops = subst (λ b. StopsRun (input_of remaining b read) (output_of contents (under_watch output) taken) (output_of logged log log_after) request status) from
        (subst (λ e. StopsRun (input_of remaining before read) (output_of contents e taken) (output_of logged log log_after) request status) to stops);
    left = is;
  })

  -- it was done, and the flush failed
  pub fails_to_send : {In : Type 0} (remaining : In → Option Text) (before read : Watched In) (empty taken : Watched Out) (log met : Watched Log) (input : In) (output had left : Out) (log_after : Watched Log) (status : ℕ)
      → IsAnswered (input_of remaining before read) (output_of contents empty taken) (output_of logged log met) request.command → before ≡ under_watch input → empty ≡ under_watch output → had ≡ taken.inner
      → Keeps (contents had) (contents left) → status ≡ 3 → Logs logged met log_after (write_line (out_of request))
      → StopsOver remaining contents logged request input status output left log log_after ⊎ FailsToSend remaining contents logged request input status output left log log_after
  fails_to_send remaining before read empty taken log met input output had left log_after status done from to is kept three reported = inr (record {
    read = read;
    taken = taken;
    met = met;
    done = subst (λ b. IsAnswered (input_of remaining b read) (output_of contents (under_watch output) taken) (output_of logged log met) request.command) from
        (subst (λ e. IsAnswered (input_of remaining before read) (output_of contents e taken) (output_of logged log met) request.command) to done);
    kept = subst (λ o. Keeps (contents o) (contents left)) is kept;
    status_is = three;
    reported = reported;
  })

-- ---- the files

module _ {F File : Type 0} (g : Mut F (Bor Text × Unit {0}) (Result File Error)) where
  -- one more
  pub opens_more : (opener : F) (paths : List Text) (files : List File) (next : F) (path : Text) (file : File) (last : F) → OpensAll g opener paths files next → Opens g next path (Ok file) last → OpensAll g opener (paths ++ path ∷ []) (files ++ file ∷ []) last
  opens_more opener [] [] next path file last all one = (last, subst (λ f. Opens g f path (Ok file) last) all one, refl)
  opens_more opener [] (x ∷ xs) next path file last all one = absurd all
  opens_more opener (p ∷ ps) [] next path file last all one = absurd all
  opens_more opener (p ∷ ps) (x ∷ xs) next path file last all one = (all.0, all.1, opens_more all.0 ps xs next path file last all.2 one)

  -- as many as their names
  pub opens_count : (opener : F) (paths : List Text) (files : List File) (last : F) → OpensAll g opener paths files last → length files ≡ length paths
  opens_count opener [] [] last all = refl
  opens_count opener [] (x ∷ xs) last all = absurd all
  opens_count opener (p ∷ ps) [] last all = absurd all
  opens_count opener (p ∷ ps) (x ∷ xs) last all = omega (arith, opens_count all.0 ps xs last all.2)

-- the names up to this one, and those after it
module _ {A B : Type 0} (f : A → B) (items : List A) (i : ℕ) (x : A) (inside : i < length items) (reads : x ≡ get_or items i x) where
  pub names_more : map f (take i items) ++ f x ∷ [] ≡ map f (take (i + 1) items)
  names_more = ap (λ y. map f (take i items) ++ f y ∷ []) reads ∙ sym (map-append f (take i items) (get_or items i x ∷ [])) ∙ sym (ap (map f) (take_more items i x inside))

  pub names_split : map f items ≡ map f (take i items) ++ f x ∷ map f (drop (i + 1) items)
  names_split =
      sym (ap (map f) (take-append-drop (i + 1) items)) ∙ map-append f (take (i + 1) items) (drop (i + 1) items) ∙ ap (λ xs. xs ++ map f (drop (i + 1) items)) (sym names_more)
      ∙ append_assoc (map f (take i items)) (f x ∷ []) (map f (drop (i + 1) items))

-- what is said of the files and of the fault may be less
module _ {In File Out Log : Type 0} (are less : List File → Type 0) (fails : TextFault → Type 0) (remaining : In → Option Text) (file_remaining : File → Option Text) (contents : Out → Option Text) (held : Out → Text) (logged : Log → Option Text) where
  pub ends_less : (request : Request) (input : In) (status : ℕ) (output output_after : Out) (log log_after : Watched Log) → ((files : List File) → are files → less files)
      → EndsRequest are fails remaining file_remaining contents held logged request input status output output_after log log_after
      → EndsRequest less IsUnopened remaining file_remaining contents held logged request input status output output_after log log_after
  ends_less request input status output output_after log log_after weaker (inl over) = inl over
  ends_less request input status output output_after log log_after weaker (inr (some, inl p)) = inr (some, inl (record { files = p.files; files_are = weaker p.files p.files_are; ends = p.ends }))
  ends_less request input status output output_after log log_after weaker (inr (some, inr p)) = inr (some, inr (record { fault = p.fault; failed = p.is; is = p.is; status_is = p.status_is; same = p.same; reported = p.reported }))

-- ---- the file to which the roster goes

-- it goes to the output if no file is named, and else to that
pub goes : (out : Option Text) {A : Type 0} {P Q : Text → Type 0} → (out ≡ None → A) → IfSome out P → ((path : Text) → out ≡ Some path → P path → Q path) → GoesTo out A Q
goes None to_output to_file more = to_output refl
goes (Some path) to_output to_file more = more path refl to_file

-- there is a path if there is a file
pub some_out : (out : Option (String Global)) (path : Text) {A : Type 0} → option_map string_bytes out ≡ Some path → OnSome out A → A
some_out None path is h = absurd cc
some_out (Some file) path is h = h

-- what holds of the path that is named
pub some_path : (P : Text → Type 0) (out : Option Text) (path : Text) → out ≡ Some path → IfSome out P → P path
some_path P out path is h = subst (λ o. IfSome o P) is h

-- a command that is done, whatever took its output
module _ {Out Log : Type 0} (contents : Out → Option Text) (held : Out → Text) (logged : Log → Option Text) where
  sends_away : (command : Command) (given : Option Text) (output output_after : Out) (log log_after : Watched Log) → ReadsAndSends contents held logged command given output output_after log log_after → IsDoneAway logged command log log_after
  sends_away command given output output_after log log_after r = record {
    bytes = r.bytes;
    bundle = r.done.bundle;
    spelled = r.done.spelled;
    report = r.done.report;
    is = r.done.is;
    taken = r.done.taken;
    in_log = r.done.in_log;
  }

  pub ends_away : {In File : Type 0} (are : List File → Type 0) (fails : TextFault → Type 0) (remaining : In → Option Text) (file_remaining : File → Option Text) (request : Request) (input : In)
      (output output_after : Out) (log log_after : Watched Log) → EndsRequest are fails remaining file_remaining contents held logged request input 0 output output_after log log_after → IsDoneAway logged request.command log log_after
  ends_away are fails remaining file_remaining request input output output_after log log_after (inl over) = sends_away request.command _ output output_after log log_after (over.1.done refl)
  ends_away are fails remaining file_remaining request input output output_after log log_after (inr (some, inl p)) = sends_away request.command _ output output_after log log_after (p.ends.done refl)
  ends_away are fails remaining file_remaining request input output output_after log log_after (inr (some, inr p)) = absurd (no_text_fault_is_done p.fault (sym p.status_is))
