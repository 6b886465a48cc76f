-- What a run says of its devices: which of them has failed, and what was reported of it.
use Rattle.std.proofs.Common.{◌≡◌, ◌≢◌, ◌⊎◌, ◌∙◌, ℕ, None, Option, Some, ap, codes, inl, inr, refl, subst, sym}
use Rattle.std.proofs.lemmas.Bool.{cases_eq}
use Rattle.roster_text.specs.Io.{Watched, one_more}
use Rattle.roster_text.specs.declared.fault.TextFault.TheVariants as text
use Rattle.roster_instance.specs.Bundles.{meaning_of}
use Rattle.roster_instance.specs.declared.fault.CaseFault.{CaseFault}
use Rattle.roster_instance.specs.declared.fault.CaseFault.TheVariants as case
use Rattle.roster_answers.specs.Answer.{Input, Logged, Logs, Output, StopsLog, Untouched, roster_of}
use Rattle.roster_cli.specs.Answer.{IsLogFailed, IsSilent, ReadsAndAnswers, ReportsTo, StopsCommand, StopsRun, PrintsOutput, out_of}
use Rattle.roster_reports.specs.Lines.{Text}
use Rattle.roster_answers.specs.Lines.{case_status, status_of}
use Rattle.roster_answers.specs.declared.fault.Fault.{Fault}
use Rattle.roster_answers.specs.declared.fault.Fault.TheVariants as fault
use Rattle.roster_request.specs.declared.request.Command.{Command}
use Rattle.roster_request.specs.declared.request.Request.{Request}

no_device : (f : CaseFault) → case_status f ≡ 3 → ⊥
no_device case.Memory h = cc
no_device (case.Repeated line) h = cc
no_device (case.Unknown line) h = cc
no_device (case.Reserved line) h = cc
no_device (case.OtherInstance line) h = cc
no_device (case.HistoryWeek line) h = cc
no_device (case.HistoryNurses line) h = cc
no_device (case.RepeatedRequirement line) h = cc
no_device (case.Limit line) h = cc
no_device (case.TooManyStates number name) h = cc
no_device (case.H1 number day) h = cc

module _ {R W L : Type 0} (input : Input R) (output : Output W) (log : Output L) (command : Command) where
  -- the input has not failed, and likewise the others
  abbrev ReadOn : Type 0
  ReadOn = input.after.failures ≡ input.before.failures

  -- the log was stopped, so the command has one
  log_failed : (log_text : Option Text) → StopsLog log log_text → log.after.failures ≡ one_more log.before.failures
  log_failed None h = absurd h
  log_failed (Some t) h = h.stops.failures

  -- the device that a fault is about
  pub data Cause (f : Fault) : Type 0 where
    of_input : f ≡ fault.Text text.ReadFailed → Untouched output → Untouched log → input.after.failures ≡ one_more input.before.failures → Cause f
    of_output : f ≡ fault.Output → ReadOn → output.after.failures ≡ one_more output.before.failures → (IsSilent command → Untouched log) → Cause f
    of_log : f ≡ fault.Log → ReadOn → Untouched output → (IsSilent command → ⊥) → log.after.failures ≡ one_more log.before.failures → Cause f
    of_none : (status_of f ≡ 3 → ⊥) → ReadOn → Untouched output → Cause f

  pub cause : (f : Fault) → StopsCommand input output log command f → Cause f
  cause (fault.Text text.Memory) (inl h) = of_none (λ e. cc) h.0 h.1
  cause (fault.Text text.Memory) (inr h) = of_none (λ e. cc) h.read.failures h.answers.1
  cause (fault.Text text.ReadFailed) (inl h) = of_input refl h.1 h.2 h.0
  cause (fault.Text text.ReadFailed) (inr h) = absurd h.answers.0
  cause (fault.Text text.TooLong) (inl h) = of_none (λ e. cc) h.0.0 h.1
  cause (fault.Text text.TooLong) (inr h) = absurd h.answers.0
  cause (fault.Text (text.Expected line what)) (inl h) = absurd h.0
  cause (fault.Text (text.Expected line what)) (inr h) = of_none (λ e. cc) h.read.failures h.answers.1
  cause (fault.Text (text.NumberRange line)) (inl h) = absurd h.0
  cause (fault.Text (text.NumberRange line)) (inr h) = of_none (λ e. cc) h.read.failures h.answers.1
  cause (fault.Text (text.AfterEnd line)) (inl h) = absurd h.0
  cause (fault.Text (text.AfterEnd line)) (inr h) = of_none (λ e. cc) h.read.failures h.answers.1
  cause (fault.Case f nurse) (inl h) = absurd h.0
  cause (fault.Case f nurse) (inr h) = of_none (no_device f) h.read.failures h.answers.left
  cause (fault.Hard f d) (inl h) = absurd h.0
  cause (fault.Unfound f d) (inl h) = absurd h.0
  cause (fault.Hard f d) (inr h) = of_none (λ e. cc) h.read.failures h.answers.left
  cause (fault.Unfound f d) (inr h) = of_none (λ e. cc) h.read.failures h.answers.left
  cause (fault.Unknown thing name) (inl h) = absurd h.0
  cause (fault.Unknown thing name) (inr h) = of_none (λ e. cc) h.read.failures h.answers.left
  cause fault.Memory (inl h) = absurd h.0
  cause fault.Workspace (inl h) = absurd h.0
  cause fault.Memory (inr h) = of_none (λ e. cc) h.read.failures h.answers.left
  cause fault.Workspace (inr h) = of_none (λ e. cc) h.read.failures h.answers.left
  cause fault.Output (inl h) = absurd h.0
  cause fault.Output (inr h) = of_output refl h.read.failures h.answers.left.stops.failures (λ silent. subst (Logged log) (silent (meaning_of h.bytes h.answers.bundle) (roster_of h.bytes h.answers.bundle) h.answers.report h.answers.is) h.answers.logged)
  cause fault.Log (inl h) = absurd h.0
  cause fault.Log (inr h) = of_log refl h.read.failures h.answers.left (λ silent. subst (StopsLog log) (silent (meaning_of h.bytes h.answers.bundle) (roster_of h.bytes h.answers.bundle) h.answers.report h.answers.is) h.answers.logged) (log_failed _ h.answers.logged)

  pub silent_done : ReadsAndAnswers input output log command None → IsSilent command → Untouched log
  silent_done done silent = subst (Logged log) (silent (meaning_of done.bytes done.answers.bundle) (roster_of done.bytes done.answers.bundle) done.answers.report done.answers.is) done.answers.logged

module _ {R W L : Type 0} (input : Input R) (output : Output W) (log : Output L) (request : Request) (status : ℕ)
    (done : status ≡ 0 → ReadsAndAnswers input output log request.command None) (stops : (status ≡ 0 → ⊥) → StopsRun input output log request status) where
  abbrev met_log : Watched L → Output L
  met_log met = record log { after = met }

  pub read_failed : input.after.failures ≢ input.before.failures → (status ≡ 3) × Untouched output × Logs log.contents log.before log.after (codes "read failed\n")
  read_failed failed = go (cases_eq status 0)
    where
      of : (s : StopsRun input output log request status) → Cause input output (met_log s.met) request.command s.fault
          → (status ≡ 3) × Untouched output × Logs log.contents log.before log.after (codes "read failed\n")
      of s (of_input is o l more) = (
        s.status_is ∙ ap status_of is,
        o,
        subst (λ m. Logs log.contents m log.after (codes "read failed\n")) l (subst (ReportsTo (out_of request) log.contents s.met log.after) is s.reported),
      )
      of s (of_output is on more l) = absurd (failed on)
      of s (of_log is on o not_silent more) = absurd (failed on)
      of s (of_none other on o) = absurd (failed on)

      go : (status ≡ 0) ⊎ (status ≡ 0 → ⊥) → (status ≡ 3) × Untouched output × Logs log.contents log.before log.after (codes "read failed\n")
      go (inl zero) = absurd (failed (done zero).read.failures)
      go (inr other) = of (stops other) (cause input output (met_log (stops other).met) request.command (stops other).fault (stops other).refused)

  pub write_failed : output.after.failures ≢ output.before.failures → (status ≡ 3) × PrintsOutput log request
  write_failed failed = go (cases_eq status 0)
    where
      of : (s : StopsRun input output log request status) → Cause input output (met_log s.met) request.command s.fault → (status ≡ 3) × PrintsOutput log request
      of s (of_input is o l more) = absurd (failed (ap (λ w. w.failures) o))
      of s (of_output is on more l) = (s.status_is ∙ ap status_of is, record { met = s.met; silent = l; line = subst (ReportsTo (out_of request) log.contents s.met log.after) is s.reported })
      of s (of_log is on o not_silent more) = absurd (failed (ap (λ w. w.failures) o))
      of s (of_none other on o) = absurd (failed (ap (λ w. w.failures) o))

      go : (status ≡ 0) ⊎ (status ≡ 0 → ⊥) → (status ≡ 3) × PrintsOutput log request
      go (inl zero) = absurd (failed (done zero).answers.left.failures)
      go (inr other) = of (stops other) (cause input output (met_log (stops other).met) request.command (stops other).fault (stops other).refused)

  abbrev Device : Type 0
  Device = (input.after.failures ≡ one_more input.before.failures) ⊎ (output.after.failures ≡ one_more output.before.failures) ⊎ IsLogFailed log request.command

  pub device : status ≡ 3 → Device
  device three = go (cases_eq status 0)
    where
      of : (s : StopsRun input output log request status) → Cause input output (met_log s.met) request.command s.fault → Device
      of s (of_input is o l more) = inl more
      of s (of_output is on more l) = inr (inl more)
      of s (of_log is on o not_silent more) = inr (inr (record { not_silent = not_silent; failures = ap (λ w. w.failures) (subst (ReportsTo (out_of request) log.contents s.met log.after) is s.reported) ∙ more }))
      of s (of_none other on o) = absurd (other (sym s.status_is ∙ three))

      go : (status ≡ 0) ⊎ (status ≡ 0 → ⊥) → Device
      go (inl zero) = absurd (let bad : 0 ≡ 3 = sym zero ∙ three in cc)
      go (inr other) = of (stops other) (cause input output (met_log (stops other).met) request.command (stops other).fault (stops other).refused)
