-- How the program begins and ends: the words that are read, the files that are opened, and what is left.
-- `contents` is all that an output has taken, `held` the end of it that is still in the buffer, and `logged`
-- what a log has.
use Rattle.std.specs.Prelude.{◌≡◌, ◌≢◌, ℕ, ◌<◌, ◌⊎◌, ◌++◌, Contains, List, [], ◌∷◌, IfSome, None, Option, Ok, Err, Result, Some, codes, length, map, string_bytes, vec_len}
use Rattle.std.specs.Borrow.{Bor}
use Rattle.std.specs.Fn.{Called, Mut}
use Rattle.std.specs.declared.alloc.Global.{Global}
use Rattle.std.specs.declared.string.String.{String}
use Rattle.std.specs.declared.vec.IntoIter.{IntoIter}
use Rattle.std.specs.declared.io.Error.{Error}
use Rattle.std.specs.declared.io.ErrorKind.TheVariants.{OutOfMemory}
use Rattle.std.specs.IoError.{error_kind}
use Rattle.std.specs.Vec.Iter.{into_iter_items}
use Rattle.std.specs.Io.KnownBytes.{Appends, Keeps}
use Rattle.std.specs.Io.Buffered.{writer_buffer, writer_contents}
use Rattle.std.specs.declared.io.buffered.BufWriter.{BufWriter}
use Rattle.roster_out.specs.Places.{IsPut, late_contents, temporary_name}
use Rattle.roster_out.specs.Writers.{IsLastPut, IsUnwritten, LateWriter}
use Rattle.roster_out.specs.declared.late.LateFile.{LateFile}
use Rattle.roster_bundle.specs.declared.bundle.Bundle.{Bundle}
use Rattle.roster_input.specs.JoinedBytes.{Left, joined_bytes}
use Rattle.roster_text.specs.Io.{Watched}
use Rattle.roster_text.specs.declared.fault.TextFault.{TextFault}
use Rattle.roster_text.specs.declared.fault.TextFault.TheVariants as text
use Rattle.roster_answers.specs.Answer.{IsTaken, Logged, Logs, Report, SpellsBundle, input_of, output_of}
use Rattle.roster_answers.specs.Lines.{text_status}
use Rattle.roster_cli.specs.Answer.{IsAnswer, IsAnswered, IsSilent, StopsRun, keep_of, out_of, write_line}
use Rattle.roster_reports.specs.Lines.{Text, memory_line, text_line}
use Rattle.roster_request.specs.CommandLine.{IsAsked, Refuses}
use Rattle.roster_request.specs.declared.request.CliFault.{CliFault}
use Rattle.roster_request.specs.declared.request.CliFault.TheVariants as cli
use Rattle.roster_request.specs.declared.request.Command.{Command}
use Rattle.roster_request.specs.declared.request.Request.{Request}

-- with status 0 the output took the whole text and sent it on, and nothing was logged; else the output
-- failed, and that is reported
abbrev pub SendsText : {Out Log : Type 0} → (Out → Option Text) → (Out → Text) → (Log → Option Text) → Text
    → ℕ → Out → Out → Watched Log → Watched Log → Type 0
SendsText contents held logged text status output output_after log log_after =
    (status ≡ 0 → Appends (contents output) (contents output_after) text × (held output_after ≡ [])
    × (log_after ≡ log))
    × ((status ≡ 0 → ⊥) → (status ≡ 3) × Logs logged log log_after (codes "write failed\n"))

-- how words that are no request are answered
abbrev pub PrintsWords : {Out Log : Type 0} → (Out → Option Text) → (Out → Text) → (Log → Option Text)
    → CliFault → ℕ → Out → Out → Watched Log → Watched Log → Type 0
PrintsWords contents held logged cli.Memory status output output_after log log_after =
    (status ≡ 4) × (output_after ≡ output) × Logs logged log log_after (codes "no memory\n")
PrintsWords contents held logged (cli.Usage text) status output output_after log log_after =
    (status ≡ 2) × (output_after ≡ output) × Logs logged log log_after (string_bytes text)
PrintsWords contents held logged (cli.Help text) status output output_after log log_after =
    SendsText contents held logged (string_bytes text) status output output_after log log_after

-- the bytes spell a bundle that the command accepts; the output took the text of its report, and the log its
-- log
pub record IsDone {Out Log : Type 0} (contents : Out → Option Text)
    (logged : Log → Option Text) (command : Command) (bytes : Text) (output output_after : Out)
    (log log_after : Watched Log) : Type 0 where
  pub bundle : Bundle
  pub spelled : SpellsBundle bytes bundle
  pub report : Report
  pub is : IsAnswer command bytes bundle report
  pub taken : IsTaken report (keep_of command) bytes bundle None
  pub written : Appends (contents output) (contents output_after) report.output
  pub in_log : Logged (record { contents = logged; before = log; after = log_after }) report.log

-- The command is done for some bytes, which are those that were given, if they are known. All output was sent
-- on, and a silent command logged nothing.
pub record ReadsAndSends {Out Log : Type 0} (contents : Out → Option Text) (held : Out → Text)
    (logged : Log → Option Text) (command : Command) (given : Option Text) (output output_after : Out)
    (log log_after : Watched Log) : Type 0 where
  pub bytes : Text
  pub all : IfSome given (λ known. bytes ≡ known)
  pub done : IsDone contents logged command bytes output output_after log log_after
  pub sent_on : held output_after ≡ []
  pub silent : IsSilent command → log_after ≡ log

-- a device as it is put under watch
abbrev pub under_watch : {T : Type 0} → T → Watched T
under_watch inner =
    record { inner = inner; calls = 0; failures = 0; flushes = record { made = 0; failed = 0 } }

-- A run over an input stopped with this status. `read` and `taken` are the input and the output after it.
pub record StopsOver {In Out Log : Type 0} (remaining : In → Option Text) (contents : Out → Option Text)
    (logged : Log → Option Text) (request : Request) (input : In) (status : ℕ) (output output_after : Out)
    (log log_after : Watched Log) : Type 0 where
  pub read : Watched In
  pub taken : Watched Out
  pub stops : StopsRun (input_of remaining (under_watch input) read)
      (output_of contents (under_watch output) taken) (output_of logged log log_after) request status
  pub left : output_after ≡ taken.inner

-- The run was done, but what was in the output's buffer couldn't be sent on, and that is reported. `met` is
-- the log when the run was done.
pub record FailsToSend {In Out Log : Type 0} (remaining : In → Option Text) (contents : Out → Option Text)
    (logged : Log → Option Text) (request : Request) (input : In) (status : ℕ) (output output_after : Out)
    (log log_after : Watched Log) : Type 0 where
  pub read : Watched In
  pub taken : Watched Out
  pub met : Watched Log
  pub done : IsAnswered (input_of remaining (under_watch input) read)
      (output_of contents (under_watch output) taken) (output_of logged log met) request.command
  pub kept : Keeps (contents taken.inner) (contents output_after)
  pub status_is : status ≡ 3
  pub reported : Logs logged met log_after (write_line (out_of request))

-- how the command of a request ends over an input
pub record EndsOver {In Out Log : Type 0} (remaining : In → Option Text) (contents : Out → Option Text)
    (held : Out → Text) (logged : Log → Option Text) (request : Request) (input : In) (status : ℕ)
    (output output_after : Out) (log log_after : Watched Log) : Type 0 where
  pub done : status ≡ 0 → ReadsAndSends contents held logged request.command (remaining input) output
      output_after log log_after
  pub stopped : status ≢ 0 → StopsOver remaining contents logged request input status output output_after
      log log_after ⊎ FailsToSend remaining contents logged request input status output output_after
      log log_after

-- ---- the files

-- a call that opens the file of this name gave this result
pub record Opens {F File : Type 0} (g : Mut F (Bor Text × Unit {0}) (Result File Error)) (opener : F)
    (path : Text) (result : Result File Error) (opener_after : F) : Type 0 where
  pub shown : Bor Text
  pub shows : shown.now ≡ path
  pub called : Called g opener (shown, tt) result opener_after

-- one call for each of these names, in their order, gave these files
abbrev pub OpensAll : {F File : Type 0} → Mut F (Bor Text × Unit {0}) (Result File Error) → F → List Text
    → List File → F → Type 0
OpensAll g opener [] [] opener_after = opener_after ≡ opener
OpensAll {F} g opener (path ∷ paths) (file ∷ files) opener_after =
    (next : F) × Opens g opener path (Ok file) next × OpensAll g next paths files opener_after
OpensAll g opener _ _ opener_after = ⊥

-- the fault of a file that couldn't be opened
pub record IsOpenFault (error : Error) (fault : TextFault) : Type 0 where
  pub memory : error_kind error ≡ OutOfMemory → fault ≡ text.Memory
  pub other : error_kind error ≢ OutOfMemory → fault ≡ text.ReadFailed

-- the first call that failed is that for this name; the files before it were opened, and none after it
pub record FailsAt {F File : Type 0} (g : Mut F (Bor Text × Unit {0}) (Result File Error)) (opener : F)
    (paths : List Text) (opener_after : F) (fault : TextFault) : Type 0 where
  pub before : List Text
  pub path : Text
  pub after : List Text
  pub paths_are : paths ≡ before ++ path ∷ after
  pub files : List File
  pub next : F
  pub opened : OpensAll g opener before files next
  pub error : Error
  pub failed : Opens g next path (Err error) opener_after
  pub fault_is : IsOpenFault error fault

-- an allocation was refused before a file was opened
pub record LacksMemory {F : Type 0} (opener opener_after : F) (fault : TextFault) : Type 0 where
  pub none : opener_after ≡ opener
  pub fault_is : fault ≡ text.Memory

-- why not all files of these names are opened
abbrev pub FailsToOpenAll : {F File : Type 0} → Mut F (Bor Text × Unit {0}) (Result File Error) → F
    → List Text → F → TextFault → Type 0
FailsToOpenAll g opener paths opener_after fault =
    FailsAt g opener paths opener_after fault ⊎ LacksMemory opener opener_after fault

-- the faults that are possible before the files are read
abbrev pub IsUnopened : TextFault → Type 0
IsUnopened text.Memory = Unit {0}
IsUnopened text.ReadFailed = Unit {0}
IsUnopened _ = ⊥

-- ---- a request

-- the readers of these files, joined
abbrev pub joined : {File : Type 0} → List File → Left File
joined files = record { readers = files; failures = 0 }

-- a request's command ended over files, of which this holds; they are read one after the other
pub record EndsOverFiles {File Out Log : Type 0} (are : List File → Type 0)
    (remaining : File → Option Text) (contents : Out → Option Text) (held : Out → Text)
    (logged : Log → Option Text) (request : Request) (status : ℕ) (output output_after : Out)
    (log log_after : Watched Log) : Type 0 where
  pub files : List File
  pub files_are : are files
  pub ends : EndsOver (λ (left : Left File). joined_bytes remaining left.readers) contents held logged
      request (joined files) status output output_after log log_after

-- the files couldn't be opened, for a fault of which this holds; it is reported, and nothing is written
pub record FailsToOpen {Out Log : Type 0} (fails : TextFault → Type 0) (logged : Log → Option Text)
    (status : ℕ) (output output_after : Out) (log log_after : Watched Log) : Type 0 where
  pub fault : TextFault
  pub failed : fails fault
  pub is : IsUnopened fault
  pub status_is : status ≡ text_status fault
  pub same : output_after ≡ output
  pub reported : Logs logged log log_after (text_line fault)

-- how a request's command is answered: over the input, if it names no file, and else over its files
abbrev pub EndsRequest : {In File Out Log : Type 0} → (List File → Type 0) → (TextFault → Type 0)
    → (In → Option Text) → (File → Option Text) → (Out → Option Text) → (Out → Text) → (Log → Option Text)
    → Request → In → ℕ → Out → Out → Watched Log → Watched Log → Type 0
EndsRequest are fails remaining file_remaining contents held logged request input status output output_after
    log log_after =
    ((vec_len request.files ≡ 0) × EndsOver remaining contents held logged request input status
    output output_after log log_after)
    ⊎ ((0 < vec_len request.files) × (EndsOverFiles are file_remaining contents held logged request
    status output output_after log log_after
    ⊎ FailsToOpen fails logged status output output_after log log_after))

-- the same, where its files are opened by calls of this function
abbrev pub OpensAndEnds : {F In File Out Log : Type 0} → Mut F (Bor Text × Unit {0}) (Result File Error)
    → F → F → (In → Option Text) → (File → Option Text) → (Out → Option Text) → (Out → Text)
    → (Log → Option Text) → Request → In → ℕ → Out → Out → Watched Log → Watched Log → Type 0
OpensAndEnds {F} {In} {File} g opener opener_after remaining file_remaining contents held logged request input
    status output output_after log log_after =
    EndsRequest
    (λ (files : List File). OpensAll g opener (map string_bytes request.files.items) files opener_after)
    (FailsToOpenAll g opener (map string_bytes request.files.items) opener_after) remaining file_remaining
    contents held logged request input status output output_after log log_after

-- ---- the file to which the roster goes

-- A command was answered into the file of this path: a writer to a temporary file next to it took the answer,
-- and after that the file was put in its place.
pub record IsInFile {D Made Log : Type 0}
    (ends : ℕ → LateWriter D Made → LateWriter D Made → Watched Log → Type 0) (puts : Made → Text → Type 0)
    (path : Text) (log_after : Watched Log) : Type 0 where
  pub number : ℕ
  pub writer : LateWriter D Made
  pub unwritten : IsUnwritten (temporary_name path number) writer
  pub written : LateWriter D Made
  pub ended : ends 0 writer written log_after
  pub put : IsLastPut puts (temporary_name path number) written

-- a command stopped with this status over such a writer
pub record StopsInTemporary {D Made Log : Type 0}
    (ends : ℕ → LateWriter D Made → LateWriter D Made → Watched Log → Type 0) (path : Text) (status : ℕ)
    (log_after : Watched Log) : Type 0 where
  pub number : ℕ
  pub writer : LateWriter D Made
  pub unwritten : IsUnwritten (temporary_name path number) writer
  pub written : LateWriter D Made
  pub ended : ends status writer written log_after

-- it was answered, but the file couldn't be put in its place, and that is reported
pub record FailsToPut {D Made Log : Type 0}
    (ends : ℕ → LateWriter D Made → LateWriter D Made → Watched Log → Type 0) (logged : Log → Option Text)
    (path : Text) (status : ℕ) (log_after : Watched Log) : Type 0 where
  pub met : Watched Log
  pub done : StopsInTemporary ends path 0 met
  pub status_is : status ≡ 3
  pub reported : Logs logged met log_after (write_line (Some path))

-- the line about an output that would go to an input
abbrev pub input_line : Text → Text
input_line path = path ++ codes ": is one of the inputs\n"

-- it is reported that the answer would go to an input
abbrev pub RefusesInput : {Log : Type 0} → (Log → Option Text) → Text → ℕ → Watched Log → Watched Log → Type 0
RefusesInput logged path status log log_after = (status ≡ 2) × Logs logged log log_after (input_line path)

-- nothing was read, since the file is one of the inputs, can't be written or lacks memory
abbrev pub IsRefusedAt : {Log : Type 0} → (Log → Option Text) → Text → ℕ → Watched Log → Watched Log → Type 0
IsRefusedAt logged path status log log_after =
    RefusesInput logged path status log log_after
    ⊎ ((status ≡ 3) × Logs logged log log_after (write_line (Some path)))
    ⊎ ((status ≡ 4) × Logs logged log log_after memory_line)

-- a file that the request names as one of its inputs isn't answered into, and nothing is read
abbrev pub SparesInputs : {F Log : Type 0} → (Log → Option Text) → Request → F → F → ℕ → Watched Log
    → Watched Log → Type 0
SparesInputs logged request opener opener_after status log log_after =
    IfSome (out_of request)
    (λ path. Contains (map string_bytes request.files.items) path
    → (opener_after ≡ opener) × RefusesInput logged path status log log_after)

-- how a command ends whose answer goes to the file of this path
pub record EndsAt {D Made Log : Type 0}
    (ends : ℕ → LateWriter D Made → LateWriter D Made → Watched Log → Type 0) (puts : Made → Text → Type 0)
    (logged : Log → Option Text) (path : Text) (status : ℕ) (log log_after : Watched Log) : Type 0 where
  pub done : status ≡ 0 → IsInFile ends puts path log_after
  pub stopped : status ≢ 0 → StopsInTemporary ends path status log_after
      ⊎ FailsToPut ends logged path status log_after ⊎ IsRefusedAt logged path status log log_after

-- a request ended over such a writer, as over any output
abbrev pub EndsLate : {F In File D Made Log : Type 0} → Mut F (Bor Text × Unit {0}) (Result File Error)
    → F → F → (In → Option Text) → (File → Option Text) → Option Text → (Made → Option Text)
    → (Log → Option Text) → Request → In → Watched Log → ℕ → LateWriter D Made → LateWriter D Made
    → Watched Log → Type 0
EndsLate {F} {In} {File} {D} {Made} g opener opener_after remaining file_remaining fresh contents logged
    request input log status writer written log_after =
    OpensAndEnds g opener opener_after remaining file_remaining
    (writer_contents (λ (late : LateFile D Made). late_contents fresh contents late.file)) writer_buffer
    logged request input status writer written log log_after

-- if a request names a file for its answer, it ended in this way
abbrev pub EndsInFile : {F In File D Made Flushed Log : Type 0}
    → Mut F (Bor Text × Unit {0}) (Result File Error) → F → F → (In → Option Text) → (File → Option Text)
    → Option Text → (Made → Option Text) → (D → Made → Flushed → Type 0)
    → (D → Flushed → Text → Text → Type 0) → D → (Log → Option Text) → Request → In → ℕ → Watched Log
    → Watched Log → Type 0
EndsInFile {F} {In} {File} {D} {Made} g opener opener_after remaining file_remaining fresh contents flushes
    renames disk logged request input status log log_after =
    IfSome (out_of request)
    (λ path. EndsAt {D = D} {Made = Made}
    (EndsLate {D = D} g opener opener_after remaining file_remaining fresh contents logged request input log)
    (λ file name. IsPut flushes renames disk file name path) logged path status log log_after)

-- if it names none, it ended over the output
abbrev pub EndsOut : {F In File Out Log : Type 0} → Mut F (Bor Text × Unit {0}) (Result File Error) → F → F
    → (In → Option Text) → (File → Option Text) → (Out → Option Text) → (Log → Option Text) → Request → In
    → ℕ → BufWriter Out Global → BufWriter Out Global → Watched Log → Watched Log → Type 0
EndsOut {F} {In} {File} g opener opener_after remaining file_remaining contents logged request input status
    output output_after log log_after =
    out_of request ≡ None
    → OpensAndEnds g opener opener_after remaining file_remaining (writer_contents contents) writer_buffer
    logged request input status output output_after log log_after

-- the answer goes to the output, or else to the file of this path
abbrev pub GoesTo : Option Text → Type 0 → (Text → Type 0) → Type 0
GoesTo None to_output to_file = to_output
GoesTo (Some path) to_output to_file = to_file path

-- a command was done for some bytes, with the log of its report
pub record IsDoneAway {Log : Type 0} (logged : Log → Option Text) (command : Command)
    (log log_after : Watched Log) : Type 0 where
  pub bytes : Text
  pub bundle : Bundle
  pub spelled : SpellsBundle bytes bundle
  pub report : Report
  pub is : IsAnswer command bytes bundle report
  pub taken : IsTaken report (keep_of command) bytes bundle None
  pub in_log : Logged (record { contents = logged; before = log; after = log_after }) report.log

-- Nothing went to the output, and a path that names one of the inputs is refused. With status 0 the command
-- is done.
pub record AnswersAway {Out Log : Type 0} (logged : Log → Option Text) (request : Request) (path : Text)
    (status : ℕ) (output output_after : Out) (log log_after : Watched Log) : Type 0 where
  pub same : output_after ≡ output
  pub spared : Contains (map string_bytes request.files.items) path
      → RefusesInput logged path status log log_after
  pub done : status ≡ 0 → IsDoneAway logged request.command log log_after

-- ---- the words of a request

-- the words are those of a request, which is answered over as many files as it names
pub record AnswersRequest {In File Out Log : Type 0} (remaining : In → Option Text)
    (file_remaining : File → Option Text) (contents : Out → Option Text) (held : Out → Text)
    (logged : Log → Option Text) (words : List Text) (input : In) (status : ℕ)
    (output output_after : Out) (log log_after : Watched Log) : Type 0 where
  pub request : Request
  pub asked : IsAsked words request
  pub ends : GoesTo (out_of request)
      (EndsRequest (λ (files : List File). length files ≡ length request.files.items) IsUnopened
      remaining file_remaining contents held logged request input status output output_after log log_after)
      (λ path. AnswersAway logged request path status output output_after log log_after)

-- the words are no request, and that was reported
pub record RefusesWords {Out Log : Type 0} (contents : Out → Option Text) (held : Out → Text)
    (logged : Log → Option Text) (words : List Text) (status : ℕ) (output output_after : Out)
    (log log_after : Watched Log) : Type 0 where
  pub why : CliFault
  pub refused : Refuses words why
  pub printed : PrintsWords contents held logged why status output output_after log log_after

-- how words are answered over an input
abbrev pub AnswersWords : {In File Out Log : Type 0} → (In → Option Text) → (File → Option Text)
    → (Out → Option Text) → (Out → Text) → (Log → Option Text) → List Text → In → ℕ → Out → Out
    → Watched Log → Watched Log → Type 0
AnswersWords remaining file_remaining contents held logged words input status output output_after log
    log_after =
    AnswersRequest remaining file_remaining contents held logged words input status output output_after log
    log_after
    ⊎ RefusesWords contents held logged words status output output_after log log_after

-- ---- the words of the command line

-- the words that the system gives
abbrev pub Args : Type 0
Args = IntoIter (String Global) Global

-- the words that were read
pub record AreWordsOf (given : Result Args Error) (words : List Text) : Type 0 where
  pub args : Args
  pub given_is : given ≡ Ok args
  pub words_are : words ≡ map string_bytes (into_iter_items args)

-- why there are none: an allocation was refused, or a word is no text
abbrev pub AreUnread : Text → Result Args Error → CliFault → Type 0
AreUnread no_text given cli.Memory = Unit {0}
AreUnread no_text (Err error) (cli.Usage line) =
    (string_bytes line ≡ no_text) × (error_kind error ≢ OutOfMemory)
AreUnread no_text _ _ = ⊥

-- there are no words, and that was reported
pub record RefusesUnread {Out Log : Type 0} (no_text : Text) (contents : Out → Option Text)
    (held : Out → Text) (logged : Log → Option Text) (given : Result Args Error) (status : ℕ)
    (output output_after : Out) (log log_after : Watched Log) : Type 0 where
  pub why : CliFault
  pub unread : AreUnread no_text given why
  pub printed : PrintsWords contents held logged why status output output_after log log_after

-- the words that were read are answered
pub record AnswersRead {In File Out Log : Type 0} (remaining : In → Option Text)
    (file_remaining : File → Option Text) (contents : Out → Option Text) (held : Out → Text)
    (logged : Log → Option Text) (given : Result Args Error) (input : In) (status : ℕ)
    (output output_after : Out) (log log_after : Watched Log) : Type 0 where
  pub words : List Text
  pub are : AreWordsOf given words
  pub answers : AnswersWords remaining file_remaining contents held logged words input status output
      output_after log log_after

-- how a command line is answered, once the system was asked for its words
abbrev pub AnswersGiven : {In File Out Log : Type 0} → Text → (In → Option Text) → (File → Option Text)
    → (Out → Option Text) → (Out → Text) → (Log → Option Text) → Result Args Error → In → ℕ → Out → Out
    → Watched Log → Watched Log → Type 0
AnswersGiven no_text remaining file_remaining contents held logged given input status output output_after log
    log_after =
    AnswersRead remaining file_remaining contents held logged given input status output output_after log
    log_after
    ⊎ RefusesUnread no_text contents held logged given status output output_after log log_after

-- the same, for whatever words the system gave
abbrev pub AnswersCommandLine : {In File Out Log : Type 0} → Text → (In → Option Text)
    → (File → Option Text) → (Out → Option Text) → (Out → Text) → (Log → Option Text) → In → ℕ → Out → Out
    → Watched Log → Watched Log → Type 0
AnswersCommandLine no_text remaining file_remaining contents held logged input status output output_after log
    log_after =
    (given : Result Args Error) × AnswersGiven no_text remaining file_remaining contents held logged given
    input status output output_after log log_after
