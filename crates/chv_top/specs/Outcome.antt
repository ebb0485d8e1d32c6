-- What each status of the program says of a run.
use Rattle.std.specs.Prelude.{◌≡◌, ◌≤◌, ◌<◌, ◌⊎◌, ℕ, nat_lt, if◌then◌else◌, length, List, [], Option, IfSome, Result, Ok, Err}
use Rattle.chv_defs_base.specs.declared.book.Full.{Full}
use Rattle.chv_defs_base.specs.declared.rule.Reason.{Reason}
use Rattle.chv_defs_api.specs.declared.shelf.OnShelf.{OnShelf}
use Rattle.chv_defs.specs.declared.trace.Trace.{Trace}
use Rattle.chv_io.specs.Outside.{Rose, Loses, Gains, GainsPart}
use Rattle.chv_defs.specs.ProgramText.{full_line, read_fault_line, scene_fault_line, too_long_line}
use Rattle.chv_defs_scene.specs.ScenarioText.{Fault}
use Rattle.chv_scene.specs.Played.{Sessions, read_played}
use Rattle.chv_defs.specs.Schedule.{schedule}
use Rattle.chv_defs.specs.TraceText.{trace_text}
use Rattle.chv_defs.specs.LegalTrace.{IsLegalTrace}
use Rattle.chv_play.specs.Played.{AreNumberedFromOne}
use Rattle.chv_play.specs.OwnStream.{AskTheirOwn}
use Rattle.chv_top.specs.declared.status.Status.{Status}
use Rattle.chv_top.specs.declared.status.Status.TheVariants as status

-- the exit code of each status
abbrev pub exit_code : Status → ℕ
exit_code status.Done = 0
exit_code status.Usage = 1
exit_code (status.Scene line reason) = 2
exit_code status.ReadFault = 3
exit_code status.WriteFault = 4
exit_code status.Memory = 6
exit_code (status.Full book entries bytes) = 7
exit_code (status.TooLong bytes) = 9

-- the most bytes that an input has
abbrev pub most_input : ℕ
most_input = 16777216

-- ---- what an input comes to

-- What playing an input comes to, where nothing outside fails: it is too long, or its first line that fails, or the book
-- that is full first, or the trace.
pub data Outcome : Type 0 where
  TooLong : Outcome
  Refused : (fault : Fault) → Outcome
  Fills : (full : Full) → Outcome
  Gives : (trace : Trace) → Outcome

-- what the schedule of a scenario comes to
abbrev pub of_schedule : Result Trace Full → Outcome
of_schedule (Ok trace) = Gives trace
of_schedule (Err full) = Fills full

-- what a scenario comes to, where these disks stand by
abbrev pub of_scenario : List OnShelf → Result Sessions Fault → Outcome
of_scenario shelf (Ok sessions) = of_schedule (schedule shelf sessions)
of_scenario shelf (Err fault) = Refused fault

-- what an input comes to, where these disks stand by
abbrev pub outcome_of : List OnShelf → List ℕ → Outcome
outcome_of shelf input = if nat_lt most_input (length input) then TooLong else of_scenario shelf (read_played input)

-- the status that says so
abbrev pub status_of : Outcome → Status
status_of TooLong = status.TooLong 16777217
status_of (Refused fault) = status.Scene fault.line fault.reason
status_of (Fills full) = status.Full full.book full.entries full.bytes
status_of (Gives trace) = status.Done

-- the text that is owed to the output
abbrev pub text_of : Outcome → List ℕ
text_of TooLong = too_long_line
text_of (Refused fault) = scene_fault_line fault.line fault.reason
text_of (Fills full) = full_line full
text_of (Gives trace) = trace_text trace

-- ---- what was read

-- The input is this text, where it tells its bytes.
abbrev pub IsInput : Option (List ℕ) → List ℕ → Type 0
IsInput left text = IfSome left (λ input. input ≡ text)

-- The input is this text, which is not too long, and was read to its end, where it tells its bytes.
pub record IsRead (left left_after : Option (List ℕ)) (text : List ℕ) : Type 0 where
  pub whole : IsInput left text
  pub end : IfSome left_after (λ rest. rest ≡ [])
  pub short : length text ≤ most_input

-- At most so many bytes were taken from the input, where it tells them.
abbrev pub TakesAtMost : Option (List ℕ) → Option (List ℕ) → ℕ → Type 0
TakesAtMost left left_after most = (taken : List ℕ) × Loses left left_after taken × (length taken ≤ most)

-- ---- what the statuses say

-- A scenario was played: the input, read to its end, is a scenario of these sessions; the trace is the one that the
-- schedule gives, where these disks stand by, and what was written is its text. It has one log for each of the sessions, which
-- are numbered from 1 on, and each of which asked of the stream of its own section. It is legal: so are its control history,
-- which is made of the calls of these sessions alone, those of each in order, and the history of each bank, in which the
-- owner's calls are those that the control history asks for.
pub record IsPlayed (shelf : List OnShelf) (left left_after written written_after : Option (List ℕ)) : Type 0 where
  pub text : List ℕ
  pub sessions : Sessions
  pub trace : Trace
  pub read : IsRead left left_after text
  pub scenario : read_played text ≡ Ok sessions
  pub scheduled : schedule shelf sessions ≡ Ok trace
  pub one_each : length trace.sessions ≡ length sessions
  pub numbered : AreNumberedFromOne trace.sessions
  pub own_streams : AskTheirOwn sessions trace.sessions
  pub legal : IsLegalTrace shelf trace
  pub output : Gains written written_after (trace_text trace)

-- The input, read to its end, is no scenario: this is its first line that fails, and why. The line that says so was written.
pub record IsRefused (left left_after written written_after : Option (List ℕ)) (line : ℕ) (reason : Reason) : Type 0 where
  pub text : List ℕ
  pub read : IsRead left left_after text
  pub fault : read_played text ≡ Err (record { line = line; reason = reason })
  pub output : Gains written written_after (scene_fault_line line reason)

-- The input, read to its end, is a scenario, of which the schedule says that this book is full first. The line that says so
-- was written.
pub record IsFull (shelf : List OnShelf) (left left_after written written_after : Option (List ℕ)) (full : Full) : Type 0 where
  pub text : List ℕ
  pub sessions : Sessions
  pub read : IsRead left left_after text
  pub scenario : read_played text ≡ Ok sessions
  pub fills : schedule shelf sessions ≡ Err full
  pub output : Gains written written_after (full_line full)

-- The input is longer than any scenario, where it tells its bytes. The line that says so was written.
pub record IsTooLong (left written written_after : Option (List ℕ)) : Type 0 where
  pub long : IfSome left (λ input. most_input < length input)
  pub output : Gains written written_after too_long_line

-- the text that a run owes to its output: that of what the input comes to, or the line of the fault that reading met
abbrev pub IsOwed : List OnShelf → Option (List ℕ) → ℕ → ℕ → List ℕ → Type 0
IsOwed shelf left reads reads_after text =
    ((input : List ℕ) × IsInput left input × (text ≡ text_of (outcome_of shelf input)))
    ⊎ (Rose reads reads_after × (text ≡ read_fault_line))

-- A first part of what is owed was written, perhaps none.
abbrev pub IsPartOfOwed : List OnShelf → Option (List ℕ) → ℕ → ℕ → Option (List ℕ) → Option (List ℕ) → Type 0
IsPartOfOwed shelf left reads reads_after written written_after =
    (text : List ℕ) × IsOwed shelf left reads reads_after text × GainsPart written written_after text

-- Where the input tells its bytes and neither count rose, the status is that of what the input comes to, unless there is no
-- memory.
abbrev pub IsComplete : List OnShelf → Option (List ℕ) → ℕ → ℕ → ℕ → ℕ → Status → Type 0
IsComplete shelf left reads reads_after writes writes_after result =
    IfSome left (λ input. (Rose reads reads_after → ⊥) → (Rose writes writes_after → ⊥)
    → (result ≡ status_of (outcome_of shelf input)) ⊎ (result ≡ status.Memory))
