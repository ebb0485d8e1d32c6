-- Why nothing was played, and what a status says of a run that plays, by cases.
use Rattle.std.specs.Prelude.{◌≡◌, ◌⊎◌, ◌≤◌, ◌<◌, ℕ, List, [], Option, Result, Ok, Err, length}
use Rattle.chv_defs_api.specs.declared.shelf.OnShelf.{OnShelf}
use Rattle.chv_defs_scene.specs.declared.scene.Scene.{Scene}
use Rattle.chv_defs_base.specs.declared.book.Full.{Full}
use Rattle.chv_defs.specs.declared.trace.Trace.{Trace}
use Rattle.chv_io.specs.Outside.{Rose, Gains, GainsPart}
use Rattle.chv_defs.specs.ProgramText.{full_line, read_fault_line, scene_fault_line, too_long_line}
use Rattle.chv_scene.specs.Played.{read_played}
use Rattle.chv_defs.specs.TraceText.{trace_text}
use Rattle.chv_defs.specs.LegalTrace.{IsLegalTrace}
use Rattle.chv_top.specs.Outcome.{IsFull, IsInput, IsPartOfOwed, IsPlayed, IsRead, IsRefused, IsTooLong, most_input, of_schedule, text_of}
use Rattle.chv_top.specs.declared.status.Status.{Status}
use Rattle.chv_top.specs.declared.status.Status.TheVariants as status
use Rattle.chv_top.specs.declared.program.Stop.{Stop}
use Rattle.chv_top.specs.declared.program.Stop.TheVariants as stop

-- The input, read to its end, is this scenario.
pub record IsScene (left left_after : Option (List ℕ)) (scene : Scene) : Type 0 where
  pub text : List ℕ
  pub read : IsRead left left_after text
  pub scenario : read_played text ≡ Ok scene.sessions
  pub few : length scene.sessions ≤ 16

-- why there is none
abbrev pub StopsBy : Option (List ℕ) → Option (List ℕ) → ℕ → ℕ → Stop → Type 0
StopsBy left left_after reads reads_after stop.Memory = Unit {0}
StopsBy left left_after reads reads_after stop.ReadFault = Rose reads reads_after
StopsBy left left_after reads reads_after stop.TooLong = (text : List ℕ) × IsInput left text × (most_input < length text)
StopsBy left left_after reads reads_after (stop.Scene fault) =
    (text : List ℕ) × IsRead left left_after text × (read_played text ≡ Err (record { line = fault.line; reason = fault.reason }))

-- The text was written and the status is this one; or a first part of it was, and the output had a fault.
abbrev pub Writes : Option (List ℕ) → Option (List ℕ) → ℕ → ℕ → List ℕ → Status → Status → Type 0
Writes written written_after writes writes_after text wanted result =
    ((result ≡ wanted) × Gains written written_after text)
    ⊎ ((result ≡ status.WriteFault) × Rose writes writes_after × GainsPart written written_after text)

-- What a status says of a run that writes the line of why there is no scenario.
abbrev pub Tells : Option (List ℕ) → Option (List ℕ) → ℕ → ℕ → Stop → Status → Type 0
Tells written written_after writes writes_after stop.Memory result = (result ≡ status.Memory) × (written_after ≡ written)
Tells written written_after writes writes_after stop.ReadFault result =
    Writes written written_after writes writes_after read_fault_line status.ReadFault result
Tells written written_after writes writes_after stop.TooLong result =
    Writes written written_after writes writes_after too_long_line (status.TooLong 16777217) result
Tells written written_after writes writes_after (stop.Scene fault) result =
    Writes written written_after writes writes_after (scene_fault_line fault.line fault.reason) (status.Scene fault.line fault.reason) result
    ⊎ ((result ≡ status.Memory) × (written_after ≡ written))

-- a trace of sessions alone: no disk is made, and no vCPU has a script
pub record IsPlain (trace : Trace) : Type 0 where
  pub disks : trace.disks ≡ []
  pub vcpus : trace.vcpus ≡ []

-- What a status says of a run that writes a trace.
abbrev pub ReportsTrace : Trace → Option (List ℕ) → Option (List ℕ) → ℕ → ℕ → Status → Type 0
ReportsTrace trace written written_after writes writes_after result =
    Writes written written_after writes writes_after (trace_text trace) status.Done result
    ⊎ ((result ≡ status.Memory) × GainsPart written written_after (trace_text trace))

-- What a status says of a run that writes the line of a book that is full.
abbrev pub ReportsFull : Full → Option (List ℕ) → Option (List ℕ) → ℕ → ℕ → Status → Type 0
ReportsFull full written written_after writes writes_after result =
    Writes written written_after writes writes_after (full_line full) (status.Full full.book full.entries full.bytes) result
    ⊎ ((result ≡ status.Memory) × (written_after ≡ written))

-- What a status says of a run that writes what the schedule of its scenario comes to.
abbrev pub Reports : List OnShelf → Result Trace Full → Option (List ℕ) → Option (List ℕ) → ℕ → ℕ → Status → Type 0
Reports shelf given written written_after writes writes_after status.Done =
    (trace : Trace) × (given ≡ Ok trace) × IsLegalTrace shelf trace × Gains written written_after (trace_text trace)
Reports shelf given written written_after writes writes_after (status.Full book entries bytes) =
    (given ≡ Err (record { book = book; entries = entries; bytes = bytes }))
    × Gains written written_after (full_line (record { book = book; entries = entries; bytes = bytes }))
Reports shelf given written written_after writes writes_after status.WriteFault =
    Rose writes writes_after × GainsPart written written_after (text_of (of_schedule given))
Reports shelf given written written_after writes writes_after status.Memory =
    GainsPart written written_after (text_of (of_schedule given))
Reports shelf given written written_after writes writes_after _ = ⊥

-- What a status says of a run that plays its input, where these disks stand by.
abbrev pub Says : List OnShelf → Option (List ℕ) → Option (List ℕ) → ℕ → ℕ → Option (List ℕ) → Option (List ℕ) → ℕ → ℕ → Status → Type 0
Says shelf left left_after reads reads_after written written_after writes writes_after status.Done =
    IsPlayed shelf left left_after written written_after
Says shelf left left_after reads reads_after written written_after writes writes_after status.Usage = ⊥
Says shelf left left_after reads reads_after written written_after writes writes_after (status.Scene line reason) =
    IsRefused left left_after written written_after line reason
Says shelf left left_after reads reads_after written written_after writes writes_after status.ReadFault =
    Rose reads reads_after × Gains written written_after read_fault_line
Says shelf left left_after reads reads_after written written_after writes writes_after status.WriteFault =
    Rose writes writes_after × IsPartOfOwed shelf left reads reads_after written written_after
Says shelf left left_after reads reads_after written written_after writes writes_after status.Memory =
    (written_after ≡ written) ⊎ IsPartOfOwed shelf left reads reads_after written written_after
Says shelf left left_after reads reads_after written written_after writes writes_after (status.Full book entries bytes) =
    IsFull shelf left left_after written written_after (record { book = book; entries = entries; bytes = bytes })
Says shelf left left_after reads reads_after written written_after writes writes_after (status.TooLong bytes) =
    (bytes ≡ 16777217) × IsTooLong left written written_after
