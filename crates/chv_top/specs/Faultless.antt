-- A fault of the outside is told as a fault, and as nothing else.
use Rattle.std.specs.Prelude.{◌≡◌, ◌⊎◌, ℕ}
use Rattle.chv_top.specs.declared.status.Status.{Status}
use Rattle.chv_top.specs.declared.status.Status.TheVariants as status
use Rattle.chv_top.specs.declared.program.Stop.{Stop}
use Rattle.chv_top.specs.declared.program.Stop.TheVariants as stop

-- Neither the input nor the output had a fault: no count rose.
pub record NoneRose (reads reads_after writes writes_after : ℕ) : Type 0 where
  pub reads_stay : reads_after ≡ reads
  pub writes_stay : writes_after ≡ writes

-- Where the status is no fault, none came. At a read fault the output had none: the line that says so was written. At a write
-- fault the input may have had one too, of which the line could not be written.
abbrev pub TellsFaults : Status → ℕ → ℕ → ℕ → ℕ → Type 0
TellsFaults status.ReadFault reads reads_after writes writes_after = writes_after ≡ writes
TellsFaults status.WriteFault reads reads_after writes writes_after = Unit {0}
TellsFaults _ reads reads_after writes writes_after = NoneRose reads reads_after writes writes_after

-- Why nothing is played: the input had a fault only where that is why.
abbrev pub StopsFaultless : Stop → ℕ → ℕ → Type 0
StopsFaultless stop.ReadFault reads reads_after = Unit {0}
StopsFaultless _ reads reads_after = reads_after ≡ reads

-- The output had a fault only where the status is a write fault.
abbrev pub WritesFaultless : Status → ℕ → ℕ → Type 0
WritesFaultless result writes writes_after = (result ≡ status.WriteFault) ⊎ (writes_after ≡ writes)
