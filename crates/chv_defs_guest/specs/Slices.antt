-- What a slice of a vCPU is, from the note with which it is taken to the note with which it is handed back.
use Rattle.std.specs.Prelude.{◌≡◌, ◌≤◌, ◌⊎◌, ℕ, true, List, Option, None, Some}
use Rattle.chv_defs_api.specs.declared.config.ZoneConfig.{ZoneConfig}
use Rattle.chv_defs_api.specs.declared.context.ContextNote.TheVariants as context
use Rattle.chv_defs_api.specs.declared.context.CpuNote.{CpuNote}
use Rattle.chv_defs_api.specs.declared.context.HandNote.{HandNote}
use Rattle.chv_defs_api.specs.declared.context.SliceEnd.{SliceEnd}
use Rattle.chv_defs_api.specs.declared.context.SliceEnd.TheVariants as end
use Rattle.chv_defs_api.specs.declared.context.StopCause.{StopCause}
use Rattle.chv_defs_api.specs.declared.context.StopCause.TheVariants as cause
use Rattle.chv_defs_api.specs.declared.control.ControlCall.{ControlCall}
use Rattle.chv_defs_memory.specs.declared.bank.BankCall.{BankCall}
use Rattle.chv_defs_memory.specs.Lending.{Access}
use Rattle.chv_defs_scene.specs.declared.scene.Line.{Line}
use Rattle.chv_addr.specs.AddressMap.{AddressMap, is_within_limits, map_of}
use Rattle.chv_defs_guest.specs.Course.{Ends, Exchange, IsSlice, books_of}
use Rattle.chv_defs_guest.specs.Moments.{Moment}
use Rattle.chv_defs_guest.specs.VcpuCourse.{most_instructions, vcpu_course}
use Rattle.chv_defs_guest.specs.Worlds.{Does}

-- These exchanges are the slice of a vCPU that was taken with one note and handed back so: they are what its course of at most 64
-- instructions makes of what they came to, it ends with the note and the end of the Hand, and the order of the Hand names the books
-- of its entries.
pub record IsVcpuSlice (map : AddressMap) (script : List Line) (taken : CpuNote) (exchanges : List Exchange) (hand : HandNote) : Type 0 where
  pub note : CpuNote
  pub handed : hand.note ≡ context.Cpu note
  pub slice : IsSlice (vcpu_course map script most_instructions taken) exchanges note hand.end
  pub order : hand.order ≡ books_of exchanges

-- It is the address map of some zones within the limits.
abbrev pub IsMapOfZones : AddressMap → Type 0
IsMapOfZones map = (zones : List ZoneConfig) × (is_within_limits zones ≡ true) × (map ≡ map_of zones)

-- Memory was wanted for a call before it was made: what was done of the slice leaves the course from the note as it stands, it ends
-- Stopped, and its cause is the want of memory.
pub record StopsForMemory {W : Type 0} (accesses : W → ℕ → ℕ → BankCall → Access → W → Type 0) (asks : W → ControlCall → W → Type 0)
    (map : AddressMap) (script : List Line) (taken : CpuNote) (before : W) (then : Moment) (after : W) (now : Option StopCause → Moment)
    (note : CpuNote) (how : SliceEnd) (why : Option StopCause) : Type 0 where
  pub left : ℕ
  pub few : left ≤ most_instructions
  pub does : Does accesses asks (vcpu_course map script most_instructions taken) before then after (now None) (vcpu_course map script left note)
  pub stops : how ≡ end.Stopped
  pub wants : why ≡ Some cause.Memory

-- A slice of a vCPU was made at a value, from one moment of it to another: exchanges that are a whole slice, whose end and whose cause
-- these are; or, where memory was wanted for a call before it was made, those of a slice up to that call.
abbrev pub MakesSlice : {W : Type 0} → (W → ℕ → ℕ → BankCall → Access → W → Type 0) → (W → ControlCall → W → Type 0)
    → AddressMap → List Line → CpuNote → W → Moment → W → (Option StopCause → Moment) → CpuNote → SliceEnd → Option StopCause → Type 0
MakesSlice accesses asks map script taken before then after now note how why =
    Does accesses asks (vcpu_course map script most_instructions taken) before then after (now why) (Ends note how)
    ⊎ StopsForMemory accesses asks map script taken before then after now note how why
