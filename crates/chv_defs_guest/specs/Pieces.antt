-- The law above the piece that an instruction is: it can be made.
use Rattle.std.specs.Prelude.{◌≡◌, Bool, true, false, List}
use Rattle.chv_defs_base.specs.Numbers.{is_width}
use Rattle.chv_defs_api.specs.declared.config.ZoneConfig.{ZoneConfig}
use Rattle.chv_defs_api.specs.declared.context.CpuNote.{CpuNote}
use Rattle.chv_defs_api.specs.Registers.{is_port_width, IsRegAccess}
use Rattle.chv_defs_memory.specs.BankState.{is_owner_call, IsCall}
use Rattle.chv_defs_memory.specs.Zones.{IsBank}
use Rattle.chv_defs_scene.specs.declared.scene.Line.{Line}
use Rattle.chv_addr.specs.AddressMap.{is_within_limits, map_of}
use Rattle.chv_defs_guest.specs.declared.want.Want.{Want}
use Rattle.chv_defs_guest.specs.declared.want.Want.TheVariants as want
use Rattle.chv_defs_guest.specs.Instruction.{step_of, is_asking, CanBeRun, CanStep, Fits}
use Rattle.chv_defs_guest.specs.Routing.{Piece, route_of, piece_of}
use Rattle.chv_defs_guest.specs.Routing.Piece.{InBank, InControl, Known}

-- whether what a load or a read of a port asks for has a width that there is (a store and a write bring their bytes along)
abbrev pub has_width : Want → Bool
has_width (want.Load addr width reg) = is_width width
has_width (want.In width port reg) = is_port_width width
has_width _ = true

-- What can be made for what is asked: an access that a bank may be asked for, of bytes in one of its blocks; a register access,
-- of a width that its port or its window takes; or an answer that fits.
abbrev pub CanBeMade : Want → Piece → Type 0
CanBeMade asked (InBank zone bank made) = IsBank zone bank × IsCall bank made × (is_owner_call made ≡ false)
CanBeMade asked (InControl made) = IsRegAccess made
CanBeMade asked (Known answer) = Fits asked answer

-- The law of pieces: what a vCPU's next instruction asks for has a width that there is and can be made, whatever the zones in
-- effect are.
abbrev pub PiecesCanBeMade : Type 0
PiecesCanBeMade =
    (zones : List ZoneConfig) (script : List Line) (cpu : CpuNote) → is_within_limits zones ≡ true → CanBeRun script → CanStep cpu
    → is_asking (step_of script cpu).1 ≡ true
    → (has_width (step_of script cpu).1 ≡ true)
    × CanBeMade (step_of script cpu).1 (piece_of (step_of script cpu).1 (route_of (map_of zones) (step_of script cpu).1))
