-- One instruction of a vCPU, as a step of its saved state: what it asks of the world, and what the state is once the world
-- has answered. The instructions are this project's own. A register holds a number of 64 bits, and arithmetic wraps around.
use Rattle.std.specs.Prelude.{◌≡◌, ℕ, ◌+◌, ◌-◌, ◌%◌, ◌^◌, ◌<◌, ◌==◌, Bool, true, false, nat_lt, not, List, length, slice_get, slice_index, slice_set, position, unwrap_or, bit_and, bit_or, bit_xor, Option, None, Some, ⊤}
use Rattle.std.specs.List.{list_all}
use Rattle.std.specs.Str.{bytes_eq}
use Rattle.chv_defs_base.specs.Numbers.{le_bytes, le_number}
use Rattle.chv_defs_api.specs.declared.context.CpuNote.{CpuNote}
use Rattle.chv_defs_scene.specs.ScriptReading.{is_register, is_instruction}
use Rattle.chv_defs_scene.specs.declared.scene.Line.{Line}
use Rattle.chv_defs_scene.specs.declared.scene.Line.TheVariants as line
use Rattle.chv_defs_scene.specs.declared.scene.MathOp.{MathOp}
use Rattle.chv_defs_scene.specs.declared.scene.MathOp.TheVariants as op
use Rattle.chv_defs_guest.specs.declared.want.Want.{Want}
use Rattle.chv_defs_guest.specs.declared.want.Want.TheVariants as want
use Rattle.chv_defs_guest.specs.declared.want.Got.{Got}
use Rattle.chv_defs_guest.specs.declared.want.Got.TheVariants as got

-- ---- registers

-- what a register holds
abbrev pub register : CpuNote → ℕ → ℕ
register cpu r = slice_index cpu.regs r

-- with another value in a register
abbrev pub with_register : ℕ → ℕ → CpuNote → CpuNote
with_register r value cpu = record cpu { regs = slice_set cpu.regs r value }

-- the register that tells whether the last access to memory faulted: 1 where it did, and else 0
abbrev pub flag : ℕ
flag = 15

-- a sum, wrapped around
abbrev pub wrapped : ℕ → ℕ
wrapped n = n % 2 ^ 64

-- the lowest so many bytes of a value, as a number
abbrev pub lowest : ℕ → ℕ → ℕ
lowest width value = le_number (le_bytes width value)

-- what an operation makes of two values
abbrev pub calculated : MathOp → ℕ → ℕ → ℕ
calculated op.Add a b = wrapped (a + b)
calculated op.Sub a b = wrapped (a + (2 ^ 64 - b))
calculated op.And a b = bit_and a b
calculated op.Or a b = bit_or a b
calculated op.Xor a b = bit_xor a b

-- ---- the position

-- at a line, for one fuel
abbrev pub moved_to : ℕ → CpuNote → CpuNote
moved_to line cpu = record cpu { pos = line; fuel = cpu.fuel - 1 }

-- at the next line, for one fuel
abbrev pub moved : CpuNote → CpuNote
moved cpu = moved_to (cpu.pos + 1) cpu

-- whether an instruction is this label
abbrev pub is_label : List ℕ → Line → Bool
is_label name (line.At own) = bytes_eq own name
is_label name l = false

-- the place of a label's line in a script, counted from 0 (the reader of scripts takes no jump to a label that is not there)
abbrev pub label_place : List Line → List ℕ → ℕ
label_place script name = unwrap_or (position (is_label name) script) 0

-- at a label's line where the jump is made, and else at the next line
abbrev pub jumped_if : Bool → List Line → List ℕ → CpuNote → CpuNote
jumped_if true script to cpu = moved_to (label_place script to) cpu
jumped_if false script to cpu = moved cpu

-- ---- one instruction

-- The state behind an instruction that asks for nothing, and that it asks for nothing; or what it asks for, in the state before
-- it, in which it stands until it has the answer. (`halt` is an instruction like the others, which asks for nothing.)
abbrev pub instruction : List Line → Line → CpuNote → CpuNote × Want
instruction script (line.At name) cpu = (moved cpu, want.Nothing)
instruction script (line.Set rd value) cpu = (moved (with_register rd value cpu), want.Nothing)
instruction script (line.Mov rd ra) cpu = (moved (with_register rd (register cpu ra) cpu), want.Nothing)
instruction script (line.Math o rd ra rb) cpu = (moved (with_register rd (calculated o (register cpu ra) (register cpu rb)) cpu), want.Nothing)
instruction script (line.Ld width rd ra offset) cpu = (cpu, want.Load (wrapped (register cpu ra + offset)) width rd)
instruction script (line.St width rs ra offset) cpu = (cpu, want.Store (wrapped (register cpu ra + offset)) (le_bytes width (register cpu rs)) false)
instruction script (line.Put ra bytes) cpu = (cpu, want.Store (register cpu ra) bytes true)
instruction script (line.In width rd port) cpu = (cpu, want.In width port rd)
instruction script (line.Out width rs port) cpu = (cpu, want.Out width port (lowest width (register cpu rs)))
instruction script (line.Jmp to) cpu = (jumped_if true script to cpu, want.Nothing)
instruction script (line.Jz ra to) cpu = (jumped_if (register cpu ra == 0) script to cpu, want.Nothing)
instruction script (line.Jnz ra to) cpu = (jumped_if (not (register cpu ra == 0)) script to cpu, want.Nothing)
instruction script (line.Jlt ra rb to) cpu = (jumped_if (nat_lt (register cpu ra) (register cpu rb)) script to cpu, want.Nothing)
instruction script line.Halt cpu = (moved (record cpu { halted = true }), want.Nothing)

-- The same at a line that may be there. Past the last line the vCPU halts without an instruction and without cost.
abbrev pub step_at : List Line → Option Line → CpuNote → CpuNote × Want
step_at script None cpu = (record cpu { halted = true }, want.Halted)
step_at script (Some l) cpu = instruction script l cpu

-- What a vCPU does next that has not halted and has fuel: the state that it comes to, and what it asks for.
abbrev pub step_of : List Line → CpuNote → CpuNote × Want
step_of script cpu = step_at script (slice_get script cpu.pos) cpu

-- ---- the answer

-- Behind an access to memory: the flag tells whether it faulted. It is written last, so that it stands where a value was loaded
-- into its register.
abbrev pub flagged : ℕ → CpuNote → CpuNote
flagged fault cpu = moved (with_register flag fault cpu)

-- The state once the world has answered what was asked. An access that faulted changes nothing but the flag. (`Fits` says which
-- answers there can be; another one would leave the vCPU as it is, so that it asks again.)
abbrev pub settled : CpuNote → Want → Got → CpuNote
settled cpu (want.Load addr width reg) (got.Value value) = flagged 0 (with_register reg value cpu)
settled cpu (want.Load addr width reg) got.Fault = flagged 1 cpu
settled cpu (want.Store addr bytes put) got.Done = flagged 0 cpu
settled cpu (want.Store addr bytes put) got.Fault = flagged 1 cpu
settled cpu (want.In width port reg) (got.Value value) = moved (with_register reg value cpu)
settled cpu (want.Out width port value) got.Done = moved cpu
settled cpu _ _ = cpu

-- a value of so many bytes
abbrev pub IsValueOf : ℕ → ℕ → Type 0
IsValueOf width value = value < 256 ^ width

-- The answers that there can be to what is asked: a value of the width to a load or a read, done to a store or a write, and a
-- fault to a load or a store.
abbrev pub Fits : Want → Got → Type 0
Fits (want.Load addr width reg) (got.Value value) = IsValueOf width value
Fits (want.Load addr width reg) got.Fault = ⊤
Fits (want.Store addr bytes put) got.Done = ⊤
Fits (want.Store addr bytes put) got.Fault = ⊤
Fits (want.In width port reg) (got.Value value) = IsValueOf width value
Fits (want.Out width port value) got.Done = ⊤
Fits _ _ = ⊥

-- whether something is asked of the world
abbrev pub is_asking : Want → Bool
is_asking want.Nothing = false
is_asking want.Halted = false
is_asking _ = true

-- ---- who can go on

-- A script whose lines are instructions, and which has fewer lines than a position can tell apart. (The reader of scenarios takes
-- at most 4,096.)
pub record CanBeRun (script : List Line) : Type 0 where
  pub instructions : list_all is_instruction script ≡ true
  pub short : length script < 2 ^ 32

-- A vCPU that has not halted and has fuel. (It may stand behind the last line of its script, however far: then it halts.)
pub record CanStep (cpu : CpuNote) : Type 0 where
  pub runs : cpu.halted ≡ false
  pub fuel : 0 < cpu.fuel

-- whether a value that is asked for goes to a register that there is
abbrev pub goes_to_register : Want → Bool
goes_to_register (want.Load addr width reg) = is_register reg
goes_to_register (want.In width port reg) = is_register reg
goes_to_register _ = true

-- A vCPU that waits for what it asked: it has fuel, a further line's number, and a register for what it gets.
pub record CanSettle (asked : Want) (cpu : CpuNote) : Type 0 where
  pub asks : is_asking asked ≡ true
  pub register : goes_to_register asked ≡ true
  pub fuel : 0 < cpu.fuel
  pub place : cpu.pos + 1 < 2 ^ 32
