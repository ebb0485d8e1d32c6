-- Instructions one after another, and the laws above the definition of one.
use Rattle.std.specs.Prelude.{◌≡◌, ◌⊎◌, ◌==◌, ◌||◌, ℕ, zero, suc, ◌+◌, ◌≤◌, Bool, true, false, List, length, slice_get, Some}
use Rattle.chv_defs_api.specs.declared.context.CpuNote.{CpuNote}
use Rattle.chv_defs_scene.specs.declared.scene.Line.{Line}
use Rattle.chv_defs_scene.specs.declared.scene.Line.TheVariants as line
use Rattle.chv_defs_guest.specs.declared.want.Want.TheVariants as want
use Rattle.chv_defs_guest.specs.declared.want.Got.{Got}
use Rattle.chv_defs_guest.specs.Instruction.{register, flag, step_of, settled, is_asking, CanBeRun, CanStep, CanSettle, Fits}

-- One instruction is executed, from a state to the next: it asks for nothing, or is settled with an answer that fits. (Which of
-- those answers it gets is the world's to say: see `Routing`. To halt behind the last line is to execute none.)
abbrev pub Executes : List Line → CpuNote → CpuNote → Type 0
Executes script cpu next =
    CanStep cpu
    × (((step_of script cpu).1 ≡ want.Nothing × next ≡ (step_of script cpu).0)
    ⊎ ((got : Got) × Fits (step_of script cpu).1 got × next ≡ settled (step_of script cpu).0 (step_of script cpu).1 got))

-- So many instructions are executed, one after another.
abbrev pub Runs : List Line → ℕ → CpuNote → CpuNote → Type 0
Runs script zero cpu end = end ≡ cpu
Runs script (suc n) cpu end = (next : CpuNote) × Executes script cpu next × Runs script n next end

-- The law of what is cut: an instruction that asks for something leaves the state as it was, with its position and fuel, until it
-- is settled; so where no answer comes it is asked again, the same, at no cost.
abbrev pub CutIsAskedAgain : Type 0
CutIsAskedAgain =
    (script : List Line) (cpu : CpuNote) → is_asking (step_of script cpu).1 ≡ true → (step_of script cpu).0 ≡ cpu

-- The law of fuel: each instruction costs one. So a run of so many instructions takes as much fuel, and there are never more than
-- the fuel at its beginning.
abbrev pub EachCostsOne : Type 0
EachCostsOne =
    (script : List Line) (n : ℕ) (cpu end : CpuNote) → Runs script n cpu end → end.fuel + n ≡ cpu.fuel

-- The law of what is asked: it can be settled in the state in which it was asked.
abbrev pub AskedCanSettle : Type 0
AskedCanSettle =
    (script : List Line) (cpu : CpuNote) → CanBeRun script → CanStep cpu → is_asking (step_of script cpu).1 ≡ true
    → CanSettle (step_of script cpu).1 (step_of script cpu).0

-- whether an instruction may write a register
abbrev pub writes : Line → ℕ → Bool
writes (line.Set rd value) r = rd == r
writes (line.Mov rd ra) r = rd == r
writes (line.Math o rd ra rb) r = rd == r
writes (line.Ld width rd ra offset) r = rd == r || flag == r
writes (line.St width rs ra offset) r = flag == r
writes (line.Put ra bytes) r = flag == r
writes (line.In width rd port) r = rd == r
writes l r = false

-- The law of registers: an instruction leaves all registers but those that it may write.
abbrev pub OthersStay : Type 0
OthersStay =
    (script : List Line) (l : Line) (cpu next : CpuNote) (r : ℕ) → slice_get script cpu.pos ≡ Some l → Executes script cpu next
    → writes l r ≡ false → register next r ≡ register cpu r

-- The law of the position: an instruction leaves the vCPU at a line of its script, or behind the last one.
abbrev pub StaysInScript : Type 0
StaysInScript = (script : List Line) (cpu next : CpuNote) → Executes script cpu next → next.pos ≤ length script
