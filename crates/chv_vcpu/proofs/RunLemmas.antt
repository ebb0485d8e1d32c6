-- Lemmas for the laws of runs.
use Rattle.std.specs.Prelude.{◌==◌, ◌⊎◌, not, nat_lt}
use Rattle.std.proofs.Common.{◌≤◌, inl, inr, subst, ◌≡◌, ◌<◌, ◌+◌, ℕ, zero, suc, Bool, List, Option, None, Some, true, false, length, slice_get, refl, sym, arith, rules}
use Rattle.std.proofs.lemmas.Option.{slice_get_within}
use Rattle.chv_defs_api.specs.declared.context.CpuNote.{CpuNote}
use Rattle.chv_defs_scene.specs.ScriptReading.{is_instruction}
use Rattle.chv_defs_scene.specs.declared.scene.Line.{Line}
use Rattle.chv_defs_scene.specs.declared.scene.Line.TheVariants as line
use Rattle.chv_defs_guest.specs.declared.want.Want.{Want}
use Rattle.chv_defs_guest.specs.declared.want.Want.TheVariants as want
use Rattle.chv_defs_guest.specs.declared.want.Got.{Got}
use Rattle.chv_defs_guest.specs.declared.want.Got.TheVariants as got
use Rattle.chv_defs_guest.proofs.ScriptLemmas.{line_is_instruction}
use Rattle.chv_defs_guest.specs.Instruction.{CanBeRun, CanSettle, CanStep, Fits, goes_to_register, instruction, is_asking, jumped_if, register, settled, step_at}
use Rattle.chv_defs_guest.specs.Runs.{AskedCanSettle, Executes, Runs, StaysInScript}
use Rattle.chv_vcpu.proofs.LabelLemmas.{label_place-within}

pub executes_costs : (script : List Line) (cpu next : CpuNote) → Executes script cpu next → next.fuel + 1 ≡ cpu.fuel
executes_costs script cpu next e = search rules

pub runs_cost : (script : List Line) (n : ℕ) (cpu end : CpuNote) → Runs script n cpu end → end.fuel + n ≡ cpu.fuel
runs_cost script zero cpu end e = search rules
runs_cost script (suc n) cpu end (next, first, rest) = omega (arith, executes_costs script cpu next first, runs_cost script n next end rest)

-- what an instruction asks for, it asks in the state before it
asked_same : (script : List Line) (l : Line) (cpu : CpuNote) → is_asking (instruction script l cpu).1 ≡ true → (instruction script l cpu).0 ≡ cpu
asked_same script l cpu asks = search rules

-- the same, for a register that there is
asking : (script : List Line) (l : Line) (cpu : CpuNote) → is_instruction l ≡ true → is_asking (instruction script l cpu).1 ≡ true
    → ((instruction script l cpu).0 ≡ cpu) × (goes_to_register (instruction script l cpu).1 ≡ true)
asking script l cpu good asks = search rules

asked_at : (script : List Line) (cpu : CpuNote) → CanBeRun script → CanStep cpu → (o : Option Line) → slice_get script cpu.pos ≡ o
    → is_asking (step_at script o cpu).1 ≡ true → CanSettle (step_at script o cpu).1 (step_at script o cpu).0
asked_at script cpu run can None e asks = search rules
asked_at script cpu run can (Some l) e asks =
    let inside = slice_get_within script cpu.pos l e in
    let kept = asking script l cpu (line_is_instruction script cpu.pos l run.instructions e) asks in
    rw kept.0 (record { asks = asks; register = kept.1; fuel = can.fuel; place = omega (arith, inside, run.short) })

pub asked_can : AskedCanSettle
asked_can script cpu run can asks = asked_at script cpu run can (slice_get script cpu.pos) refl asks

-- ---- the position

jump-within : (script : List Line) (name : List ℕ) (cpu : CpuNote) (made : Bool) → cpu.pos < length script → (jumped_if made script name cpu).pos ≤ length script
jump-within script name cpu true inside = label_place-within script name
jump-within script name cpu false inside = omega (arith, inside)

-- the position behind an instruction, and behind what settles it
quiet-within : (script : List Line) (l : Line) (cpu : CpuNote) → cpu.pos < length script → (instruction script l cpu).0.pos ≤ length script
quiet-within script (line.At name) cpu inside = omega (arith, inside)
quiet-within script (line.Set rd value) cpu inside = omega (arith, inside)
quiet-within script (line.Mov rd ra) cpu inside = omega (arith, inside)
quiet-within script (line.Math o rd ra rb) cpu inside = omega (arith, inside)
quiet-within script (line.Ld width rd ra offset) cpu inside = omega (arith, inside)
quiet-within script (line.St width rs ra offset) cpu inside = omega (arith, inside)
quiet-within script (line.Put ra bytes) cpu inside = omega (arith, inside)
quiet-within script (line.In width rd port) cpu inside = omega (arith, inside)
quiet-within script (line.Out width rs port) cpu inside = omega (arith, inside)
quiet-within script (line.Jmp to) cpu inside = label_place-within script to
quiet-within script (line.Jz ra to) cpu inside = jump-within script to cpu (register cpu ra == 0) inside
quiet-within script (line.Jnz ra to) cpu inside = jump-within script to cpu (not (register cpu ra == 0)) inside
quiet-within script (line.Jlt ra rb to) cpu inside = jump-within script to cpu (nat_lt (register cpu ra) (register cpu rb)) inside
quiet-within script line.Halt cpu inside = omega (arith, inside)

settled-within : (cpu : CpuNote) (w : Want) (got : Got) (n : ℕ) → cpu.pos < n → (settled cpu w got).pos ≤ n
settled-within cpu (want.Load addr width reg) (got.Value value) n inside = omega (arith, inside)
settled-within cpu (want.Load addr width reg) got.Fault n inside = omega (arith, inside)
settled-within cpu (want.Load addr width reg) got.Done n inside = omega (arith, inside)
settled-within cpu (want.Store addr bytes put) (got.Value value) n inside = omega (arith, inside)
settled-within cpu (want.Store addr bytes put) got.Fault n inside = omega (arith, inside)
settled-within cpu (want.Store addr bytes put) got.Done n inside = omega (arith, inside)
settled-within cpu (want.In width port reg) (got.Value value) n inside = omega (arith, inside)
settled-within cpu (want.In width port reg) got.Fault n inside = omega (arith, inside)
settled-within cpu (want.In width port reg) got.Done n inside = omega (arith, inside)
settled-within cpu (want.Out width port value) (got.Value read) n inside = omega (arith, inside)
settled-within cpu (want.Out width port value) got.Fault n inside = omega (arith, inside)
settled-within cpu (want.Out width port value) got.Done n inside = omega (arith, inside)
settled-within cpu want.Nothing answer n inside = omega (arith, inside)
settled-within cpu want.Halted answer n inside = omega (arith, inside)

-- what an answer fits was asked for
fits-asked : (w : Want) (got : Got) → Fits w got → is_asking w ≡ true
fits-asked w got fits = search rules

stays-at : (script : List Line) (cpu : CpuNote) (o : Option Line) → slice_get script cpu.pos ≡ o → (next : CpuNote)
    → (((step_at script o cpu).1 ≡ want.Nothing × next ≡ (step_at script o cpu).0)
    ⊎ ((got : Got) × Fits (step_at script o cpu).1 got × next ≡ settled (step_at script o cpu).0 (step_at script o cpu).1 got)) → next.pos ≤ length script
stays-at script cpu None e next (inl (none, same)) = cc
stays-at script cpu None e next (inr (got, fits, same)) = elim fits [ ]
stays-at script cpu (Some l) e next (inl (none, same)) =
    let P : CpuNote → Type 0 = λ c. c.pos ≤ length script in
    subst P (sym same) (quiet-within script l cpu (slice_get_within script cpu.pos l e))
stays-at script cpu (Some l) e next (inr (got, fits, same)) =
    let P : CpuNote → Type 0 = λ c. c.pos ≤ length script in
    let asks = fits-asked (instruction script l cpu).1 got fits in
    let kept : (instruction script l cpu).0 ≡ cpu = asked_same script l cpu asks in
    let Q : CpuNote → Type 0 = λ c. (settled c (instruction script l cpu).1 got).pos ≤ length script in
    subst P (sym same) (subst Q (sym kept) (settled-within cpu (instruction script l cpu).1 got (length script) (slice_get_within script cpu.pos l e)))

pub stays : StaysInScript
stays script cpu next (can, made) = stays-at script cpu (slice_get script cpu.pos) refl next made
