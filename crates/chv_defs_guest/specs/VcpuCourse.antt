-- The course of a vCPU: up to so many instructions, each of which makes at most one call.
use Rattle.std.specs.Prelude.{◌+◌, ℕ, zero, suc, ◌==◌, ◌||◌, Bool, List, Option, None, Some, Ok, Err, if◌then◌else◌}
use Rattle.chv_defs_base.specs.Numbers.{le_number}
use Rattle.chv_defs_base.specs.declared.book.BookId.TheVariants as book
use Rattle.chv_defs_api.specs.declared.context.CpuNote.{CpuNote}
use Rattle.chv_defs_api.specs.declared.context.SliceEnd.{SliceEnd}
use Rattle.chv_defs_api.specs.declared.context.SliceEnd.TheVariants as end
use Rattle.chv_defs_api.specs.declared.control.ControlCall.TheVariants as call
use Rattle.chv_defs_api.specs.declared.control.ControlReply.{ControlReply}
use Rattle.chv_defs_api.specs.declared.control.ControlReply.TheVariants as answer
use Rattle.chv_defs_memory.specs.declared.bank.BankReply.{BankReply}
use Rattle.chv_defs_memory.specs.declared.bank.BankReply.TheVariants as reply
use Rattle.chv_defs_memory.specs.declared.bank.Refusal.TheVariants as refusal
use Rattle.chv_defs_memory.specs.Lending.{Access}
use Rattle.chv_defs_scene.specs.declared.scene.Line.{Line}
use Rattle.chv_addr.specs.AddressMap.{AddressMap}
use Rattle.chv_defs_guest.specs.declared.want.Want.{Want}
use Rattle.chv_defs_guest.specs.declared.want.Want.TheVariants as want
use Rattle.chv_defs_guest.specs.declared.want.Got.{Got}
use Rattle.chv_defs_guest.specs.declared.want.Got.TheVariants as got
use Rattle.chv_defs_guest.specs.Instruction.{settled, step_of}
use Rattle.chv_defs_guest.specs.Routing.{Piece, piece_of, route_of}
use Rattle.chv_defs_guest.specs.Routing.Piece.{InBank, InControl, Known}
use Rattle.chv_defs_guest.specs.Course.{Course, Ends, Accesses, Asks, Outcome}

-- ---- what an instruction gets

-- what a bank's reply gives: a Read the number in its bytes, the lowest byte first; a Write that it is done; either of them a fault,
-- where its block is not open
abbrev pub got_of_bank : BankReply → Got
got_of_bank (reply.Got bytes) = got.Value (le_number bytes)
got_of_bank (reply.Fault block) = got.Fault
got_of_bank _ = got.Done

-- what the control machine's reply gives: a read its value, a write that it is done
abbrev pub got_of_control : ControlReply → Got
got_of_control (answer.Value value) = got.Value value
got_of_control _ = got.Done

-- ---- one instruction

-- the number of a vCPU's context, as which it calls on banks
abbrev pub context_of : CpuNote → ℕ
context_of cpu = cpu.vcpu + 1

-- Behind an access in a bank. Where it was replied to, the instruction is settled, and the course goes on. Where a block is sealed
-- or the bank is full, or memory is wanted, the slice ends before the instruction. (The bank of a context that is lent is not
-- frozen, so that no access is refused for that.)
abbrev pub behind_access : (CpuNote → Course CpuNote) → CpuNote → Want → ℕ → ℕ → Access → Course CpuNote
behind_access on cpu asked zone bank (Ok (Ok r)) = on (settled cpu asked (got_of_bank r))
behind_access on cpu asked zone bank (Ok (Err (refusal.Sealed block seen))) = Ends cpu (end.Sealed (book.Bank zone bank) block seen)
behind_access on cpu asked zone bank (Ok (Err (refusal.Frozen seen))) = Ends cpu end.Stopped
behind_access on cpu asked zone bank (Ok (Err (refusal.Full full))) = Ends cpu end.Stopped
behind_access on cpu asked zone bank (Err wanting) = Ends cpu end.Stopped

-- Behind a register access: the instruction is settled, and the course goes on; or the run stops, or memory is wanted, and the
-- slice ends before the instruction.
abbrev pub behind_ask : (CpuNote → Course CpuNote) → CpuNote → Want → Outcome → Course CpuNote
behind_ask on cpu asked (Ok (Ok r)) = on (settled cpu asked (got_of_control r))
behind_ask on cpu asked (Ok (Err stopped)) = Ends cpu end.Stopped
behind_ask on cpu asked (Err wanting) = Ends cpu end.Stopped

-- the piece of the course that what is asked for makes: an entry in a bank, a register access with the context's number, or no call
abbrev pub piece_course : (CpuNote → Course CpuNote) → CpuNote → Want → Piece → Course CpuNote
piece_course on cpu asked (InBank zone bank made) = Accesses zone bank made (behind_access on cpu asked zone bank)
piece_course on cpu asked (InControl made) = Asks (call.Reg (context_of cpu) made) (behind_ask on cpu asked)
piece_course on cpu asked (Known got) = on (settled cpu asked got)

-- What a vCPU in this state does that asks for this; `on` is what it does from the next instruction on. Where it asks for nothing,
-- the instruction is executed. Behind the last line it has halted.
abbrev pub gets : AddressMap → (CpuNote → Course CpuNote) → CpuNote → Want → Course CpuNote
gets map on cpu want.Nothing = on cpu
gets map on cpu want.Halted = Ends cpu end.Idle
gets map on cpu asked = piece_course on cpu asked (piece_of asked (route_of map asked))

-- One instruction, or the halt behind the last line, and then what comes behind it.
abbrev pub instruction_course : AddressMap → List Line → (CpuNote → Course CpuNote) → CpuNote → Course CpuNote
instruction_course map script on cpu = gets map on (step_of script cpu).0 (step_of script cpu).1

-- ---- the slice

-- whether a vCPU has halted or spent its fuel
abbrev pub is_over : CpuNote → Bool
is_over cpu = cpu.halted || cpu.fuel == 0

-- What a vCPU does that has so many instructions left in its slice. Idle is the end of one that has halted or spent its fuel, Full
-- that of one that has neither and no instruction left. Past the last line it halts where it would make a further instruction.
unfoldable pub vcpu_course : AddressMap → List Line → ℕ → CpuNote → Course CpuNote
vcpu_course map script zero cpu = Ends cpu (if is_over cpu then end.Idle else end.Full)
vcpu_course map script (suc n) cpu =
    if is_over cpu then Ends cpu end.Idle else instruction_course map script (vcpu_course map script n) cpu

-- how many instructions a slice executes at most
abbrev pub most_instructions : ℕ
most_instructions = 64

-- what is left behind one instruction: to go on, or that the slice has ended so
abbrev pub on_or_end : (CpuNote → Course CpuNote) → CpuNote → Option SliceEnd → Course CpuNote
on_or_end on cpu None = on cpu
on_or_end on cpu (Some how) = Ends cpu how
