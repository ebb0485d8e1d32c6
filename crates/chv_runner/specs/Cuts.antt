-- What an instruction leaves of its slice: to go on, or where the slice ends.
use Rattle.std.specs.Prelude.{◌≡◌, ⊤, true, length, Option, None, Some, Ok}
use Rattle.chv_defs_base.specs.Numbers.{is_width}
use Rattle.chv_defs_api.specs.declared.context.SliceEnd.{SliceEnd}
use Rattle.chv_defs_api.specs.declared.context.StopCause.{StopCause}
use Rattle.chv_defs_memory.specs.declared.bank.BankCall.{BankCall}
use Rattle.chv_defs_memory.specs.declared.bank.BankCall.TheVariants as call
use Rattle.chv_defs_memory.specs.declared.bank.BankReply.TheVariants as reply
use Rattle.chv_defs_memory.specs.Lending.{Access}
use Rattle.chv_runner.specs.declared.cut.Cut.{Cut}

-- how the slice ends, where it does
abbrev pub end_of : Option Cut → Option SliceEnd
end_of None = None
end_of (Some cut) = Some cut.end

-- why the run stops, where it does
abbrev pub why_of : Option Cut → Option StopCause
why_of None = None
why_of (Some cut) = cut.cause

-- a Read, of as many bytes as a register can take; or a Write
abbrev pub GivesWidth : BankCall → Type 0
GivesWidth (call.Read block offset len) = is_width len ≡ true
GivesWidth (call.Write block offset bytes) = ⊤
GivesWidth made = ⊥

-- the bytes that an access gave, where it gave some, are as many as a register can take
abbrev pub HasWidth : Access → Type 0
HasWidth (Ok (Ok (reply.Got bytes))) = is_width (length bytes) ≡ true
HasWidth came = ⊤
