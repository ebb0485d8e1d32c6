-- The bytes that calls on a bank and their replies carry.
use Rattle.std.specs.Prelude.{◌≡◌, length}
use Rattle.chv_defs_memory.specs.declared.bank.BankCall.{BankCall}
use Rattle.chv_defs_memory.specs.declared.bank.BankCall.TheVariants as call
use Rattle.chv_defs_memory.specs.declared.bank.BankReply.{BankReply}
use Rattle.chv_defs_memory.specs.declared.bank.BankReply.TheVariants as reply

-- the bytes of a Fill are a page
abbrev pub HasWholePage : BankCall → Type 0
HasWholePage (call.Fill block page bytes) = length bytes ≡ 4096
HasWholePage c = Unit {0}

-- a reply holds no bytes
abbrev pub HasNoBytes : BankReply → Type 0
HasNoBytes (reply.Got bytes) = ⊥
HasNoBytes r = Unit {0}
