-- Which replies there are to the calls of a slice: their kind, and how many bytes they have.
use Rattle.std.specs.Prelude.{◌≡◌, ◌==◌, ℕ, Bool, true, false, List, length, Result, Ok, Err}
use Rattle.std.specs.List.{list_all}
use Rattle.chv_defs_api.specs.Desks.{can_have}
use Rattle.chv_defs_memory.specs.declared.bank.BankCall.{BankCall}
use Rattle.chv_defs_memory.specs.declared.bank.BankCall.TheVariants as call
use Rattle.chv_defs_memory.specs.declared.bank.BankReply.{BankReply}
use Rattle.chv_defs_memory.specs.declared.bank.BankReply.TheVariants as reply
use Rattle.chv_defs_memory.specs.declared.bank.Refusal.TheVariants as refusal
use Rattle.chv_defs_memory.specs.Lending.{Access}
use Rattle.chv_defs_guest.specs.Course.{Exchange, Accessed, Asked}

-- whether a reply is of a kind that an access can have: a fault; or to a Read as many bytes as it asks for, to a Write that it is
-- done, to a Pin that it is pinned; and to an Unpin that it is done
abbrev pub is_reply_of : BankCall → BankReply → Bool
is_reply_of (call.Read block offset len) (reply.Got bytes) = length bytes == len
is_reply_of (call.Read block offset len) (reply.Fault closed) = true
is_reply_of (call.Write block offset bytes) reply.Done = true
is_reply_of (call.Write block offset bytes) (reply.Fault closed) = true
is_reply_of (call.Pin number span) reply.Pinned = true
is_reply_of (call.Pin number span) (reply.Fault closed) = true
is_reply_of (call.Unpin number) reply.Done = true
is_reply_of c r = false

-- whether an access came to what it can come to: a reply of its kind, or a refusal that is not for a frozen bank, since no context
-- is lent where its bank is frozen; or want of memory
abbrev pub can_come : BankCall → Access → Bool
can_come c (Ok (Ok r)) = is_reply_of c r
can_come c (Ok (Err (refusal.Sealed block seen))) = true
can_come c (Ok (Err (refusal.Full full))) = true
can_come c (Ok (Err (refusal.Frozen seen))) = false
can_come c (Err wanting) = true

-- whether an exchange came to what it can come to; at the control machine, where it was replied to, a reply that the call can have
abbrev pub is_fitting : Exchange → Bool
is_fitting (Accessed zone bank c answer) = can_come c answer
is_fitting (Asked c (Ok (Ok answer))) = can_have c answer
is_fitting (Asked c (Ok (Err stopped))) = true
is_fitting (Asked c (Err wanting)) = true

-- Each of these exchanges came to what it can come to.
abbrev pub AreFitting : List Exchange → Type 0
AreFitting exchanges = list_all is_fitting exchanges ≡ true
