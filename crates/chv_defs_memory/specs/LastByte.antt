-- The last byte that was written at a place of a bank's memory, by the bank's history.
use Rattle.std.specs.Prelude.{ℕ, ◌-◌, ◌*◌, ◌==◌, ◌&&◌, List, length, map, slice_index, Option, None, Some, unwrap_or}
use Rattle.std.specs.List.{range_with_len}
use Rattle.chv_defs_memory.specs.declared.bank.BankCall.{BankCall}
use Rattle.chv_defs_memory.specs.declared.bank.BankCall.TheVariants as call
use Rattle.chv_defs_memory.specs.declared.bank.BankReply.{BankReply}
use Rattle.chv_defs_memory.specs.declared.bank.BankReply.TheVariants as reply
use Rattle.chv_defs_memory.specs.declared.bank.BankEntry.{BankEntry}
use Rattle.chv_defs_memory.specs.PageContents.{is_inside}
use Rattle.chv_defs_memory.specs.BankState.{names, latest, if_named}

-- what a call and its reply say of the byte at an offset of a block: a write or a fill that was done, the byte that it
-- put there; the block's opening or closing, and the bank's shaping or wiping, 0
abbrev pub says_byte : ℕ → ℕ → ℕ → BankCall → BankReply → Option ℕ
says_byte bank block at (call.Write b offset bytes) reply.Done =
    if_named (b == block && is_inside offset (length bytes) at) (slice_index bytes (at - offset))
says_byte bank block at (call.Fill b page bytes) reply.Done =
    if_named (b == block && is_inside (page * 4096) (length bytes) at) (slice_index bytes (at - page * 4096))
says_byte bank block at (call.Open span) r = if_named (names bank span block) 0
says_byte bank block at (call.Close span) reply.Closed = if_named (names bank span block) 0
says_byte bank block at (call.Shape n) r = Some 0
says_byte bank block at call.Wipe r = Some 0
says_byte bank block at _ _ = None

-- The last byte: that of the latest write or fill which was done there, with no opening or closing of the block, no
-- shaping and no wiping behind it; else 0.
abbrev pub last_byte : ℕ → List BankEntry → ℕ → ℕ → ℕ
last_byte bank history block at = unwrap_or (latest (λ e. says_byte bank block at e.call e.reply) history) 0

-- the last bytes of a block from an offset on
abbrev pub last_bytes : ℕ → List BankEntry → ℕ → ℕ → ℕ → List ℕ
last_bytes bank history block offset len = map (last_byte bank history block) (range_with_len offset len)
