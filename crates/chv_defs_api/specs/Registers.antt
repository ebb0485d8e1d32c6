-- Accesses of a vCPU to ports and to the devices' windows: how wide they are, where windows lie, and which answers there are.
-- The windows are the memory of the devices' first base address registers (PCI Local Bus 3.0, 6.2.5.1); where they lie is this
-- project's own.
use Rattle.std.specs.Prelude.{◌≡◌, ℕ, ◌+◌, ◌*◌, ◌^◌, ◌≤◌, ◌<◌, ◌==◌, ◌||◌, Bool, true, false, nat_lt}
use Rattle.chv_defs_base.specs.Numbers.{is_width}
use Rattle.chv_defs_api.specs.declared.register.RegAccess.{RegAccess}
use Rattle.chv_defs_api.specs.declared.register.RegAccess.TheVariants as access
use Rattle.chv_defs_api.specs.declared.control.ControlReply.{ControlReply}
use Rattle.chv_defs_api.specs.declared.control.ControlReply.TheVariants as reply

-- how many bytes an access to a port can have
abbrev pub is_port_width : ℕ → Bool
is_port_width w = w == 1 || w == 2 || w == 4

-- the bytes of a window: 64 KiB
abbrev pub window_bytes : ℕ
window_bytes = 0x10000

-- where the window of a slot begins
abbrev pub window_start : ℕ → ℕ
window_start slot = 0xe0000000 + slot * window_bytes

-- so many bytes from an address on lie in the window of one of the slots 1 to 31
pub record LiesInWindow (addr len : ℕ) : Type 0 where
  pub slot : ℕ
  pub least : 1 ≤ slot
  pub most : slot ≤ 31
  pub from : window_start slot ≤ addr
  pub to : addr + len ≤ window_start slot + window_bytes

-- What a vCPU can access: a port, 1, 2 or 4 bytes wide; or 1, 2, 4 or 8 bytes of one window; and where it writes, a value of
-- that width.
abbrev pub IsRegAccess : RegAccess → Type 0
IsRegAccess (access.In width port) = is_port_width width ≡ true
IsRegAccess (access.Out width port value) = (is_port_width width ≡ true) × (value < 256 ^ width)
IsRegAccess (access.MmioRead width addr) = (is_width width ≡ true) × LiesInWindow addr width
IsRegAccess (access.MmioWrite width addr value) = (is_width width ≡ true) × (value < 256 ^ width) × LiesInWindow addr width

-- whether a reply is one to an access: to a read a value of its width, to a write that it is done
abbrev pub is_reply_to : RegAccess → ControlReply → Bool
is_reply_to (access.In width port) (reply.Value value) = nat_lt value (256 ^ width)
is_reply_to (access.MmioRead width addr) (reply.Value value) = nat_lt value (256 ^ width)
is_reply_to (access.Out width port value) reply.Done = true
is_reply_to (access.MmioWrite width addr value) reply.Done = true
is_reply_to _ _ = false
