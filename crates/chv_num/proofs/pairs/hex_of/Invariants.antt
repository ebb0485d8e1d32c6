use Rattle.std.proofs.Common.{◌≡◌, take, string_bytes}
use Rattle.chv_defs_base.specs.Numbers.{pairs}
use Rattle.chv_num.proofs.pairs.hex_of.Given as goal

abbrev pub invariant-loop-byte : goal.invariant-loop-byte
invariant-loop-byte l = string_bytes l.text ≡ pairs (take l.byte-index l.bytes)
