use Rattle.std.proofs.Common.{◌≡◌, take, string_bytes}
use Rattle.chv_defs.specs.TraceText.{hex_fields}
use Rattle.chv_trace.proofs.fields.hex_fields.Given as goal

abbrev pub invariant-loop-number : goal.invariant-loop-number
invariant-loop-number l = string_bytes l.shown ≡ hex_fields (take l.number-index l.numbers)
