use Rattle.std.proofs.Common.{◌≡◌, ◌++◌, drop}
use Rattle.chv_defs.specs.Schedule.{stream_of}
use Rattle.chv_play.proofs.asked.stream_bytes.Given as goal

abbrev pub invariant-loop-request : goal.invariant-loop-request
invariant-loop-request l = l.stream.items ++ stream_of (drop l.request-index l.requests) ≡ stream_of l.requests
