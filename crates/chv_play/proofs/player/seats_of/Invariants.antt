use Rattle.std.proofs.Common.{map, take}
use Rattle.chv_defs.specs.Schedule.{stream_of}
use Rattle.chv_play.specs.Played.{AreNewSeats}
use Rattle.chv_play.proofs.player.seats_of.Given as goal

abbrev pub invariant-loop-requests : goal.invariant-loop-requests
invariant-loop-requests l = AreNewSeats (map stream_of (take l.requests-index l.sessions)) l.seats.items
