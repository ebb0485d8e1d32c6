use Rattle.std.proofs.Common.{◌≡◌}
use Rattle.std.specs.Io.KnownBytes.{Keeps}
use Rattle.chv_io.proofs.std_sink.flush.Given as goal

abbrev pub invariant-loop : goal.invariant-loop
invariant-loop g l =
    Keeps (g.W.Write.contents l.initial.writer.inner) (g.W.Write.contents l.writer.inner)
    × (l.writer.faults ≡ l.initial.writer.faults)
