use Rattle.std.proofs.Common.{◌≡◌}
use Rattle.std.specs.Io.KnownBytes.{Keeps}
use Rattle.chv_io.proofs.std_source.read_retrying.Given as goal

abbrev pub invariant-loop : goal.invariant-loop
invariant-loop g l =
    Keeps (g.R.Read.remaining l.initial.reader.inner) (g.R.Read.remaining l.reader.inner)
    × (l.reader.faults ≡ l.initial.reader.faults)
