-- A connection in memory, and what its calls do to it.
use Rattle.std.specs.Prelude.{ℕ, min, ◌++◌, Bool, List, take, if◌then◌else◌}
use Rattle.chv_io.specs.FailingCalls.{Calls, is_listed}
use Rattle.chv_io.specs.MemSource.{Feed, after_take}
use Rattle.chv_io.specs.MemSink.{Jar, after_put}

-- The bytes that a connection in memory has left, those that it gave and those that were put into it; the most that one
-- read gives, and how many bytes can be put in all; whether it was closed; and its calls.
pub record Wire : Type 0 where
  pub left : List ℕ
  pub gave : List ℕ
  pub written : List ℕ
  pub piece : ℕ
  pub room : ℕ
  pub closed : Bool
  pub calls : Calls

-- A connection as a source.
abbrev pub feed_of : Wire → Feed
feed_of wire = record { left = wire.left; calls = wire.calls }

-- A connection as a sink.
abbrev pub jar_of : Wire → Jar
jar_of wire = record { written = wire.written; room = wire.room; calls = wire.calls }

-- A connection after a read into a buffer of so many bytes: that of its source into a buffer of at most one piece.
abbrev pub after_read : Wire → ℕ → Wire
after_read wire size = record wire {
  left = (after_take (feed_of wire) (min wire.piece size)).left;
  gave = (if is_listed wire.calls then wire.gave else wire.gave ++ take (min wire.piece size) wire.left);
  calls = (after_take (feed_of wire) (min wire.piece size)).calls;
}

-- A connection after a write: that of its sink.
abbrev pub after_write : Wire → List ℕ → Wire
after_write wire bytes = record wire {
  written = (after_put (jar_of wire) bytes).written;
  calls = (after_put (jar_of wire) bytes).calls;
}
