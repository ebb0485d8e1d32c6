-- A listener in memory, and what its calls do to it.
use Rattle.std.specs.Prelude.{ℕ, ◌==◌, Bool, ◌||◌, List, length, drop, Option, Some, if◌then◌else◌}
use Rattle.chv_io.specs.FailingCalls.{Calls, is_listed, after_call}
use Rattle.chv_io.specs.Links.{IsNew}
use Rattle.chv_io.specs.MemLink.{Wire}

-- The connections that a listener in memory has left to give, in their order; the port that it listens on, if it does;
-- and its calls.
pub record Door : Type 0 where
  pub links : List Wire
  pub port : Option ℕ
  pub calls : Calls

-- A connection that gave nothing yet, into which nothing was put, and that is not closed.
abbrev pub IsFresh : Wire → Type 0
IsFresh wire = IsNew (Some wire.gave) (Some wire.written) wire.closed

-- A listener after it was told to listen on a port: a listed call fails and leaves the port.
abbrev pub after_listen : Door → ℕ → Door
after_listen door port = record door {
  port = (if is_listed door.calls then door.port else Some port);
  calls = after_call door.calls (is_listed door.calls);
}

-- No connection is given where the call is listed, and where none is left.
abbrev pub accept_fails : Door → Bool
accept_fails door = is_listed door.calls || length door.links == 0

-- A listener after a call that asks for a connection: a failing one leaves the connections, another takes the first.
abbrev pub after_accept : Door → Door
after_accept door = record door {
  links = (if accept_fails door then door.links else drop 1 door.links);
  calls = after_call door.calls (accept_fails door);
}
