-- A sink in memory, and what a write does to it.
use Rattle.std.specs.Prelude.{ℕ, ◌+◌, ◌++◌, Bool, ◌||◌, List, length, nat_lt, if◌then◌else◌}
use Rattle.chv_io.specs.FailingCalls.{Calls, is_listed, after_call}

-- The bytes that were put into a sink in memory, how many can be put in all, and its calls.
pub record Jar : Type 0 where
  pub written : List ℕ
  pub room : ℕ
  pub calls : Calls

-- A write fails where its call is listed, and where its bytes would pass the room.
abbrev pub put_fails : Jar → List ℕ → Bool
put_fails jar bytes = is_listed jar.calls || nat_lt jar.room (length jar.written + length bytes)

-- A sink after a write: a failing one leaves what was put, another appends all bytes.
abbrev pub after_put : Jar → List ℕ → Jar
after_put jar bytes = record {
  written = (if put_fails jar bytes then jar.written else jar.written ++ bytes);
  room = jar.room;
  calls = after_call jar.calls (put_fails jar bytes);
}
