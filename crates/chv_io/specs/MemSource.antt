-- A source in memory, and what a read does to it.
use Rattle.std.specs.Prelude.{ℕ, List, drop, if◌then◌else◌}
use Rattle.chv_io.specs.FailingCalls.{Calls, is_listed, after_call}

-- The bytes that a source in memory has left, and its calls.
pub record Feed : Type 0 where
  pub left : List ℕ
  pub calls : Calls

-- A source after a read into a buffer of `room` bytes: a listed call fails and leaves the bytes, another takes as many
-- as fit.
abbrev pub after_take : Feed → ℕ → Feed
after_take feed room = record {
  left = (if is_listed feed.calls then feed.left else drop room feed.left);
  calls = after_call feed.calls (is_listed feed.calls);
}
