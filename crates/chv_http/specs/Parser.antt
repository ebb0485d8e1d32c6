-- What a parser keeps.
use Rattle.std.specs.Prelude.{◌≤◌, ◌+◌, ℕ, length, drop}
use Rattle.chv_http.specs.declared.parser.Parser.TheInside.{Inside}
use Rattle.chv_http.specs.Stage.{Holds}

-- What stands before `start` in a buffer of so many bytes is no more than what stands behind it. So the buffer is at most
-- twice as long as what is left.
abbrev pub IsWithinTwice : ℕ → ℕ → Type 0
IsWithinTwice start size = start + start ≤ size

-- The bytes that were not yet given stand in the buffer, with no more bytes that were given before them, and were looked
-- at as far as the stage says.
pub record IsParser (parser : Inside) : Type 0 where
  pub within : IsWithinTwice parser.start (length parser.buffer.items)
  pub holds : Holds parser.stage (drop parser.start parser.buffer.items)
