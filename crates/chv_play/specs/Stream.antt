-- What contracts see of the stream of a session that is played.
use Rattle.std.specs.Prelude.{ℕ, Bool, List}

-- the bytes that are left, and whether the session closed it
pub record Stream : Type 0 where
  pub left : List ℕ
  pub closed : Bool
