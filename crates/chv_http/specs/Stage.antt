-- What a stage says of the bytes that were looked at.
use Rattle.std.specs.Prelude.{ℕ, ◌<◌, ◌≤◌, List, length, ⊤}
use Rattle.chv_defs_api.specs.declared.request.Took.TheVariants as took
use Rattle.chv_defs_api.specs.HttpFront.{Closes, HasNoFront}
use Rattle.chv_defs_api.specs.Requests.{Cuts}
use Rattle.chv_http.specs.declared.stage.Stage.{Stage}
use Rattle.chv_http.specs.declared.stage.Stage.TheVariants.{Front, Body, Bad}
use Rattle.chv_http.specs.Head.{Awaits}
use Rattle.chv_http.specs.Search.{AreLineEnds}

-- No front ends in the first `looked` bytes, and the first `text` bytes are CR and LF.
pub record LookedAt (bytes : List ℕ) (text looked : ℕ) : Type 0 where
  pub ordered : text ≤ looked
  pub within : looked ≤ length bytes
  pub short : looked ≤ 8192
  pub passed : AreLineEnds bytes 0 text
  pub none : (n : ℕ) → n ≤ looked → ¬ (Closes bytes n)

-- what the stage says holds of the bytes, and of the bytes with more behind them
abbrev pub Holds : Stage → List ℕ → Type 0
Holds (Front text looked) bytes = LookedAt bytes text looked
Holds (Body head) bytes = Awaits bytes head
Holds (Bad rule) bytes = Cuts bytes (took.Bad rule) bytes

-- where the stage says that no front is there, none is
abbrev pub Settles : Stage → List ℕ → Type 0
Settles (Front text looked) bytes = HasNoFront bytes × (length bytes < 8192)
Settles (Body head) bytes = ⊤
Settles (Bad rule) bytes = ⊤
