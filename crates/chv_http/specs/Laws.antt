-- Laws of the requests of a stream: what they are does not depend on how the stream came in.
use Rattle.std.specs.Prelude.{◌≡◌, ◌≢◌, ℕ, List, ◌++◌}
use Rattle.chv_defs_api.specs.declared.request.Request.{Request}
use Rattle.chv_defs_api.specs.declared.request.Took.{Took}
use Rattle.chv_defs_api.specs.declared.request.Took.TheVariants as took
use Rattle.chv_defs_api.specs.Requests.{Cuts, CutsInto, BeginsWith}
use Rattle.chv_defs_api.specs.StreamCut.{cut}

-- the bytes begin with no whole request
abbrev pub BeginsWithNone : List ℕ → Type 0
BeginsWithNone bytes = (request : Request) (rest : List ℕ) → ¬ (BeginsWith bytes request rest)

-- The bytes decide what they begin with, and what is left behind it.
abbrev pub HasOneOutcome : Type 0
HasOneOutcome = (bytes : List ℕ) (a b : Took) (x y : List ℕ) → Cuts bytes a x → Cuts bytes b y → (a ≡ b) × (x ≡ y)

-- Where that is there whole, the bytes that follow do not change it.
abbrev pub StaysWithMore : Type 0
StaysWithMore =
    (bytes more : List ℕ) (what : Took) (rest : List ℕ) → what ≢ took.NotYet → Cuts bytes what rest
    → Cuts (bytes ++ more) what (rest ++ more)

-- The requests of a first piece, and those of its rest with more bytes behind it, are the requests of all.
abbrev pub JoinsPieces : Type 0
JoinsPieces =
    (stream more : List ℕ) (first next : List Request) (rest left : List ℕ) → CutsInto stream first rest
    → CutsInto (rest ++ more) next left → CutsInto (stream ++ more) (first ++ next) left

-- A stream is cut in one way, up to a rest that begins with no whole request.
abbrev pub CutsOneWay : Type 0
CutsOneWay =
    (stream : List ℕ) (a b : List Request) (x y : List ℕ) → CutsInto stream a x → CutsInto stream b y
    → BeginsWithNone x → BeginsWithNone y → (a ≡ b) × (x ≡ y)

-- The function `cut` gives what the bytes begin with, and what is left behind it.
abbrev pub CutGivesOutcome : Type 0
CutGivesOutcome = (bytes : List ℕ) → Cuts bytes (cut bytes).0 (cut bytes).1

-- It gives nothing else.
abbrev pub CutGivesAll : Type 0
CutGivesAll =
    (bytes : List ℕ) (what : Took) (rest : List ℕ) → Cuts bytes what rest → (what ≡ (cut bytes).0) × (rest ≡ (cut bytes).1)
