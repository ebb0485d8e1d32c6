-- What a session finds in front of the bytes at hand, after it took as many as it needs.
use Rattle.std.specs.Prelude.{◌≡◌, ◌<◌, ℕ, List, [], ◌++◌, length, Option, IfSome, ⊤}
use Rattle.chv_io.specs.Outside.{Rose}
use Rattle.chv_defs_api.specs.Requests.{BeginsWith, IsShort}
use Rattle.chv_defs_api.specs.SessionBytes.{IsBad, session_limit}
use Rattle.chv_session.specs.declared.fill.Found.{Found}
use Rattle.chv_session.specs.declared.fill.Found.TheVariants as found

-- This is in front of the bytes at hand: a whole request, which was taken away; bytes that a rule refuses; or a part of a
-- request or nothing, where the stream ended or a read failed below the limit, or as many bytes were asked as a session takes.
abbrev pub IsFound : Found → List ℕ → List ℕ → List ℕ → Type 0
IsFound (found.Request request) hand rest asked = BeginsWith hand request rest
IsFound (found.Bad rule) hand rest asked = IsBad hand rule × (rest ≡ hand)
IsFound found.End hand rest asked = IsShort hand × (rest ≡ hand) × (length asked < session_limit)
IsFound found.Fault hand rest asked = IsShort hand × (rest ≡ hand) × (length asked < session_limit)
IsFound found.Limit hand rest asked = IsShort hand × (rest ≡ hand) × (length asked ≡ session_limit)

-- Behind the rest the bytes came that what was asked grew by, and this is in front of all.
abbrev pub Finds : Found → List ℕ → List ℕ → List ℕ → List ℕ → Type 0
Finds found asked asked_after rest rest_after =
    (more : List ℕ) × (asked_after ≡ asked ++ more) × IsFound found (rest ++ more) rest_after asked_after

-- The stream's end is found only where nothing is left, where that is told.
abbrev pub IsDrained : Found → Option (List ℕ) → Type 0
IsDrained found.End left = IfSome left (λ bytes. bytes ≡ [])
IsDrained _ left = ⊤

-- A fault is found only where the count of faults rose.
abbrev pub IsCaused : Found → ℕ → ℕ → Type 0
IsCaused found.Fault before now = Rose before now
IsCaused _ before now = ⊤
