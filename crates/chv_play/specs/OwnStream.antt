-- Whose stream a session of a trace asked: that of its own section of the scenario.
use Rattle.std.specs.Prelude.{◌≡◌, ◌≢◌, ℕ, Bool, true, false, List, [], ◌∷◌, ◌++◌}
use Rattle.chv_defs_api.specs.declared.session.SessionEnd.{SessionEnd}
use Rattle.chv_defs_api.specs.declared.session.SessionEnd.TheVariants as end
use Rattle.chv_defs_scene.specs.declared.scene.Asked.{Asked}
use Rattle.chv_defs.specs.declared.trace.SessionTrace.{SessionTrace}
use Rattle.chv_defs.specs.Schedule.{stream_of}

-- whether an end comes where the whole stream was taken
abbrev pub is_behind_all : SessionEnd → Bool
is_behind_all end.Ended = true
is_behind_all end.Cut = true
is_behind_all _ = false

-- What a session asked is a first part of this stream, all of it at the ends ended and cut; and it did not end at a fault.
pub record AsksOf (stream : List ℕ) (session : SessionTrace) : Type 0 where
  pub first_part : (rest : List ℕ) × (stream ≡ session.log.asked ++ rest)
  pub whole : is_behind_all session.log.end ≡ true → session.log.asked ≡ stream
  pub no_fault : session.log.end ≢ end.Fault

-- Each session of a trace asked of the stream that its own section stands for: the first one of the bytes of the first
-- section's requests, one behind another, and so on.
abbrev pub AskTheirOwn : List (List Asked) → List SessionTrace → Type 0
AskTheirOwn [] [] = Unit {0}
AskTheirOwn [] (session ∷ sessions) = ⊥
AskTheirOwn (requests ∷ sections) [] = ⊥
AskTheirOwn (requests ∷ sections) (session ∷ sessions) = AsksOf (stream_of requests) session × AskTheirOwn sections sessions
