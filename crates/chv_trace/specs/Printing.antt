-- What printing through a buffer comes to: of all bytes that were added so far, a first part was put into the output,
-- and the rest is held.
use Rattle.std.specs.Prelude.{◌≡◌, ℕ, List, ◌++◌, length, codes, Option}
use Rattle.chv_defs_base.specs.Numbers.{dec_text}
use Rattle.chv_io.specs.Outside.{Gains}
use Rattle.chv_defs_scene.specs.ScriptText.{field}
use Rattle.chv_defs.specs.TraceText.{session_end_text}
use Rattle.chv_defs.specs.declared.trace.BankTrace.{BankTrace}
use Rattle.chv_defs.specs.declared.trace.SessionTrace.{SessionTrace}

-- Bytes were added to those that were held: some were put, and the others are held now.
pub record Adds (before : Option (List ℕ)) (held : List ℕ) (after : Option (List ℕ)) (held_after bytes : List ℕ) : Type 0 where
  pub put : List ℕ
  pub gains : Gains before after put
  pub all : put ++ held_after ≡ held ++ bytes

-- Bytes were to be added to those that were held, and this was broken off: a first part of all of them was put.
pub record BreaksOff (before : Option (List ℕ)) (held : List ℕ) (after : Option (List ℕ)) (bytes : List ℕ) : Type 0 where
  pub put : List ℕ
  pub lost : List ℕ
  pub gains : Gains before after put
  pub all : put ++ lost ≡ held ++ bytes

-- the first line of a trace, and the line that says how many lines the sections of its scenario have
abbrev pub scene_head : ℕ → List ℕ
scene_head lines = codes "trace 1\nscene" ++ field (dec_text lines) ++ codes "\n"

-- the line that says how many control entries there are
abbrev pub control_head : ℕ → List ℕ
control_head entries = codes "control" ++ field (dec_text entries) ++ codes "\n"

-- the first line of a session
abbrev pub end_line : SessionTrace → List ℕ
end_line s = codes "session" ++ field (dec_text s.session) ++ field (session_end_text s.log.end) ++ codes "\n"

-- the first line of a bank
abbrev pub bank_head : BankTrace → List ℕ
bank_head b = codes "bank" ++ field (dec_text b.zone) ++ field (dec_text b.bank) ++ field (dec_text (length b.entries)) ++ codes "\n"
