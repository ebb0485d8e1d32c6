-- The words of the command line.
use Rattle.std.specs.Prelude.{◌≡◌, List, map, String, string_bytes}
use Rattle.std.specs.declared.alloc.Global.{Global}
use Rattle.chv_defs.specs.ProgramText.{play_words}

-- They are the one word `play`.
abbrev pub ArePlay : List (String Global) → Type 0
ArePlay words = map string_bytes words ≡ play_words
