-- The words of the program's command line, and the line that it writes with each status that has one. Both are this
-- project's own.
use Rattle.std.specs.Prelude.{ℕ, List, [], ◌∷◌, ◌++◌, codes}
use Rattle.chv_defs_base.specs.Numbers.{dec_text}
use Rattle.chv_defs_base.specs.Reasons.{reason_name}
use Rattle.chv_defs_scene.specs.ScriptText.{field}
use Rattle.chv_defs.specs.TraceText.{book_text}
use Rattle.chv_defs_base.specs.declared.book.Full.{Full}
use Rattle.chv_defs_base.specs.declared.rule.Reason.{Reason}

-- the word that plays a scenario on one thread
abbrev pub play_words : List (List ℕ)
play_words = codes "play" ∷ []

-- the line for words that are none of the program's
unfoldable pub usage_line : List ℕ
usage_line = codes "chv: usage\n"

-- the line for an input that cannot be read
unfoldable pub read_fault_line : List ℕ
read_fault_line = codes "chv: read fault\n"

-- the line for an input that is longer than 16,777,216 bytes
unfoldable pub too_long_line : List ℕ
too_long_line = codes "chv: too long\n"

-- the line for a book that is full: which one, how many places of it are taken, kept ones counted, and how many bytes of
-- payload it holds
abbrev pub full_line : Full → List ℕ
full_line full = codes "chv: full" ++ field (book_text full.book) ++ field (dec_text full.entries) ++ field (dec_text full.bytes) ++ codes "\n"

-- the line for a scenario that is refused: the first line that fails, and why
abbrev pub scene_fault_line : ℕ → Reason → List ℕ
scene_fault_line line reason = codes "chv: line " ++ dec_text line ++ codes ": " ++ reason_name reason ++ codes "\n"
