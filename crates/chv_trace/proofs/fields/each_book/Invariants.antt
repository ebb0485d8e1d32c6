use Rattle.std.proofs.Common.{◌≡◌, flat_map, take, string_bytes}
use Rattle.chv_defs_scene.specs.ScriptText.{field}
use Rattle.chv_defs.specs.TraceText.{book_text}
use Rattle.chv_trace.proofs.fields.each_book.Given as goal

abbrev pub invariant-loop-book : goal.invariant-loop-book
invariant-loop-book l = string_bytes l.shown ≡ flat_map (λ b. field (book_text b)) (take l.book-index l.books)
