-- The fields of an instruction.
use Rattle.std.proofs.Common.{◌≡◌, ℕ, ◌^◌, nat_lt, Bool, true, List, [], ◌∷◌, ◌++◌, codes, refl, ◌∙◌, ap, append_assoc}
use Rattle.std.specs.List.{list_all, join_with_byte}
use Rattle.std.proofs.lemmas.Bool.{and_parts}
use Rattle.chv_defs_base.specs.Numbers.{dec_text, hex_text, pairs}
use Rattle.chv_defs_scene.specs.declared.scene.Line.{Line}
use Rattle.chv_defs_scene.specs.declared.scene.Line.TheVariants as line
use Rattle.chv_defs_scene.specs.ScriptText.{register, operation, line_text}
use Rattle.chv_defs_scene.specs.ScriptReading.{fields_of}
use Rattle.chv_script.proofs.FieldLemmas.{no_space, first_field, only_field}

-- a number of 64 bits
abbrev pub is_value : ℕ → Bool
is_value n = nat_lt n (2 ^ 64)

-- the word of an instruction, and its fields
abbrev pub parts : Line → List (List ℕ)
parts (line.At name) = codes "at" ∷ name ∷ []
parts (line.Set rd value) = codes "set" ∷ register rd ∷ hex_text value ∷ []
parts (line.Mov rd ra) = codes "mov" ∷ register rd ∷ register ra ∷ []
parts (line.Math o rd ra rb) = operation o ∷ register rd ∷ register ra ∷ register rb ∷ []
parts (line.Ld width rd ra offset) = codes "ld" ∷ dec_text width ∷ register rd ∷ register ra ∷ hex_text offset ∷ []
parts (line.St width rs ra offset) = codes "st" ∷ dec_text width ∷ register rs ∷ register ra ∷ hex_text offset ∷ []
parts (line.Put ra bytes) = codes "put" ∷ register ra ∷ pairs bytes ∷ []
parts (line.In width rd port) = codes "in" ∷ dec_text width ∷ register rd ∷ hex_text port ∷ []
parts (line.Out width rs port) = codes "out" ∷ dec_text width ∷ register rs ∷ hex_text port ∷ []
parts (line.Jmp to) = codes "jmp" ∷ to ∷ []
parts (line.Jz ra to) = codes "jz" ∷ register ra ∷ to ∷ []
parts (line.Jnz ra to) = codes "jnz" ∷ register ra ∷ to ∷ []
parts (line.Jlt ra rb to) = codes "jlt" ∷ register ra ∷ register rb ∷ to ∷ []
parts line.Halt = codes "halt" ∷ []

-- two, three and four fields behind a word
two_behind : (w a b : List ℕ) → w ++ 32 ∷ (a ++ 32 ∷ b) ≡ (w ++ 32 ∷ a) ++ 32 ∷ b
two_behind w a b = simp append_assoc

three_behind : (w a b c : List ℕ) → w ++ 32 ∷ (a ++ 32 ∷ (b ++ 32 ∷ c)) ≡ ((w ++ 32 ∷ a) ++ 32 ∷ b) ++ 32 ∷ c
three_behind w a b c = simp append_assoc

four_behind : (w a b c d : List ℕ) → w ++ 32 ∷ (a ++ 32 ∷ (b ++ 32 ∷ (c ++ 32 ∷ d))) ≡ (((w ++ 32 ∷ a) ++ 32 ∷ b) ++ 32 ∷ c) ++ 32 ∷ d
four_behind w a b c d = simp append_assoc

-- the parts, with spaces between them, are the text
pub parts_joined : (l : Line) → join_with_byte 32 (parts l) ≡ line_text l
parts_joined (line.At name) = refl
parts_joined (line.Set rd value) = two_behind (codes "set") (register rd) (hex_text value)
parts_joined (line.Mov rd ra) = two_behind (codes "mov") (register rd) (register ra)
parts_joined (line.Math o rd ra rb) = three_behind (operation o) (register rd) (register ra) (register rb)
parts_joined (line.Ld width rd ra offset) = four_behind (codes "ld") (dec_text width) (register rd) (register ra) (hex_text offset)
parts_joined (line.St width rs ra offset) = four_behind (codes "st") (dec_text width) (register rs) (register ra) (hex_text offset)
parts_joined (line.Put ra bytes) = two_behind (codes "put") (register ra) (pairs bytes)
parts_joined (line.In width rd port) = three_behind (codes "in") (dec_text width) (register rd) (hex_text port)
parts_joined (line.Out width rs port) = three_behind (codes "out") (dec_text width) (register rs) (hex_text port)
parts_joined (line.Jmp to) = refl
parts_joined (line.Jz ra to) = two_behind (codes "jz") (register ra) to
parts_joined (line.Jnz ra to) = two_behind (codes "jnz") (register ra) to
parts_joined (line.Jlt ra rb to) = three_behind (codes "jlt") (register ra) (register rb) to
parts_joined line.Halt = refl

-- fields without a space are those of their text
pub fields_joined : (field : List ℕ) (fields : List (List ℕ)) → list_all no_space (field ∷ fields) ≡ true → fields_of (join_with_byte 32 (field ∷ fields)) ≡ field ∷ fields
fields_joined field [] h = only_field field (and_parts (no_space field) true h).0
fields_joined field (next ∷ fields) h =
    let all = and_parts (no_space field) (list_all no_space (next ∷ fields)) h in
    first_field field (join_with_byte 32 (next ∷ fields)) all.0 ∙ ap (λ fs. field ∷ fs) (fields_joined next fields all.1)
