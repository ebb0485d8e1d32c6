-- How a script is spelled, in a format of this project's own: one instruction a line, fields separated by one space.
use Rattle.std.specs.Prelude.{ℕ, List, ◌∷◌, ◌++◌, flat_map, codes}
use Rattle.chv_defs_base.specs.Numbers.{dec_text, hex_text, pairs}
use Rattle.chv_defs_scene.specs.declared.scene.Line.{Line}
use Rattle.chv_defs_scene.specs.declared.scene.Line.TheVariants as line
use Rattle.chv_defs_scene.specs.declared.scene.MathOp.{MathOp}
use Rattle.chv_defs_scene.specs.declared.scene.MathOp.TheVariants as op
use Rattle.chv_defs_scene.specs.declared.scene.Script.{Script}

-- a field, after the space that separates it from what stands before
abbrev pub field : List ℕ → List ℕ
field text = 32 ∷ text

-- a register, r0 to r15
abbrev pub register : ℕ → List ℕ
register r = codes "r" ++ dec_text r

-- an operation on registers
abbrev pub operation : MathOp → List ℕ
operation op.Add = codes "add"
operation op.Sub = codes "sub"
operation op.And = codes "and"
operation op.Or = codes "or"
operation op.Xor = codes "xor"

-- an instruction, without the line feed
abbrev pub line_text : Line → List ℕ
line_text (line.At name) = codes "at" ++ field name
line_text (line.Set rd value) = codes "set" ++ field (register rd) ++ field (hex_text value)
line_text (line.Mov rd ra) = codes "mov" ++ field (register rd) ++ field (register ra)
line_text (line.Math o rd ra rb) = operation o ++ field (register rd) ++ field (register ra) ++ field (register rb)
line_text (line.Ld width rd ra offset) = codes "ld" ++ field (dec_text width) ++ field (register rd) ++ field (register ra) ++ field (hex_text offset)
line_text (line.St width rs ra offset) = codes "st" ++ field (dec_text width) ++ field (register rs) ++ field (register ra) ++ field (hex_text offset)
line_text (line.Put ra bytes) = codes "put" ++ field (register ra) ++ field (pairs bytes)
line_text (line.In width rd port) = codes "in" ++ field (dec_text width) ++ field (register rd) ++ field (hex_text port)
line_text (line.Out width rs port) = codes "out" ++ field (dec_text width) ++ field (register rs) ++ field (hex_text port)
line_text (line.Jmp to) = codes "jmp" ++ field to
line_text (line.Jz ra to) = codes "jz" ++ field (register ra) ++ field to
line_text (line.Jnz ra to) = codes "jnz" ++ field (register ra) ++ field to
line_text (line.Jlt ra rb to) = codes "jlt" ++ field (register ra) ++ field (register rb) ++ field to
line_text line.Halt = codes "halt"

-- a script: its instructions, each ended by a line feed
abbrev pub script_text : Script → List ℕ
script_text script = flat_map (λ l. line_text l ++ codes "\n") script.lines
