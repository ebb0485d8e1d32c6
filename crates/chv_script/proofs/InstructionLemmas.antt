-- A line that is read is the one spelling of its instruction, and that spelling is read back.
use Rattle.std.proofs.Common.{◌≡◌, ℕ, ◌==◌, ◌&&◌, not, Bool, true, false, cond, List, [], ◌∷◌, ◌++◌, codes, None, Some, Result, Ok, Err, refl, sym, ◌∙◌, ap, subst}
use Rattle.std.specs.List.{list_all, join_with_byte}
use Rattle.std.specs.Str.{bytes_eq}
use Rattle.std.proofs.lemmas.Bool.{and_parts, and_from, cond-true}
use Rattle.std.proofs.lemmas.List.Splits.{join_with_byte-slice_split}
use Rattle.std.proofs.lemmas.Slice.Eq.{bytes_eq-Decides}
use Rattle.chv_defs_base.specs.Id.{is_id}
use Rattle.chv_defs_base.specs.Numbers.{dec_text, hex_text, is_width}
use Rattle.chv_defs_base.specs.declared.rule.Reason.{Reason}
use Rattle.chv_defs_base.specs.declared.rule.Reason.TheVariants.{UnknownWord}
use Rattle.chv_defs_scene.specs.declared.scene.Line.{Line}
use Rattle.chv_defs_scene.specs.declared.scene.Line.TheVariants as line
use Rattle.chv_defs_scene.specs.declared.scene.MathOp.{MathOp}
use Rattle.chv_defs_scene.specs.declared.scene.MathOp.TheVariants as op
use Rattle.chv_defs_scene.specs.ScriptText.{register, operation, line_text}
use Rattle.chv_defs_api.specs.Registers.{is_port_width}
use Rattle.chv_defs_scene.specs.ScriptReading.{fields_of, register_of, port_width_of, value_of, port_of, put_bytes_of, name_of, with_none, with_one, with_two, with_three, with_four, jump_of, access_of, math_of, instruction_of, by_fields, line_of, label_in, own_label, is_register, is_port, is_put, is_instruction}
use Rattle.chv_script.proofs.KindLemmas.{is_plain, plain_no_space, plain_no_feed, registers, memory_widths, port_widths, values, ports, names}
use Rattle.chv_num.proofs.PairBytes.{are_bytes}
use Rattle.chv_script.proofs.FieldLemmas.{no_space}
use Rattle.chv_script.proofs.PutLemmas.{is_stored, puts}
use Rattle.chv_script.proofs.PartLemmas.{is_value, parts, parts_joined, fields_joined}
use Rattle.chv_script.proofs.ShapeLemmas.{Spelled, none_spelled, one_spelled, one_again, two_spelled, two_again, three_spelled, three_again, four_spelled, four_again}

-- ---- what is read is spelled so

-- a line whose word is this one, or another
by_word : (word other : List ℕ) (fields : List (List ℕ)) (l : Line) (this rest : Result Line Reason) → (this ≡ Ok l → Spelled (other ∷ fields) l) → (rest ≡ Ok l → Spelled (word ∷ fields) l) → cond (bytes_eq word other) this rest ≡ Ok l → Spelled (word ∷ fields) l
by_word word other fields l this rest here there e = choose (bytes_eq word other) (λ test. (bytes_eq-Decides word other).0 test) e
  where
    choose : (v : Bool) → (v ≡ true → word ≡ other) → cond v this rest ≡ Ok l → Spelled (word ∷ fields) l
    choose true is e = subst (λ w. Spelled (w ∷ fields) l) (sym (is refl)) (here e)
    choose false is e = there e

-- two registers and a third, by the operation
math_spelled : (o : MathOp) (fields : List (List ℕ)) (l : Line) → with_three register_of register_of register_of (line.Math o) fields ≡ Ok l → Spelled (operation o ∷ fields) l
math_spelled o fields l e =
    three_spelled registers registers (line.Math o) (operation o) fields l
    (λ x r y a b c. (refl, and_from _ _ (and_from _ _ a b) c)) e

jump_spelled : (word : List ℕ) (fields : List (List ℕ)) (l : Line) → jump_of word fields ≡ Ok l → Spelled (word ∷ fields) l
jump_spelled word fields l =
    by_word word (codes "jmp") fields l (with_one name_of line.Jmp fields) _ (one_spelled names line.Jmp (codes "jmp") fields l (λ x a. (refl, a))) (
    by_word word (codes "jz") fields l (with_two register_of name_of line.Jz fields) _ (two_spelled registers names line.Jz (codes "jz") fields l (λ x y a b. (refl, and_from _ _ a b))) (
    by_word word (codes "jnz") fields l (with_two register_of name_of line.Jnz fields) _ (two_spelled registers names line.Jnz (codes "jnz") fields l (λ x y a b. (refl, and_from _ _ a b))) (
    by_word word (codes "jlt") fields l (with_three register_of register_of name_of line.Jlt fields) (Err UnknownWord) (three_spelled registers names line.Jlt (codes "jlt") fields l (λ x r y a b c. (refl, and_from _ _ (and_from _ _ a b) c))) (
    λ e. absurd (cc)))))

access_spelled : (word : List ℕ) (fields : List (List ℕ)) (l : Line) → access_of word fields ≡ Ok l → Spelled (word ∷ fields) l
access_spelled word fields l =
    by_word word (codes "ld") fields l (with_four line.Ld fields) _ (four_spelled line.Ld (codes "ld") fields l (λ w r s n a. (refl, a))) (
    by_word word (codes "st") fields l (with_four line.St fields) _ (four_spelled line.St (codes "st") fields l (λ w r s n a. (refl, a))) (
    by_word word (codes "put") fields l (with_two register_of put_bytes_of line.Put fields) _ (two_spelled registers puts line.Put (codes "put") fields l (λ x y a b. (refl, stored x y a b))) (
    by_word word (codes "in") fields l (with_three port_width_of register_of port_of line.In fields) _ (three_spelled port_widths ports line.In (codes "in") fields l (λ x r y a b c. (refl, and_from _ _ (and_from _ _ a b) c))) (
    by_word word (codes "out") fields l (with_three port_width_of register_of port_of line.Out fields) _ (three_spelled port_widths ports line.Out (codes "out") fields l (λ x r y a b c. (refl, and_from _ _ (and_from _ _ a b) c))) (
    jump_spelled word fields l)))))
  where
    stored : (ra : ℕ) (bytes : List ℕ) → is_register ra ≡ true → is_stored bytes ≡ true → (is_register ra && is_put bytes && are_bytes bytes) ≡ true
    stored ra bytes a b = let both = and_parts (is_put bytes) (are_bytes bytes) b in and_from _ _ (and_from _ _ a both.0) both.1

all_math_spelled : (word : List ℕ) (fields : List (List ℕ)) (l : Line) → math_of word fields ≡ Ok l → Spelled (word ∷ fields) l
all_math_spelled word fields l =
    by_word word (codes "add") fields l _ _ (math_spelled op.Add fields l) (
    by_word word (codes "sub") fields l _ _ (math_spelled op.Sub fields l) (
    by_word word (codes "and") fields l _ _ (math_spelled op.And fields l) (
    by_word word (codes "or") fields l _ _ (math_spelled op.Or fields l) (
    by_word word (codes "xor") fields l _ _ (math_spelled op.Xor fields l) (
    access_spelled word fields l)))))

instruction_spelled : (word : List ℕ) (fields : List (List ℕ)) (l : Line) → instruction_of word fields ≡ Ok l → Spelled (word ∷ fields) l
instruction_spelled word fields l =
    by_word word (codes "at") fields l (with_one name_of line.At fields) _ (one_spelled names line.At (codes "at") fields l (λ x a. (refl, a))) (
    by_word word (codes "set") fields l (with_two register_of value_of line.Set fields) _ (two_spelled registers values line.Set (codes "set") fields l (λ x y a b. (refl, and_from _ _ a b))) (
    by_word word (codes "mov") fields l (with_two register_of register_of line.Mov fields) _ (two_spelled registers registers line.Mov (codes "mov") fields l (λ x y a b. (refl, and_from _ _ a b))) (
    by_word word (codes "halt") fields l (with_none line.Halt fields) _ (none_spelled line.Halt l (codes "halt") fields (refl, refl)) (
    all_math_spelled word fields l))))

fields_spelled : (fields : List (List ℕ)) (l : Line) → by_fields fields ≡ Ok l → Spelled fields l
fields_spelled [] l e = absurd (cc)
fields_spelled (word ∷ fields) l e = instruction_spelled word fields l e

-- a line that is read is the text of its instruction, which can stand in a script
pub line_spelled : (text : List ℕ) (l : Line) → line_of text ≡ Ok l → (text ≡ line_text l) × (is_instruction l ≡ true)
line_spelled text l e =
    let all = fields_spelled (fields_of text) l e in
    (sym (join_with_byte-slice_split 32 text) ∙ (ap (join_with_byte 32) all.0 ∙ parts_joined l), all.1)

-- ---- what is spelled so is read

-- the parts of a test of three
both : (a b c : Bool) → (a && b && c) ≡ true → (a ≡ true) × (b ≡ true) × (c ≡ true)
both a b c h = let last = and_parts (a && b) c h in let first = and_parts a b last.0 in (first.0, first.1, last.1)

math_again : (o : MathOp) (rd ra rb : ℕ) → is_instruction (line.Math o rd ra rb) ≡ true → with_three register_of register_of register_of (line.Math o) (register rd ∷ register ra ∷ register rb ∷ []) ≡ Ok (line.Math o rd ra rb)
math_again o rd ra rb h =
    let p = both (is_register rd) (is_register ra) (is_register rb) h in
    three_again registers registers (line.Math o) rd ra rb p.0 p.1 p.2

parts_again : (l : Line) → is_instruction l ≡ true → by_fields (parts l) ≡ Ok l
parts_again (line.At name) h = one_again names line.At name h
parts_again (line.Set rd value) h = let p = and_parts (is_register rd) (is_value value) h in two_again registers values line.Set rd value p.0 p.1
parts_again (line.Mov rd ra) h = let p = and_parts (is_register rd) (is_register ra) h in two_again registers registers line.Mov rd ra p.0 p.1
parts_again (line.Math op.Add rd ra rb) h = math_again op.Add rd ra rb h
parts_again (line.Math op.Sub rd ra rb) h = math_again op.Sub rd ra rb h
parts_again (line.Math op.And rd ra rb) h = math_again op.And rd ra rb h
parts_again (line.Math op.Or rd ra rb) h = math_again op.Or rd ra rb h
parts_again (line.Math op.Xor rd ra rb) h = math_again op.Xor rd ra rb h
parts_again (line.Ld width rd ra offset) h = four_again line.Ld width rd ra offset h
parts_again (line.St width rs ra offset) h = four_again line.St width rs ra offset h
parts_again (line.Put ra bytes) h = let p = both (is_register ra) (is_put bytes) (are_bytes bytes) h in two_again registers puts line.Put ra bytes p.0 (and_from _ _ p.1 p.2)
parts_again (line.In width rd port) h = let p = both (is_port_width width) (is_register rd) (is_port port) h in three_again port_widths ports line.In width rd port p.0 p.1 p.2
parts_again (line.Out width rs port) h = let p = both (is_port_width width) (is_register rs) (is_port port) h in three_again port_widths ports line.Out width rs port p.0 p.1 p.2
parts_again (line.Jmp to) h = one_again names line.Jmp to h
parts_again (line.Jz ra to) h = let p = and_parts (is_register ra) (is_id to) h in two_again registers names line.Jz ra to p.0 p.1
parts_again (line.Jnz ra to) h = let p = and_parts (is_register ra) (is_id to) h in two_again registers names line.Jnz ra to p.0 p.1
parts_again (line.Jlt ra rb to) h = let p = both (is_register ra) (is_register rb) (is_id to) h in three_again registers names line.Jlt ra rb to p.0 p.1 p.2
parts_again line.Halt h = halt_again
  where
    halt_again : with_none line.Halt [] ≡ Ok line.Halt
    halt_again = unfold with_none in refl

operation_plain : (o : MathOp) → is_plain (operation o) ≡ true
operation_plain op.Add = refl
operation_plain op.Sub = refl
operation_plain op.And = refl
operation_plain op.Or = refl
operation_plain op.Xor = refl

-- so many tests that hold
plain_two : {w a b : Bool} → w ≡ true → a ≡ true → b ≡ true → (w && (a && (b && true))) ≡ true
plain_two h i j = and_from _ _ h (and_from _ _ i (and_from _ _ j refl))

plain_three : {w a b c : Bool} → w ≡ true → a ≡ true → b ≡ true → c ≡ true → (w && (a && (b && (c && true)))) ≡ true
plain_three h i j k = and_from _ _ h (plain_two i j k)

plain_access : (word : List ℕ) (w r s n : ℕ) → is_plain word ≡ true → (is_width w && is_register r && is_register s && is_value n) ≡ true → list_all is_plain (word ∷ dec_text w ∷ register r ∷ register s ∷ hex_text n ∷ []) ≡ true
plain_access word w r s n h g =
    let last = and_parts (is_width w && is_register r && is_register s) (is_value n) g in
    let p = both (is_width w) (is_register r) (is_register s) last.0 in
    and_from _ _ h (plain_three (memory_widths.plain w p.0) (registers.plain r p.1) (registers.plain s p.2) (values.plain n last.1))

parts_plain : (l : Line) → is_instruction l ≡ true → list_all is_plain (parts l) ≡ true
parts_plain (line.At name) h = and_from _ _ refl (and_from _ _ (names.plain name h) refl)
parts_plain (line.Set rd value) h = let p = and_parts (is_register rd) (is_value value) h in plain_two refl (registers.plain rd p.0) (values.plain value p.1)
parts_plain (line.Mov rd ra) h = let p = and_parts (is_register rd) (is_register ra) h in plain_two refl (registers.plain rd p.0) (registers.plain ra p.1)
parts_plain (line.Math o rd ra rb) h = let p = both (is_register rd) (is_register ra) (is_register rb) h in plain_three (operation_plain o) (registers.plain rd p.0) (registers.plain ra p.1) (registers.plain rb p.2)
parts_plain (line.Ld width rd ra offset) h = plain_access (codes "ld") width rd ra offset refl h
parts_plain (line.St width rs ra offset) h = plain_access (codes "st") width rs ra offset refl h
parts_plain (line.Put ra bytes) h = let p = both (is_register ra) (is_put bytes) (are_bytes bytes) h in plain_two refl (registers.plain ra p.0) (puts.plain bytes (and_from _ _ p.1 p.2))
parts_plain (line.In width rd port) h = let p = both (is_port_width width) (is_register rd) (is_port port) h in plain_three refl (port_widths.plain width p.0) (registers.plain rd p.1) (ports.plain port p.2)
parts_plain (line.Out width rs port) h = let p = both (is_port_width width) (is_register rs) (is_port port) h in plain_three refl (port_widths.plain width p.0) (registers.plain rs p.1) (ports.plain port p.2)
parts_plain (line.Jmp to) h = and_from _ _ refl (and_from _ _ (names.plain to h) refl)
parts_plain (line.Jz ra to) h = let p = and_parts (is_register ra) (is_id to) h in plain_two refl (registers.plain ra p.0) (names.plain to p.1)
parts_plain (line.Jnz ra to) h = let p = and_parts (is_register ra) (is_id to) h in plain_two refl (registers.plain ra p.0) (names.plain to p.1)
parts_plain (line.Jlt ra rb to) h = let p = both (is_register ra) (is_register rb) (is_id to) h in plain_three refl (registers.plain ra p.0) (registers.plain rb p.1) (names.plain to p.2)
parts_plain line.Halt h = refl

all_no_space : (fields : List (List ℕ)) → list_all is_plain fields ≡ true → list_all no_space fields ≡ true
all_no_space [] h = refl
all_no_space (field ∷ fields) h = let p = and_parts (is_plain field) (list_all is_plain fields) h in and_from _ _ (plain_no_space field p.0) (all_no_space fields p.1)

joined_parts : (fields : List (List ℕ)) (l : Line) → fields ≡ parts l → list_all is_plain fields ≡ true → by_fields fields ≡ Ok l → fields_of (join_with_byte 32 fields) ≡ fields
joined_parts [] l is h e = absurd (cc)
joined_parts (field ∷ fields) l is h e = fields_joined field fields (all_no_space (field ∷ fields) h)

-- the fields of an instruction's text
pub text_parts : (l : Line) → is_instruction l ≡ true → fields_of (line_text l) ≡ parts l
text_parts l h = ap fields_of (sym (parts_joined l)) ∙ joined_parts (parts l) l refl (parts_plain l h) (parts_again l h)

-- whether no line feed stands in a text
abbrev no_feed : List ℕ → Bool
no_feed text = list_all (λ b. not (b == 10)) text

joined_no_feed : (text rest : List ℕ) → no_feed text ≡ true → no_feed rest ≡ true → no_feed (text ++ 32 ∷ rest) ≡ true
joined_no_feed [] rest h g = g
joined_no_feed (b ∷ bytes) rest h g = let p = and_parts (not (b == 10)) (no_feed bytes) h in and_from _ _ p.0 (joined_no_feed bytes rest p.1 g)

fields_no_feed : (fields : List (List ℕ)) → list_all is_plain fields ≡ true → no_feed (join_with_byte 32 fields) ≡ true
fields_no_feed [] h = refl
fields_no_feed (field ∷ []) h = plain_no_feed field (and_parts (is_plain field) true h).0
fields_no_feed (field ∷ next ∷ fields) h =
    let p = and_parts (is_plain field) (list_all is_plain (next ∷ fields)) h in
    joined_no_feed field (join_with_byte 32 (next ∷ fields)) (plain_no_feed field p.0) (fields_no_feed (next ∷ fields) p.1)

-- no line feed stands in the text of an instruction
pub text_no_feed : (l : Line) → is_instruction l ≡ true → no_feed (line_text l) ≡ true
text_no_feed l h = subst (λ text. no_feed text ≡ true) (parts_joined l) (fields_no_feed (parts l) (parts_plain l h))

-- the text of an instruction that can stand in a script is read as it
pub line_again : (l : Line) → is_instruction l ≡ true → line_of (line_text l) ≡ Ok l
line_again l h = ap by_fields (text_parts l h) ∙ parts_again l h

-- ---- labels

parts_label : (l : Line) → is_instruction l ≡ true → label_in (parts l) ≡ own_label l
parts_label (line.At name) h = cond-true (is_id name) (Some name) None h
parts_label (line.Set rd value) h = refl
parts_label (line.Mov rd ra) h = refl
parts_label (line.Math o rd ra rb) h = refl
parts_label (line.Ld width rd ra offset) h = refl
parts_label (line.St width rs ra offset) h = refl
parts_label (line.Put ra bytes) h = refl
parts_label (line.In width rd port) h = refl
parts_label (line.Out width rs port) h = refl
parts_label (line.Jmp to) h = refl
parts_label (line.Jz ra to) h = refl
parts_label (line.Jnz ra to) h = refl
parts_label (line.Jlt ra rb to) h = refl
parts_label line.Halt h = refl

-- the label of an instruction's text is the instruction's own
pub text_label : (l : Line) → is_instruction l ≡ true → label_in (fields_of (line_text l)) ≡ own_label l
text_label l h = ap label_in (text_parts l h) ∙ parts_label l h
