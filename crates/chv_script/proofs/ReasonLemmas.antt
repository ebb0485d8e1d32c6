-- A line fails for the first reason that holds of it.
use Rattle.std.proofs.Common.{◌≡◌, ◌≢◌, ◌⊎◌, inl, inr, ℕ, ◌^◌, Bool, true, false, cond, List, [], ◌∷◌, ◌++◌, length, take, drop, codes, Option, None, Some, Result, Ok, Err, refl, sym, ◌∙◌, ap, subst, arith}
use Rattle.std.specs.Str.{bytes_eq}
use Rattle.std.proofs.lemmas.Bool.{and_parts, and_from, leb-true, le-leb, ltb-true, lt-ltb}
use Rattle.chv_defs_base.specs.Id.{is_id}
use Rattle.chv_defs_base.specs.Numbers.{dec, hex, bytes_of, is_width}
use Rattle.chv_defs_base.specs.declared.rule.Reason.{Reason}
use Rattle.chv_defs_base.specs.declared.rule.Reason.TheVariants.{UnknownWord, FieldCount, BadRegister, BadWidth, BadHex, BadName, LabelTwice, UnknownLabel}
use Rattle.chv_defs_scene.specs.declared.scene.Line.{Line}
use Rattle.chv_defs_scene.specs.declared.scene.Line.TheVariants as line
use Rattle.chv_defs_scene.specs.declared.scene.MathOp.{MathOp}
use Rattle.chv_defs_scene.specs.declared.scene.MathOp.TheVariants as op
use Rattle.chv_defs_scene.specs.LineShapes.{Kind, Register, MemoryWidth, PortWidth, Value, Port, Stored, Label, IsOfKind, bad, AreOfKinds, FirstIsBad, kinds_of, FieldsFit, FieldsFail, instruction_shapes}
use Rattle.chv_defs_api.specs.Registers.{is_port_width}
use Rattle.chv_defs_scene.specs.ScriptReading.{◌>>=◌, fields_of, kept, is_register, is_port, is_put, register_of, memory_width_of, port_width_of, value_of, port_of, put_bytes_of, name_of, one, two, three, four, with_none, with_one, with_two, with_three, with_four, instruction_of, by_fields, line_of, labels_of, has_label, target, own_label, is_there, is_missing, label_fault, unless, line_between, is_instruction}
use Rattle.chv_defs_scene.specs.ScriptText.{line_text}
use Rattle.chv_script.specs.Reasons.{LooksLike, LooksWrong, InstructionFails, NamesFirstReason}
use Rattle.chv_script.proofs.FieldLemmas.{not_is}
use Rattle.chv_num.proofs.PairBytes.{are_bytes}
use Rattle.chv_script.proofs.KindLemmas.{IsKind, registers, memory_widths, port_widths, values, ports, names}
use Rattle.chv_script.proofs.PutLemmas.{puts}
use Rattle.chv_script.proofs.InstructionLemmas.{line_spelled}
use Rattle.chv_script.proofs.LawLemmas.{names_first}

-- ---- fields of a kind

-- A reader of fields reads those of a kind, and refuses the others for the reason of the kind.
pub record Reads {A : Type 0} (read : List ℕ → Result A Reason) (kind : Kind) : Type 0 where
  pub fits : (field : List ℕ) (x : A) → read field ≡ Ok x → IsOfKind kind field
  pub fails : (field : List ℕ) (reason : Reason) → read field ≡ Err reason → (IsOfKind kind field → ⊥) × (reason ≡ bad kind)

-- the same by how its values are spelled
pub reads_kind : {A : Type 0} {read : List ℕ → Result A Reason} {text : A → List ℕ} {good : A → Bool} (is : IsKind read text good) (kind : Kind) → ((x : A) → good x ≡ true → IsOfKind kind (text x)) → ((field : List ℕ) → IsOfKind kind field → (x : A) × (good x ≡ true) × (field ≡ text x)) → ((field : List ℕ) (reason : Reason) → read field ≡ Err reason → reason ≡ bad kind) → Reads read kind
reads_kind {read = read} is kind there back why = record {
  fits = λ field x e. let found = is.spelled field x e in subst (IsOfKind kind) (sym found.0) (there x found.1);
  fails = λ field reason e. (
    λ of. let found = back field of in let both : Err reason ≡ Ok found.0 = sym e ∙ (ap read found.2 ∙ is.again found.0 found.1) in cc,
    why field reason e,
  );
}

chosen_reason : {A : Type 0} (v : Bool) (x : A) (why reason : Reason) → cond v (Ok x) (Err why) ≡ Err reason → reason ≡ why
chosen_reason true x why reason e = absurd (cc)
chosen_reason false x why reason e = cc

pub kept_reason : {A : Type 0} (test : A → Bool) (why : Reason) (found : Option A) (reason : Reason) → kept test why found ≡ Err reason → reason ≡ why
kept_reason test why None reason e = cc
kept_reason test why (Some x) reason e = chosen_reason (test x) x why reason e

other_reason : {A : Type 0} (v : Bool) (read : Result A Reason) (why reason : Reason) → (read ≡ Err reason → reason ≡ why) → cond v read (Err why) ≡ Err reason → reason ≡ why
other_reason true read why reason h e = h e
other_reason false read why reason h e = cc

read_registers : Reads register_of Register
unfolding register_of
read_registers =
    reads_kind registers Register (λ x good. (x, leb-true x 15 good, refl)) (λ field of. (of.0, le-leb of.0 15 of.1, of.2))
    (λ field reason e. other_reason (bytes_eq (take 1 field) (codes "r")) (kept is_register BadRegister (dec (drop 1 field))) BadRegister reason (kept_reason is_register BadRegister (dec (drop 1 field)) reason) e)

read_widths : Reads memory_width_of MemoryWidth
unfolding memory_width_of
read_widths =
    reads_kind memory_widths MemoryWidth (λ x good. (x, good, refl)) (λ field of. (of.0, of.1, of.2))
    (λ field reason e. kept_reason is_width BadWidth (dec field) reason e)

read_port_widths : Reads port_width_of PortWidth
unfolding port_width_of
read_port_widths =
    reads_kind port_widths PortWidth (λ x good. (x, good, refl)) (λ field of. (of.0, of.1, of.2))
    (λ field reason e. kept_reason is_port_width BadWidth (dec field) reason e)

read_values : Reads value_of Value
unfolding value_of
read_values =
    reads_kind values Value (λ x good. (x, ltb-true x (2 ^ 64) good, refl)) (λ field of. (of.0, lt-ltb of.0 (2 ^ 64) of.1, of.2))
    (λ field reason e. kept_reason (λ n. true) BadHex (hex field) reason e)

read_ports : Reads port_of Port
unfolding port_of
read_ports =
    reads_kind ports Port (λ x good. (x, leb-true x 65535 good, refl)) (λ field of. (of.0, le-leb of.0 65535 of.1, of.2))
    (λ field reason e. kept_reason is_port BadHex (hex field) reason e)

read_stored : Reads put_bytes_of Stored
unfolding put_bytes_of
read_stored =
    reads_kind puts Stored (λ x good. let both = and_parts (is_put x) (are_bytes x) good in (x, both.0, both.1, refl)) (λ field of. (of.0, and_from _ _ of.1 of.2, of.3))
    (λ field reason e. kept_reason is_put BadHex (bytes_of field) reason e)

read_labels : Reads name_of Label
unfolding name_of
read_labels =
    reads_kind names Label (λ x good. good) (λ field of. (field, of, refl))
    (λ field reason e. kept_reason is_id BadName (Some field) reason e)

-- ---- a word and its fields

-- what is read of fields judges them by the kinds behind the word
pub record Judges {B : Type 0} (kinds : Option (List Kind)) (fields : List (List ℕ)) (read : Result B Reason) : Type 0 where
  pub fits : (x : B) → read ≡ Ok x → FieldsFit kinds fields
  pub fails : (reason : Reason) → read ≡ Err reason → FieldsFail kinds fields reason

-- the word is this one, or another
pub by_word : {B : Type 0} (v : Bool) (kinds : List Kind) (others : Option (List Kind)) (fields : List (List ℕ)) (this rest : Result B Reason) → Judges (Some kinds) fields this → Judges others fields rest → Judges (cond v (Some kinds) others) fields (cond v this rest)
by_word true kinds others fields this rest here there = here
by_word false kinds others fields this rest here there = there

pub no_word : {B : Type 0} (fields : List (List ℕ)) → (let read : Result B Reason = Err UnknownWord in Judges None fields read)
no_word fields = record { fits = λ x e. absurd (cc); fails = λ reason e. let is : reason ≡ UnknownWord = cc in is }

-- the number of fields is wrong
pub wrong_count : {B : Type 0} (kinds : List Kind) (fields : List (List ℕ)) (read : Result B Reason) → length fields ≢ length kinds → read ≡ Err FieldCount → Judges (Some kinds) fields read
wrong_count kinds fields read other is = record {
  fits = λ x e. let both : Err FieldCount ≡ Ok x = sym is ∙ e in absurd (cc);
  fails = λ reason e. let both : Err FieldCount ≡ Err reason = sym is ∙ e in let same : reason ≡ FieldCount = cc in inl (other, same);
}

-- as many fields as kinds, of which the first are judged, and what comes behind them
pub record JudgesEach {B : Type 0} (kinds : List Kind) (fields : List (List ℕ)) (read : Result B Reason) : Type 0 where
  pub fits : (x : B) → read ≡ Ok x → AreOfKinds kinds fields
  pub fails : (reason : Reason) → read ≡ Err reason → FirstIsBad kinds fields reason

pub right_count : {B : Type 0} (kinds : List Kind) (fields : List (List ℕ)) (read : Result B Reason) → length fields ≡ length kinds → JudgesEach kinds fields read → Judges (Some kinds) fields read
right_count kinds fields read same each = record { fits = each.fits; fails = λ reason e. inr (same, each.fails reason e) }

pub all_judged : {B : Type 0} (x : B) → (let read : Result B Reason = Ok x in JudgesEach [] [] read)
all_judged x = record { fits = λ y e. tt; fails = λ reason e. absurd (cc) }

next_judged : {A B : Type 0} {read : List ℕ → Result A Reason} (kind : Kind) (reads : Reads read kind) (field : List ℕ) (kinds : List Kind) (fields : List (List ℕ)) (next : A → Result B Reason) (found : Result A Reason) → read field ≡ found → ((x : A) → JudgesEach kinds fields (next x)) → JudgesEach (kind ∷ kinds) (field ∷ fields) (found >>= next)
next_judged kind reads field kinds fields next (Ok x) is rest = record {
  fits = λ y e. (reads.fits field x is, (rest x).fits y e);
  fails = λ reason e. inr (reads.fits field x is, (rest x).fails reason e);
}
next_judged kind reads field kinds fields next (Err why) is rest = record {
  fits = λ y e. absurd (cc);
  fails = λ reason e. let same : why ≡ reason = cc in let found = reads.fails field why is in inl (found.0, sym same ∙ found.1);
}

-- a field, and those behind it
pub then_judged : {A B : Type 0} {read : List ℕ → Result A Reason} {kind : Kind} (reads : Reads read kind) (field : List ℕ) (kinds : List Kind) (fields : List (List ℕ)) (next : A → Result B Reason) → ((x : A) → JudgesEach kinds fields (next x)) → JudgesEach (kind ∷ kinds) (field ∷ fields) (read field >>= next)
then_judged {read = read} {kind = kind} reads field kinds fields next rest = next_judged kind reads field kinds fields next (read field) refl rest

none_judged : (l : Line) (fields : List (List ℕ)) → Judges (Some []) fields (with_none l fields)
unfolding with_none
none_judged l [] = right_count [] [] _ refl (all_judged l)
none_judged l (a ∷ fields) = wrong_count [] (a ∷ fields) _ (λ e. omega (arith, e)) refl

one_judged : {A : Type 0} {read : List ℕ → Result A Reason} {kind : Kind} (reads : Reads read kind) (make : A → Line) (fields : List (List ℕ)) → Judges (Some (kind ∷ [])) fields (with_one read make fields)
unfolding with_one one
one_judged {kind = kind} reads make [] = wrong_count (kind ∷ []) [] _ (λ e. omega (arith, e)) refl
one_judged {kind = kind} reads make (a ∷ []) = right_count (kind ∷ []) (a ∷ []) _ refl (then_judged reads a [] [] (λ x. Ok (make x)) (λ x. all_judged (make x)))
one_judged {kind = kind} reads make (a ∷ b ∷ fields) = wrong_count (kind ∷ []) (a ∷ b ∷ fields) _ (λ e. omega (arith, e)) refl

two_judged : {A B : Type 0} {read : List ℕ → Result A Reason} {kind : Kind} {read' : List ℕ → Result B Reason} {kind' : Kind} (reads : Reads read kind) (reads' : Reads read' kind') (make : A → B → Line) (fields : List (List ℕ)) → Judges (Some (kind ∷ kind' ∷ [])) fields (with_two read read' make fields)
unfolding with_two two
two_judged {kind = kind} {kind' = kind'} reads reads' make [] = wrong_count (kind ∷ kind' ∷ []) [] _ (λ e. omega (arith, e)) refl
two_judged {kind = kind} {kind' = kind'} reads reads' make (a ∷ []) = wrong_count (kind ∷ kind' ∷ []) (a ∷ []) _ (λ e. omega (arith, e)) refl
two_judged {kind = kind} {read' = read'} {kind' = kind'} reads reads' make (a ∷ b ∷ []) =
    right_count (kind ∷ kind' ∷ []) (a ∷ b ∷ []) _ refl
    (then_judged reads a (kind' ∷ []) (b ∷ []) (λ x. read' b >>= λ y. Ok (make x y)) (λ x. then_judged reads' b [] [] (λ y. Ok (make x y)) (λ y. all_judged (make x y))))
two_judged {kind = kind} {kind' = kind'} reads reads' make (a ∷ b ∷ c ∷ fields) = wrong_count (kind ∷ kind' ∷ []) (a ∷ b ∷ c ∷ fields) _ (λ e. omega (arith, e)) refl

three_judged : {A B C : Type 0} {read : List ℕ → Result A Reason} {kind : Kind} {read' : List ℕ → Result B Reason} {kind' : Kind} {read'' : List ℕ → Result C Reason} {kind'' : Kind} (reads : Reads read kind) (reads' : Reads read' kind') (reads'' : Reads read'' kind'') (make : A → B → C → Line) (fields : List (List ℕ)) → Judges (Some (kind ∷ kind' ∷ kind'' ∷ [])) fields (with_three read read' read'' make fields)
unfolding with_three three
three_judged {kind = kind} {kind' = kind'} {kind'' = kind''} reads reads' reads'' make [] = wrong_count (kind ∷ kind' ∷ kind'' ∷ []) [] _ (λ e. omega (arith, e)) refl
three_judged {kind = kind} {kind' = kind'} {kind'' = kind''} reads reads' reads'' make (a ∷ []) = wrong_count (kind ∷ kind' ∷ kind'' ∷ []) (a ∷ []) _ (λ e. omega (arith, e)) refl
three_judged {kind = kind} {kind' = kind'} {kind'' = kind''} reads reads' reads'' make (a ∷ b ∷ []) = wrong_count (kind ∷ kind' ∷ kind'' ∷ []) (a ∷ b ∷ []) _ (λ e. omega (arith, e)) refl
three_judged {kind = kind} {read' = read'} {kind' = kind'} {read'' = read''} {kind'' = kind''} reads reads' reads'' make (a ∷ b ∷ c ∷ []) =
    right_count (kind ∷ kind' ∷ kind'' ∷ []) (a ∷ b ∷ c ∷ []) _ refl
    (then_judged reads a (kind' ∷ kind'' ∷ []) (b ∷ c ∷ []) (λ x. read' b >>= λ y. read'' c >>= λ z. Ok (make x y z))
    (λ x. then_judged reads' b (kind'' ∷ []) (c ∷ []) (λ y. read'' c >>= λ z. Ok (make x y z))
    (λ y. then_judged reads'' c [] [] (λ z. Ok (make x y z)) (λ z. all_judged (make x y z)))))
three_judged {kind = kind} {kind' = kind'} {kind'' = kind''} reads reads' reads'' make (a ∷ b ∷ c ∷ d ∷ fields) = wrong_count (kind ∷ kind' ∷ kind'' ∷ []) (a ∷ b ∷ c ∷ d ∷ fields) _ (λ e. omega (arith, e)) refl

abbrev four_kinds : List Kind
four_kinds = MemoryWidth ∷ Register ∷ Register ∷ Value ∷ []

four_judged : (make : ℕ → ℕ → ℕ → ℕ → Line) (fields : List (List ℕ)) → Judges (Some four_kinds) fields (with_four make fields)
unfolding with_four four
four_judged make [] = wrong_count four_kinds [] _ (λ e. omega (arith, e)) refl
four_judged make (a ∷ []) = wrong_count four_kinds (a ∷ []) _ (λ e. omega (arith, e)) refl
four_judged make (a ∷ b ∷ []) = wrong_count four_kinds (a ∷ b ∷ []) _ (λ e. omega (arith, e)) refl
four_judged make (a ∷ b ∷ c ∷ []) = wrong_count four_kinds (a ∷ b ∷ c ∷ []) _ (λ e. omega (arith, e)) refl
four_judged make (a ∷ b ∷ c ∷ d ∷ []) =
    right_count four_kinds (a ∷ b ∷ c ∷ d ∷ []) _ refl
    (then_judged read_widths a (Register ∷ Register ∷ Value ∷ []) (b ∷ c ∷ d ∷ []) (λ w. register_of b >>= λ r. register_of c >>= λ s. value_of d >>= λ n. Ok (make w r s n))
    (λ w. then_judged read_registers b (Register ∷ Value ∷ []) (c ∷ d ∷ []) (λ r. register_of c >>= λ s. value_of d >>= λ n. Ok (make w r s n))
    (λ r. then_judged read_registers c (Value ∷ []) (d ∷ []) (λ s. value_of d >>= λ n. Ok (make w r s n))
    (λ s. then_judged read_values d [] [] (λ n. Ok (make w r s n)) (λ n. all_judged (make w r s n))))))
four_judged make (a ∷ b ∷ c ∷ d ∷ f ∷ fields) = wrong_count four_kinds (a ∷ b ∷ c ∷ d ∷ f ∷ fields) _ (λ e. omega (arith, e)) refl

math_judged : (o : MathOp) (fields : List (List ℕ)) → Judges (Some (Register ∷ Register ∷ Register ∷ [])) fields (with_three register_of register_of register_of (line.Math o) fields)
math_judged o fields = three_judged read_registers read_registers read_registers (line.Math o) fields

-- an instruction by its word
instruction_judged : (word : List ℕ) (fields : List (List ℕ)) → Judges (kinds_of instruction_shapes word) fields (instruction_of word fields)
instruction_judged word fields =
    by_word (bytes_eq word (codes "at")) _ _ fields _ _ (one_judged read_labels line.At fields) (
    by_word (bytes_eq word (codes "set")) _ _ fields _ _ (two_judged read_registers read_values line.Set fields) (
    by_word (bytes_eq word (codes "mov")) _ _ fields _ _ (two_judged read_registers read_registers line.Mov fields) (
    by_word (bytes_eq word (codes "halt")) _ _ fields _ _ (none_judged line.Halt fields) (
    by_word (bytes_eq word (codes "add")) _ _ fields _ _ (math_judged op.Add fields) (
    by_word (bytes_eq word (codes "sub")) _ _ fields _ _ (math_judged op.Sub fields) (
    by_word (bytes_eq word (codes "and")) _ _ fields _ _ (math_judged op.And fields) (
    by_word (bytes_eq word (codes "or")) _ _ fields _ _ (math_judged op.Or fields) (
    by_word (bytes_eq word (codes "xor")) _ _ fields _ _ (math_judged op.Xor fields) (
    by_word (bytes_eq word (codes "ld")) _ _ fields _ _ (four_judged line.Ld fields) (
    by_word (bytes_eq word (codes "st")) _ _ fields _ _ (four_judged line.St fields) (
    by_word (bytes_eq word (codes "put")) _ _ fields _ _ (two_judged read_registers read_stored line.Put fields) (
    by_word (bytes_eq word (codes "in")) _ _ fields _ _ (three_judged read_port_widths read_registers read_ports line.In fields) (
    by_word (bytes_eq word (codes "out")) _ _ fields _ _ (three_judged read_port_widths read_registers read_ports line.Out fields) (
    by_word (bytes_eq word (codes "jmp")) _ _ fields _ _ (one_judged read_labels line.Jmp fields) (
    by_word (bytes_eq word (codes "jz")) _ _ fields _ _ (two_judged read_registers read_labels line.Jz fields) (
    by_word (bytes_eq word (codes "jnz")) _ _ fields _ _ (two_judged read_registers read_labels line.Jnz fields) (
    by_word (bytes_eq word (codes "jlt")) _ _ fields _ _ (three_judged read_registers read_registers read_labels line.Jlt fields) (
    no_word fields))))))))))))))))))

pub line_looks : (fields : List (List ℕ)) (l : Line) → by_fields fields ≡ Ok l → LooksLike instruction_shapes fields
line_looks [] l e = absurd (cc)
line_looks (word ∷ fields) l e = (instruction_judged word fields).fits l e

line_wrong : (fields : List (List ℕ)) (reason : Reason) → by_fields fields ≡ Err reason → LooksWrong instruction_shapes fields reason
line_wrong [] reason e = let is : reason ≡ UnknownWord = cc in is
line_wrong (word ∷ fields) reason e = (instruction_judged word fields).fails reason e

-- ---- labels

none_there : (labels : List (List ℕ)) (G : Type 0) → is_there labels None ≡ true → G
none_there labels G e = absurd (cc)

-- a label that is there is that of a line that is a label
own_there : (labels : List (List ℕ)) (l : Line) → is_there labels (own_label l) ≡ true → (name : List ℕ) × (l ≡ line.At name) × (has_label labels name ≡ true)
own_there labels (line.At name) h = (name, refl, h)
own_there labels (line.Set rd value) h = none_there labels _ h
own_there labels (line.Mov rd ra) h = none_there labels _ h
own_there labels (line.Math o rd ra rb) h = none_there labels _ h
own_there labels (line.Ld width rd ra offset) h = none_there labels _ h
own_there labels (line.St width rs ra offset) h = none_there labels _ h
own_there labels (line.Put ra bytes) h = none_there labels _ h
own_there labels (line.In width rd port) h = none_there labels _ h
own_there labels (line.Out width rs port) h = none_there labels _ h
own_there labels (line.Jmp to) h = none_there labels _ h
own_there labels (line.Jz ra to) h = none_there labels _ h
own_there labels (line.Jnz ra to) h = none_there labels _ h
own_there labels (line.Jlt ra rb to) h = none_there labels _ h
own_there labels line.Halt h = none_there labels _ h

missing_name : (labels : List (List ℕ)) (to : Option (List ℕ)) → is_missing labels to ≡ true → (name : List ℕ) × (to ≡ Some name) × (has_label labels name ≡ false)
missing_name labels None e = absurd (cc)
missing_name labels (Some name) e = (name, refl, not_is (has_label labels name) e)

label_wrong : (v w : Bool) (l : Line) (reason : Reason) → unless (cond v (Some LabelTwice) (cond w (Some UnknownLabel) None)) l ≡ Err reason → ((v ≡ true) × (reason ≡ LabelTwice)) ⊎ ((w ≡ true) × (reason ≡ UnknownLabel))
label_wrong true w l reason e = inl (refl, (cc))
label_wrong false true l reason e = inr (refl, (cc))
label_wrong false false l reason e = absurd (cc)

labels_fail : (before : List (List ℕ)) (text : List ℕ) (behind : List (List ℕ)) (reason : Reason) (l : Line) → line_of text ≡ Ok l → ((is_there (labels_of before) (own_label l) ≡ true) × (reason ≡ LabelTwice)) ⊎ ((is_missing (labels_of (before ++ text ∷ behind)) (target l) ≡ true) × (reason ≡ UnknownLabel)) → InstructionFails before text behind reason
labels_fail before text behind reason l is (inl twice) =
    let found = own_there (labels_of before) l twice.0 in
    let spelled = line_spelled text l is in
    inr (line_looks (fields_of text) l is, inl ((found.0, subst (λ m. is_instruction m ≡ true) found.1 spelled.1, spelled.0 ∙ ap line_text found.1, found.2), twice.1))
labels_fail before text behind reason l is (inr unknown) =
    let found = missing_name (labels_of (before ++ text ∷ behind)) (target l) unknown.0 in
    let spelled = line_spelled text l is in
    inr (line_looks (fields_of text) l is, inr ((l, found.0, spelled.1, spelled.0, found.1, found.2), unknown.1))

by_line : (before : List (List ℕ)) (text : List ℕ) (behind : List (List ℕ)) (reason : Reason) (found : Result Line Reason) → line_of text ≡ found → (found >>= λ l. unless (label_fault (labels_of before) (labels_of (before ++ text ∷ behind)) l) l) ≡ Err reason → InstructionFails before text behind reason
by_line before text behind reason (Err why) is e = let same : why ≡ reason = cc in inl (subst (LooksWrong instruction_shapes (fields_of text)) same (line_wrong (fields_of text) why is))
by_line before text behind reason (Ok l) is e =
    labels_fail before text behind reason l is (label_wrong (is_there (labels_of before) (own_label l)) (is_missing (labels_of (before ++ text ∷ behind)) (target l)) l reason e)

-- a line that fails does for the first reason that holds of it
pub instruction_fails : (before : List (List ℕ)) (text : List ℕ) (behind : List (List ℕ)) (reason : Reason) → line_between before text behind ≡ Err reason → InstructionFails before text behind reason
instruction_fails before text behind reason e = by_line before text behind reason (line_of text) refl e

pub names_first_reason : NamesFirstReason
names_first_reason lines fault e =
    let is = names_first lines fault e in
    (is.front, is.text, is.behind, is.whole, is.line, instruction_fails is.front is.text is.behind fault.reason is.fails)
