-- Instructions of so many fields: what is read of their fields is spelled so, and is read back.
use Rattle.std.proofs.Common.{◌≡◌, ℕ, ◌&&◌, Bool, true, List, [], ◌∷◌, Result, Ok, Err, refl, sym, ◌∙◌, ap, subst}
use Rattle.std.proofs.lemmas.Bool.{and_parts, and_from}
use Rattle.chv_defs_base.specs.Numbers.{dec_text, hex_text, is_width}
use Rattle.chv_defs_base.specs.declared.rule.Reason.{Reason}
use Rattle.chv_defs_scene.specs.declared.scene.Line.{Line}
use Rattle.chv_defs_scene.specs.ScriptText.{register}
use Rattle.chv_defs_scene.specs.ScriptReading.{◌>>=◌, one, two, three, four, with_none, with_one, with_two, with_three, with_four, is_instruction, is_register, memory_width_of, register_of, value_of}
use Rattle.chv_script.proofs.KindLemmas.{IsKind, registers, memory_widths, values}
use Rattle.chv_script.proofs.PartLemmas.{is_value, parts}

-- the value of a step that did not fail
pub bind_ok : {A B E : Type 0} (r : Result A E) (f : A → Result B E) (y : B) → (r >>= f) ≡ Ok y → (x : A) × (r ≡ Ok x) × (f x ≡ Ok y)
bind_ok (Ok x) f y e = (x, refl, e)
bind_ok (Err d) f y e = absurd (cc)

-- a step that did not fail
pub bind_goes : {A B E : Type 0} (r : Result A E) (f : A → Result B E) (x : A) → r ≡ Ok x → (r >>= f) ≡ f x
bind_goes r f x is = ap (λ r. r >>= f) is

pub made_is : {A : Type 0} (x y : A) (E : Type 0) → (let r : Result A E = Ok x in r) ≡ Ok y → x ≡ y
made_is x y E e = cc

one_ok : (fields : List (List ℕ)) (a : List ℕ) → one fields ≡ Ok a → fields ≡ a ∷ []
unfolding one
one_ok [] a e = absurd (cc)
one_ok (x ∷ []) a e = let is : x ≡ a = cc in ap (λ f. f ∷ []) is
one_ok (x ∷ y ∷ rest) a e = absurd (cc)

two_ok : (fields : List (List ℕ)) (f : List ℕ × List ℕ) → two fields ≡ Ok f → fields ≡ f.0 ∷ f.1 ∷ []
unfolding two
two_ok [] f e = absurd (cc)
two_ok (x ∷ []) f e = absurd (cc)
two_ok (x ∷ y ∷ []) f e = let found : List ℕ × List ℕ = (x, y) in ap (λ (g : List ℕ × List ℕ). g.0 ∷ g.1 ∷ []) (made_is found f Reason e)
two_ok (x ∷ y ∷ z ∷ rest) f e = absurd (cc)

three_ok : (fields : List (List ℕ)) (f : List ℕ × List ℕ × List ℕ) → three fields ≡ Ok f → fields ≡ f.0 ∷ f.1 ∷ f.2 ∷ []
unfolding three
three_ok [] f e = absurd (cc)
three_ok (x ∷ []) f e = absurd (cc)
three_ok (x ∷ y ∷ []) f e = absurd (cc)
three_ok (x ∷ y ∷ z ∷ []) f e = let found : List ℕ × List ℕ × List ℕ = (x, y, z) in ap (λ (g : List ℕ × List ℕ × List ℕ). g.0 ∷ g.1 ∷ g.2 ∷ []) (made_is found f Reason e)
three_ok (x ∷ y ∷ z ∷ w ∷ rest) f e = absurd (cc)

four_ok : (fields : List (List ℕ)) (f : List ℕ × List ℕ × List ℕ × List ℕ) → four fields ≡ Ok f → fields ≡ f.0 ∷ f.1 ∷ f.2 ∷ f.3 ∷ []
unfolding four
four_ok [] f e = absurd (cc)
four_ok (x ∷ []) f e = absurd (cc)
four_ok (x ∷ y ∷ []) f e = absurd (cc)
four_ok (x ∷ y ∷ z ∷ []) f e = absurd (cc)
four_ok (x ∷ y ∷ z ∷ w ∷ []) f e = let found : List ℕ × List ℕ × List ℕ × List ℕ = (x, y, z, w) in ap (λ (g : List ℕ × List ℕ × List ℕ × List ℕ). g.0 ∷ g.1 ∷ g.2 ∷ g.3 ∷ []) (made_is found f Reason e)
four_ok (x ∷ y ∷ z ∷ w ∷ v ∷ rest) f e = absurd (cc)

-- the fields are the instruction's parts, and it can stand in a script
abbrev pub Spelled : List (List ℕ) → Line → Type 0
Spelled fields l = (fields ≡ parts l) × (is_instruction l ≡ true)

-- ---- an instruction of no field, and of one

pub none_spelled : (l m : Line) (word : List ℕ) (fields : List (List ℕ)) → Spelled (word ∷ []) l → with_none l fields ≡ Ok m → Spelled (word ∷ fields) m
unfolding with_none
none_spelled l m word [] is e = subst (Spelled (word ∷ [])) (made_is l m Reason e) is
none_spelled l m word (a ∷ fields) is e = absurd (cc)

pub one_spelled : {A : Type 0} {read : List ℕ → Result A Reason} {text : A → List ℕ} {good : A → Bool} (kind : IsKind read text good) (make : A → Line) (word : List ℕ) (fields : List (List ℕ)) (l : Line) → ((x : A) → good x ≡ true → Spelled (word ∷ text x ∷ []) (make x)) → with_one read make fields ≡ Ok l → Spelled (word ∷ fields) l
unfolding with_one
one_spelled {read = read} {text = text} kind make word fields l is e =
    let a = bind_ok (one fields) (λ f. read f >>= λ x. Ok (make x)) l e in
    let b = bind_ok (read a.0) (λ x. Ok (make x)) l a.2 in
    let field = kind.spelled a.0 b.0 b.1 in
    let all : fields ≡ text b.0 ∷ [] = one_ok fields a.0 a.1 ∙ ap (λ f. f ∷ []) field.0 in
    subst (Spelled (word ∷ fields)) (made_is (make b.0) l Reason b.2) (subst (λ fs. Spelled (word ∷ fs) (make b.0)) (sym all) (is b.0 field.1))

pub one_again : {A : Type 0} {read : List ℕ → Result A Reason} {text : A → List ℕ} {good : A → Bool} (kind : IsKind read text good) (make : A → Line) (x : A) → good x ≡ true → with_one read make (text x ∷ []) ≡ Ok (make x)
unfolding with_one one
one_again {read = read} {text = text} kind make x h = bind_goes (read (text x)) (λ x. Ok (make x)) x (kind.again x h)

-- ---- of two

pub two_spelled : {A B : Type 0} {read : List ℕ → Result A Reason} {text : A → List ℕ} {good : A → Bool} {read' : List ℕ → Result B Reason} {text' : B → List ℕ} {good' : B → Bool} (kind : IsKind read text good) (kind' : IsKind read' text' good') (make : A → B → Line) (word : List ℕ) (fields : List (List ℕ)) (l : Line) → ((x : A) (y : B) → good x ≡ true → good' y ≡ true → Spelled (word ∷ text x ∷ text' y ∷ []) (make x y)) → with_two read read' make fields ≡ Ok l → Spelled (word ∷ fields) l
unfolding with_two
two_spelled {read = read} {text = text} {read' = read'} {text' = text'} kind kind' make word fields l is e =
    let a = bind_ok (two fields) (λ f. read f.0 >>= λ x. read' f.1 >>= λ y. Ok (make x y)) l e in
    let b = bind_ok (read a.0.0) (λ x. read' a.0.1 >>= λ y. Ok (make x y)) l a.2 in
    let c = bind_ok (read' a.0.1) (λ y. Ok (make b.0 y)) l b.2 in
    let first = kind.spelled a.0.0 b.0 b.1 in
    let second = kind'.spelled a.0.1 c.0 c.1 in
    let all : fields ≡ text b.0 ∷ text' c.0 ∷ [] = two_ok fields a.0 a.1 ∙ (ap (λ f. f ∷ a.0.1 ∷ []) first.0 ∙ ap (λ f. text b.0 ∷ f ∷ []) second.0) in
    subst (Spelled (word ∷ fields)) (made_is (make b.0 c.0) l Reason c.2) (subst (λ fs. Spelled (word ∷ fs) (make b.0 c.0)) (sym all) (is b.0 c.0 first.1 second.1))

pub two_again : {A B : Type 0} {read : List ℕ → Result A Reason} {text : A → List ℕ} {good : A → Bool} {read' : List ℕ → Result B Reason} {text' : B → List ℕ} {good' : B → Bool} (kind : IsKind read text good) (kind' : IsKind read' text' good') (make : A → B → Line) (x : A) (y : B) → good x ≡ true → good' y ≡ true → with_two read read' make (text x ∷ text' y ∷ []) ≡ Ok (make x y)
unfolding with_two two
two_again {read = read} {text = text} {read' = read'} {text' = text'} kind kind' make x y h h' =
    bind_goes (read (text x)) (λ x. read' (text' y) >>= λ y. Ok (make x y)) x (kind.again x h)
    ∙ bind_goes (read' (text' y)) (λ y. Ok (make x y)) y (kind'.again y h')

-- ---- of three, of which the second is a register

pub three_spelled : {A C : Type 0} {read : List ℕ → Result A Reason} {text : A → List ℕ} {good : A → Bool} {read' : List ℕ → Result C Reason} {text' : C → List ℕ} {good' : C → Bool} (kind : IsKind read text good) (kind' : IsKind read' text' good') (make : A → ℕ → C → Line) (word : List ℕ) (fields : List (List ℕ)) (l : Line) → ((x : A) (r : ℕ) (y : C) → good x ≡ true → is_register r ≡ true → good' y ≡ true → Spelled (word ∷ text x ∷ register r ∷ text' y ∷ []) (make x r y)) → with_three read register_of read' make fields ≡ Ok l → Spelled (word ∷ fields) l
unfolding with_three
three_spelled {read = read} {text = text} {read' = read'} {text' = text'} kind kind' make word fields l is e =
    let a = bind_ok (three fields) (λ f. read f.0 >>= λ x. register_of f.1 >>= λ r. read' f.2 >>= λ y. Ok (make x r y)) l e in
    let b = bind_ok (read a.0.0) (λ x. register_of a.0.1 >>= λ r. read' a.0.2 >>= λ y. Ok (make x r y)) l a.2 in
    let c = bind_ok (register_of a.0.1) (λ r. read' a.0.2 >>= λ y. Ok (make b.0 r y)) l b.2 in
    let d = bind_ok (read' a.0.2) (λ y. Ok (make b.0 c.0 y)) l c.2 in
    let first = kind.spelled a.0.0 b.0 b.1 in
    let second = registers.spelled a.0.1 c.0 c.1 in
    let third = kind'.spelled a.0.2 d.0 d.1 in
    let all : fields ≡ text b.0 ∷ register c.0 ∷ text' d.0 ∷ [] = three_ok fields a.0 a.1 ∙ (ap (λ f. f ∷ a.0.1 ∷ a.0.2 ∷ []) first.0 ∙ (ap (λ f. text b.0 ∷ f ∷ a.0.2 ∷ []) second.0 ∙ ap (λ f. text b.0 ∷ register c.0 ∷ f ∷ []) third.0)) in
    subst (Spelled (word ∷ fields)) (made_is (make b.0 c.0 d.0) l Reason d.2) (subst (λ fs. Spelled (word ∷ fs) (make b.0 c.0 d.0)) (sym all) (is b.0 c.0 d.0 first.1 second.1 third.1))

pub three_again : {A C : Type 0} {read : List ℕ → Result A Reason} {text : A → List ℕ} {good : A → Bool} {read' : List ℕ → Result C Reason} {text' : C → List ℕ} {good' : C → Bool} (kind : IsKind read text good) (kind' : IsKind read' text' good') (make : A → ℕ → C → Line) (x : A) (r : ℕ) (y : C) → good x ≡ true → is_register r ≡ true → good' y ≡ true → with_three read register_of read' make (text x ∷ register r ∷ text' y ∷ []) ≡ Ok (make x r y)
unfolding with_three three
three_again {read = read} {text = text} {read' = read'} {text' = text'} kind kind' make x r y h g h' =
    bind_goes (read (text x)) (λ x. register_of (register r) >>= λ r. read' (text' y) >>= λ y. Ok (make x r y)) x (kind.again x h)
    ∙ (bind_goes (register_of (register r)) (λ r. read' (text' y) >>= λ y. Ok (make x r y)) r (registers.again r g)
    ∙ bind_goes (read' (text' y)) (λ y. Ok (make x r y)) y (kind'.again y h'))

-- ---- of four

pub four_spelled : (make : ℕ → ℕ → ℕ → ℕ → Line) (word : List ℕ) (fields : List (List ℕ)) (l : Line) → ((w r s n : ℕ) → (is_width w && is_register r && is_register s && is_value n) ≡ true → Spelled (word ∷ dec_text w ∷ register r ∷ register s ∷ hex_text n ∷ []) (make w r s n)) → with_four make fields ≡ Ok l → Spelled (word ∷ fields) l
unfolding with_four
four_spelled make word fields l is e =
    let a = bind_ok (four fields) (λ f. memory_width_of f.0 >>= λ w. register_of f.1 >>= λ r. register_of f.2 >>= λ s. value_of f.3 >>= λ n. Ok (make w r s n)) l e in
    let b = bind_ok (memory_width_of a.0.0) (λ w. register_of a.0.1 >>= λ r. register_of a.0.2 >>= λ s. value_of a.0.3 >>= λ n. Ok (make w r s n)) l a.2 in
    let c = bind_ok (register_of a.0.1) (λ r. register_of a.0.2 >>= λ s. value_of a.0.3 >>= λ n. Ok (make b.0 r s n)) l b.2 in
    let d = bind_ok (register_of a.0.2) (λ s. value_of a.0.3 >>= λ n. Ok (make b.0 c.0 s n)) l c.2 in
    let f = bind_ok (value_of a.0.3) (λ n. Ok (make b.0 c.0 d.0 n)) l d.2 in
    let width = memory_widths.spelled a.0.0 b.0 b.1 in
    let first = registers.spelled a.0.1 c.0 c.1 in
    let second = registers.spelled a.0.2 d.0 d.1 in
    let offset = values.spelled a.0.3 f.0 f.1 in
    let all : fields ≡ dec_text b.0 ∷ register c.0 ∷ register d.0 ∷ hex_text f.0 ∷ [] = four_ok fields a.0 a.1 ∙ (ap (λ t. t ∷ a.0.1 ∷ a.0.2 ∷ a.0.3 ∷ []) width.0 ∙ (ap (λ t. dec_text b.0 ∷ t ∷ a.0.2 ∷ a.0.3 ∷ []) first.0 ∙ (ap (λ t. dec_text b.0 ∷ register c.0 ∷ t ∷ a.0.3 ∷ []) second.0 ∙ ap (λ t. dec_text b.0 ∷ register c.0 ∷ register d.0 ∷ t ∷ []) offset.0))) in
    let fine = and_from _ _ (and_from _ _ (and_from _ _ width.1 first.1) second.1) offset.1 in
    subst (Spelled (word ∷ fields)) (made_is (make b.0 c.0 d.0 f.0) l Reason f.2) (subst (λ fs. Spelled (word ∷ fs) (make b.0 c.0 d.0 f.0)) (sym all) (is b.0 c.0 d.0 f.0 fine))

pub four_again : (make : ℕ → ℕ → ℕ → ℕ → Line) (w r s n : ℕ) → (is_width w && is_register r && is_register s && is_value n) ≡ true → with_four make (dec_text w ∷ register r ∷ register s ∷ hex_text n ∷ []) ≡ Ok (make w r s n)
unfolding with_four four
four_again make w r s n h =
    let offset = and_parts (is_width w && is_register r && is_register s) (is_value n) h in
    let second = and_parts (is_width w && is_register r) (is_register s) offset.0 in
    let first = and_parts (is_width w) (is_register r) second.0 in
    bind_goes (memory_width_of (dec_text w)) (λ w. register_of (register r) >>= λ r. register_of (register s) >>= λ s. value_of (hex_text n) >>= λ n. Ok (make w r s n)) w (memory_widths.again w first.0)
    ∙ (bind_goes (register_of (register r)) (λ r. register_of (register s) >>= λ s. value_of (hex_text n) >>= λ n. Ok (make w r s n)) r (registers.again r first.1)
    ∙ (bind_goes (register_of (register s)) (λ s. value_of (hex_text n) >>= λ n. Ok (make w r s n)) s (registers.again s second.1)
    ∙ bind_goes (value_of (hex_text n)) (λ n. Ok (make w r s n)) n (values.again n offset.1)))
