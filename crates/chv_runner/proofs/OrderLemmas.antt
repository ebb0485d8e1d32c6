-- What a caller entered in each book, and the order, tell its exchanges.
use Rattle.std.proofs.Common.{◌≡◌, ◌∙◌, ℕ, ◌==◌, Bool, true, false, List, [], ◌∷◌, ◌++◌, refl, ap, sym, subst}
use Rattle.std.specs.Prelude.{◌&&◌, Ok, Err, if◌then◌else◌}
use Rattle.std.proofs.lemmas.Bool.{eq-eqb, false≢true}
use Rattle.chv_defs_base.specs.declared.book.BookId.{BookId}
use Rattle.chv_defs_base.specs.declared.book.BookId.TheVariants as book
use Rattle.chv_defs_api.specs.Desks.{Answer}
use Rattle.chv_defs_memory.specs.declared.bank.BankEntry.{BankEntry}
use Rattle.chv_defs_guest.specs.Course.{Accessed, Asked, entries_in}
use Rattle.chv_defs_guest.specs.SliceLaws.{OrderTells}

abbrev head_or : {A : Type 0} → A → List A → A
head_or d [] = d
head_or d (x ∷ xs) = x

abbrev rest_of : {A : Type 0} → List A → List A
rest_of [] = []
rest_of (x ∷ xs) = xs

abbrev zone_in : BookId → ℕ
zone_in (book.Bank zone bank) = zone
zone_in book.Control = 0

abbrev bank_in : BookId → ℕ
bank_in (book.Bank zone bank) = bank
bank_in book.Control = 0

same_rest : {A : Type 0} (t : Bool) (p : A) (xs ys : List A) → (if t then p ∷ [] else []) ++ xs ≡ (if t then p ∷ [] else []) ++ ys → xs ≡ ys
same_rest true p xs ys h = ap rest_of h
same_rest false p xs ys h = h

same_head : {A : Type 0} (t : Bool) (p q : A) (xs ys : List A) → t ≡ true → (if t then p ∷ [] else []) ++ xs ≡ (if t then q ∷ [] else []) ++ ys → p ≡ q
same_head true p q xs ys k h = ap (head_or p) h
same_head false p q xs ys k h = absurd (false≢true k)

both_same : (a b : ℕ) → (a == a && b == b) ≡ true
both_same a b = ap (λ t. t && b == b) (eq-eqb a a refl) ∙ eq-eqb b b refl

pub order_tells : OrderTells
order_tells caller [] [] r s o b d = refl
order_tells caller [] (Accessed z k c (Ok (Ok a)) ∷ fs) r s o b d = cc
order_tells caller [] (Accessed z k c (Ok (Err w)) ∷ fs) r s o b d = cc
order_tells caller [] (Accessed z k c (Err w) ∷ fs) r s o b d = cc
order_tells caller [] (Asked c (Ok (Ok a)) ∷ fs) r s o b d = cc
order_tells caller [] (Asked c (Ok (Err w)) ∷ fs) r s o b d = cc
order_tells caller [] (Asked c (Err w) ∷ fs) r s o b d = cc
order_tells caller (Accessed z k c (Ok (Err w)) ∷ es) fs r s o b d = cc
order_tells caller (Accessed z k c (Err w) ∷ es) fs r s o b d = cc
order_tells caller (Asked c (Ok (Err w)) ∷ es) fs r s o b d = cc
order_tells caller (Asked c (Err w) ∷ es) fs r s o b d = cc
order_tells caller (Accessed z k c (Ok (Ok a)) ∷ es) [] r s o b d = cc
order_tells caller (Asked c (Ok (Ok a)) ∷ es) [] r s o b d = cc
order_tells caller (e ∷ es) (Accessed z k c (Ok (Err w)) ∷ fs) r s o b d = cc
order_tells caller (e ∷ es) (Accessed z k c (Err w) ∷ fs) r s o b d = cc
order_tells caller (e ∷ es) (Asked c (Ok (Err w)) ∷ fs) r s o b d = cc
order_tells caller (e ∷ es) (Asked c (Err w) ∷ fs) r s o b d = cc
order_tells caller (Accessed z k c (Ok (Ok a)) ∷ es) (Asked d (Ok (Ok x)) ∷ fs) r s o b t = cc
order_tells caller (Asked d (Ok (Ok x)) ∷ es) (Accessed z k c (Ok (Ok a)) ∷ fs) r s o b t = cc
order_tells caller (Accessed z k c (Ok (Ok a)) ∷ es) (Accessed y l e (Ok (Ok x)) ∷ fs) r s o b d =
    let first = ap (head_or (book.Bank z k)) o in
    let P : ℕ → ℕ → Type 0 = λ v w. (zone bank : ℕ) → entries_in caller zone bank (Accessed z k c (Ok (Ok a)) ∷ es) ≡ entries_in caller zone bank (Accessed v w e (Ok (Ok x)) ∷ fs) in
    let banks : P z k = subst (λ w. P z w) (sym (ap bank_in first)) (subst (λ v. P v l) (sym (ap zone_in first)) b) in
    let p : BankEntry = record { caller = caller; call = c; reply = a } in
    let q : BankEntry = record { caller = caller; call = e; reply = x } in
    let same : p ≡ q = same_head (z == z && k == k) p q (entries_in caller z k es) (entries_in caller z k fs) (both_same z k) (banks z k) in
    let Q : BankEntry → Type 0 = λ (n : BankEntry). (zone bank : ℕ) → (if zone == z && bank == k then p ∷ [] else []) ++ entries_in caller zone bank es
    ≡ (if zone == z && bank == k then n ∷ [] else []) ++ entries_in caller zone bank fs in
    let alike : Q p = subst Q (sym same) banks in
    let rest = order_tells caller es fs r s (ap rest_of o) (λ zone bank. same_rest (zone == z && bank == k) p (entries_in caller zone bank es) (entries_in caller zone bank fs) (alike zone bank)) d in
    ap (λ xs. Accessed z k c (Ok (Ok a)) ∷ xs) rest ∙ ap (λ (n : BankEntry). Accessed z k n.call (Ok (Ok n.reply)) ∷ fs) same
    ∙ ap (λ v. Accessed v k e (Ok (Ok x)) ∷ fs) (ap zone_in first) ∙ ap (λ w. Accessed y w e (Ok (Ok x)) ∷ fs) (ap bank_in first)
order_tells caller (Asked c (Ok (Ok a)) ∷ es) (Asked e (Ok (Ok x)) ∷ fs) r s o b d =
    let p : Answer = record { call = c; reply = a } in
    ap (λ xs. Asked c (Ok (Ok a)) ∷ xs) (order_tells caller es fs r s (ap rest_of o) b (ap rest_of d)) ∙ ap (λ (n : Answer). Asked n.call (Ok (Ok n.reply)) ∷ fs) (ap (head_or p) d)
