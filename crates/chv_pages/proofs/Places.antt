-- The page with a number among pages that are held.
use Rattle.std.proofs.Common.{◌≡◌, ℕ, ◌+◌, ◌%◌, Bool, true, false, List, [], ◌∷◌, refl, sym, ◌∙◌, ap, subst, arith, length, get_or, set, suc, zero}
use Rattle.std.specs.Prelude.{cond, ◌==◌, ◌||◌, map, slice_index}
use Rattle.std.proofs.lemmas.Bool.{eqb-false}
use Rattle.std.proofs.lemmas.Bool.Decides.{nat_tests}
use Rattle.chv_pages.specs.declared.held.Held.{Held}
use Rattle.chv_pages.specs.HeldPages.{has_number, held_at, is_address, IsAt, AreHeld}

-- ---- what stands at its place

-- the page that holds an address is one
pub one_address : (m n b o : ℕ) → is_address m b o ≡ true → is_address n b o ≡ true → m ≡ n
one_address m n b o h g = grind (arith, nat_tests)

pub at-read : (held : List Held) (place number b o : ℕ) (d : Held) → IsAt held place number → is_address number b o ≡ true → held_at held b o ≡ slice_index (get_or held place d).page (o % 4096)
at-read [] place number b o d h a = absurd h
at-read (x ∷ xs) zero number b o d h a = ap (λ t. cond t (slice_index x.page (o % 4096)) (held_at xs b o)) (ap (λ n. is_address n b o) h ∙ a)
at-read (x ∷ xs) (suc place) number b o d h a = by (is_address x.number b o) refl (at-read xs place number b o d h.1 a)
  where
    by : (t : Bool) → is_address x.number b o ≡ t → held_at xs b o ≡ slice_index (get_or xs place d).page (o % 4096) → cond t (slice_index x.page (o % 4096)) (held_at xs b o) ≡ slice_index (get_or xs place d).page (o % 4096)
    by true e r = absurd (h.0 (one_address x.number number b o e a))
    by false e r = r

pub at-set : (held : List Held) (place number b o : ℕ) (v : Held) → IsAt held place number → v.number ≡ number → held_at (set held place v) b o ≡ cond (is_address number b o) (slice_index v.page (o % 4096)) (held_at held b o)
at-set [] place number b o v h e = absurd h
at-set (x ∷ xs) zero number b o v h e =
    ap (λ n. cond (is_address n b o) (slice_index v.page (o % 4096)) (held_at xs b o)) e
    ∙ by (is_address number b o) refl
  where
    by : (t : Bool) → is_address number b o ≡ t → cond t (slice_index v.page (o % 4096)) (held_at xs b o) ≡ cond t (slice_index v.page (o % 4096)) (held_at (x ∷ xs) b o)
    by true p = refl
    by false p = sym (ap (λ t. cond t (slice_index x.page (o % 4096)) (held_at xs b o)) (ap (λ n. is_address n b o) h ∙ p))
at-set (x ∷ xs) (suc place) number b o v h e = by (is_address x.number b o) (is_address number b o) refl refl (at-set xs place number b o v h.1 e)
  where
    by : (t u : Bool) → is_address x.number b o ≡ t → is_address number b o ≡ u →
        held_at (set xs place v) b o ≡ cond u (slice_index v.page (o % 4096)) (held_at xs b o) →
        cond t (slice_index x.page (o % 4096)) (held_at (set xs place v) b o) ≡ cond u (slice_index v.page (o % 4096)) (cond t (slice_index x.page (o % 4096)) (held_at xs b o))
    by true true p q r = absurd (h.0 (one_address x.number number b o p q))
    by true false p q r = refl
    by false u p q r = r

pub at-numbers : (held : List Held) (place number : ℕ) (v : Held) → IsAt held place number → v.number ≡ number → map (λ h. h.number) (set held place v) ≡ map (λ h. h.number) held
at-numbers [] place number v h e = absurd h
at-numbers (x ∷ xs) zero number v h e = ap (λ n. n ∷ map (λ h. h.number) xs) (e ∙ sym h)
at-numbers (x ∷ xs) (suc place) number v h e = ap (λ rest. x.number ∷ rest) (at-numbers xs place number v h.1 e)

pub at-keeps : (low high : ℕ) (held : List Held) (place number : ℕ) (v : Held) → IsAt held place number → v.number ≡ number → length v.page ≡ 4096 → AreHeld low high held → AreHeld low high (set held place v)
at-keeps low high [] place number v h e len a = absurd h
at-keeps low high (x ∷ xs) zero number v h e len a =
    let same : x.number ≡ v.number = h ∙ sym e in
    (omega (arith, a.0, same), omega (arith, a.1, same), len, subst (λ n. AreHeld (n + 1) high xs) same a.3)
at-keeps low high (x ∷ xs) (suc place) number v h e len a = (a.0, a.1, a.2, at-keeps (x.number + 1) high xs place number v h.1 e len a.3)

-- where no page has the number, its addresses hold 0
pub none-read : (held : List Held) (number b o : ℕ) → has_number held number ≡ false → is_address number b o ≡ true → held_at held b o ≡ 0
none-read [] number b o h a = refl
none-read (x ∷ xs) number b o h a = by (x.number == number) (is_address x.number b o) refl refl h (λ rest. none-read xs number b o rest a)
  where
    by : (s t : Bool) → (x.number == number) ≡ s → is_address x.number b o ≡ t → (s || has_number xs number) ≡ false → (has_number xs number ≡ false → held_at xs b o ≡ 0) → cond t (slice_index x.page (o % 4096)) (held_at xs b o) ≡ 0
    by true t p q r f = cc
    by false true p q r f = absurd (eqb-false x.number number p (one_address x.number number b o q a))
    by false false p q r f = f r
