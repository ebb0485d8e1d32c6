-- Pages that are put at their number.
use Rattle.std.proofs.Common.{◌≡◌, ℕ, ◌+◌, ◌/◌, ◌%◌, ◌<◌, ◌≤◌, Bool, true, false, List, [], ◌∷◌, None, Some, Ok, Err, refl, sym, ◌∙◌, ap, subst, arith, length, set, suc}
use Rattle.std.specs.Prelude.{cond, ◌==◌, ◌||◌, nat_lt, insert, slice_index, MatchResult}
use Rattle.std.specs.List.{cons_option}
use Rattle.chv_lists.proofs.Located.{locate-cases}
use Rattle.chv_pages.proofs.Search.{located}
use Rattle.chv_pages.proofs.Places.{one_address}
use Rattle.std.proofs.lemmas.Bool.Decides.{nat_tests}
use Rattle.std.proofs.lemmas.Bool.{or_parts}
use Rattle.chv_defs_memory.specs.PageContents.{is_blank}
use Rattle.chv_pages.specs.declared.held.Held.{Held}
use Rattle.chv_pages.specs.HeldPages.{has_number, held_at, is_address, put, shown, visible, AreHeld, MakesRoom}

-- a page of the number
abbrev pub page_of : ℕ → List ℕ → Held
page_of number page = record { number = number; page = page }

-- put at the place that is located: in place of the page that stands there, or before it
put-located : (number : ℕ) (page : List ℕ) (held : List Held) →
    MatchResult (located held number) (λ place. set held place (page_of number page) ≡ put held number page) (λ place. insert held place (page_of number page) ≡ put held number page)
put-located number page held = locate-cases (λ (h : Held). h.number) (λ (h : Held). h.number + 1) number (λ hs k. set hs k (page_of number page) ≡ put hs number page) (λ hs k. insert hs k (page_of number page) ≡ put hs number page) refl here before found missed held
  where
    here : (x : Held) (hs : List Held) → x.number ≤ number → number < x.number + 1 → set (x ∷ hs) 0 (page_of number page) ≡ put (x ∷ hs) number page
    here x hs from below =
        let no : nat_lt x.number number ≡ false = grind (arith, nat_tests) in
        let same : (x.number == number) ≡ true = grind (arith, nat_tests) in
        rw (no, same) refl

    before : (x : Held) (hs : List Held) → number < x.number → number < x.number + 1 → insert (x ∷ hs) 0 (page_of number page) ≡ put (x ∷ hs) number page
    before x hs above below =
        let no : nat_lt x.number number ≡ false = grind (arith, nat_tests) in
        let other : (x.number == number) ≡ false = grind (arith, nat_tests) in
        rw (no, other) refl

    found : (x : Held) (hs : List Held) (k : ℕ) → x.number + 1 ≤ number → set hs k (page_of number page) ≡ put hs number page → set (x ∷ hs) (suc k) (page_of number page) ≡ put (x ∷ hs) number page
    found x hs k past f = let less : nat_lt x.number number ≡ true = grind (arith, nat_tests) in rw less (ap (λ (rest : List Held). x ∷ rest) f)

    missed : (x : Held) (hs : List Held) (k : ℕ) → x.number + 1 ≤ number → insert hs k (page_of number page) ≡ put hs number page → insert (x ∷ hs) (suc k) (page_of number page) ≡ put (x ∷ hs) number page
    missed x hs k past f = let less : nat_lt x.number number ≡ true = grind (arith, nat_tests) in rw less (ap (λ (rest : List Held). x ∷ rest) f)

-- the same, of pages that were read before
pub put-found : (items before : List Held) (place number : ℕ) (page : List ℕ) → before ≡ items → located before number ≡ Ok place → set items place (page_of number page) ≡ put items number page
put-found items before place number page e at =
    subst (λ r. MatchResult r (λ k. set items k (page_of number page) ≡ put items number page) (λ k. insert items k (page_of number page) ≡ put items number page)) (sym (ap (λ hs. located hs number) e) ∙ at) (put-located number page items)

pub put-missed : (items before : List Held) (place number : ℕ) (page : List ℕ) → before ≡ items → located before number ≡ Err place → insert items place (page_of number page) ≡ put items number page
put-missed items before place number page e at =
    subst (λ r. MatchResult r (λ k. set items k (page_of number page) ≡ put items number page) (λ k. insert items k (page_of number page) ≡ put items number page)) (sym (ap (λ hs. located hs number) e) ∙ at) (put-located number page items)

or_cases : (a b c : Bool) → (b ≡ c) → (a || b) ≡ (a || c)
or_cases a b c e = ap (λ x. a || x) e

-- ---- what a page that was put changes

or_swap : (a b c : Bool) → (a || (b || c)) ≡ (b || (a || c))
or_swap true true c = refl
or_swap true false c = refl
or_swap false true c = refl
or_swap false false c = refl

or_twice : (a c : Bool) → (a || c) ≡ (a || (a || c))
or_twice true c = refl
or_twice false c = refl

-- which numbers are held
pub put-has : (held : List Held) (number : ℕ) (page : List ℕ) (n : ℕ) → has_number (put held number page) n ≡ ((number == n) || has_number held n)
put-has [] number page n = refl
put-has (h ∷ hs) number page n = by (nat_lt h.number number) (h.number == number) refl (put-has hs number page n)
  where
    by : (b e : Bool) → (h.number == number) ≡ e → has_number (put hs number page) n ≡ ((number == n) || has_number hs n) →
        has_number (cond b (h ∷ put hs number page) (cond e (record { number = number; page = page } ∷ hs) (record { number = number; page = page } ∷ h ∷ hs))) n
        ≡ ((number == n) || ((h.number == n) || has_number hs n))
    by true e p r = ap (λ x. (h.number == n) || x) r ∙ or_swap (h.number == n) (number == n) (has_number hs n)
    by false true p r =
        let same : h.number ≡ number = grind (arith, nat_tests) in
        or_twice (number == n) (has_number hs n) ∙ ap (λ m. (number == n) || ((m == n) || has_number hs n)) (sym same)
    by false false p r = refl

-- the pages ascend as before
pub put-keeps : (low high : ℕ) (held : List Held) (number : ℕ) (page : List ℕ) → low ≤ number → number < high → length page ≡ 4096 → AreHeld low high held → AreHeld low high (put held number page)
put-keeps low high [] number page from to len a = (from, to, len, tt)
put-keeps low high (h ∷ hs) number page from to len a =
    by (nat_lt h.number number) (h.number == number) refl refl (λ next. put-keeps (h.number + 1) high hs number page next to len a.3)
  where
    by : (b e : Bool) → nat_lt h.number number ≡ b → (h.number == number) ≡ e → (h.number + 1 ≤ number → AreHeld (h.number + 1) high (put hs number page)) →
        AreHeld low high (cond b (h ∷ put hs number page) (cond e (record { number = number; page = page } ∷ hs) (record { number = number; page = page } ∷ h ∷ hs)))
    by true e p q f = (a.0, a.1, a.2, f (grind (arith, nat_tests)))
    by false true p q f =
        let same : h.number ≡ number = grind (arith, nat_tests) in
        (from, to, len, subst (λ n. AreHeld (n + 1) high hs) same a.3)
    by false false p q f =
        let after : number + 1 ≤ h.number = grind (arith, nat_tests) in
        (from, to, len, (after, a.1, a.2, a.3))

-- a page of zeros is not shown
pub put-visible : (held : List Held) (number : ℕ) (page : List ℕ) → is_blank page ≡ true → has_number held number ≡ false → visible (put held number page) ≡ visible held
put-visible [] number page blank none = ap (λ b. cons_option (cond b None (Some (record { block = number / 512; page = number % 512; bytes = page }))) []) blank
put-visible (h ∷ hs) number page blank none =
    by (nat_lt h.number number) (h.number == number) refl (or_parts (h.number == number) (has_number hs number) none).0 (put-visible hs number page blank (or_parts (h.number == number) (has_number hs number) none).1)
  where
    by : (b e : Bool) → (h.number == number) ≡ e → (h.number == number) ≡ false → visible (put hs number page) ≡ visible hs →
        visible (cond b (h ∷ put hs number page) (cond e (record { number = number; page = page } ∷ hs) (record { number = number; page = page } ∷ h ∷ hs))) ≡ visible (h ∷ hs)
    by true e p q r = ap (λ rest. cons_option (shown h) rest) r
    by false true p q r = cc
    by false false p q r = ap (λ b. cons_option (cond b None (Some (record { block = number / 512; page = number % 512; bytes = page }))) (visible (h ∷ hs))) blank

-- a page that is put is read at its addresses
pub put-read : (held : List Held) (number : ℕ) (page : List ℕ) (b o : ℕ) → held_at (put held number page) b o ≡ cond (is_address number b o) (slice_index page (o % 4096)) (held_at held b o)
put-read [] number page b o = refl
put-read (h ∷ hs) number page b o = by (nat_lt h.number number) (h.number == number) refl refl (is_address h.number b o) (is_address number b o) refl refl (put-read hs number page b o)
  where
    by : (l e : Bool) → nat_lt h.number number ≡ l → (h.number == number) ≡ e → (t u : Bool) → is_address h.number b o ≡ t → is_address number b o ≡ u →
        held_at (put hs number page) b o ≡ cond u (slice_index page (o % 4096)) (held_at hs b o) →
        held_at (cond l (h ∷ put hs number page) (cond e (record { number = number; page = page } ∷ hs) (record { number = number; page = page } ∷ h ∷ hs))) b o
        ≡ cond u (slice_index page (o % 4096)) (cond t (slice_index h.page (o % 4096)) (held_at hs b o))
    by true e p q true true s v r =
        let same : h.number ≡ number = one_address h.number number b o s v in
        absurd (grind (arith, nat_tests))
    by true e p q true false s v r = rw s refl
    by true e p q false u s v r = rw s r
    by false true p q t true s v r = rw v refl
    by false true p q t false s v r =
        let same : h.number ≡ number = grind (arith, nat_tests) in
        let apart : t ≡ false = sym s ∙ ap (λ n. is_address n b o) same ∙ v in
        rw (v, apart) refl
    by false false p q t true s v r = rw v refl
    by false false p q t false s v r = rw (v, s) refl

-- a page of zeros that was put where none was
pub makes-room : (held : List Held) (number : ℕ) (page : List ℕ) → is_blank page ≡ true → has_number held number ≡ false → MakesRoom held (put held number page)
makes-room held number page blank none =
    record {
      same = put-visible held number page blank none;
      keeps = λ n h. put-has held number page n ∙ right (number == n) (has_number held n) h;
    }
  where
    right : (a b : Bool) → b ≡ true → (a || b) ≡ true
    right true b h = refl
    right false b h = h

pub put-has-it : (held : List Held) (number : ℕ) (page : List ℕ) → has_number (put held number page) number ≡ true
put-has-it held number page = put-has held number page number ∙ ap (λ b. b || has_number held number) (let e : (number == number) ≡ true = grind (arith, nat_tests) in e)
