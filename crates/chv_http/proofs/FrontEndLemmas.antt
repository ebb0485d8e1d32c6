-- The function that finds the end of a front finds it.
use Rattle.std.proofs.Common.{◌≡◌, ◌≢◌, ℕ, zero, suc, ◌+◌, ◌-◌, ◌<◌, ◌≤◌, Bool, true, false, ◌&&◌, ◌||◌, not, cond, ◌==◌, nat_le, List, [], ◌∷◌, length, get_or, take, find, Some, None, refl, sym, ap, subst, ◌∙◌, inl, inr, arith}
use Rattle.std.proofs.Math.Nat.{eq-or-lt_of_le}
use Rattle.std.proofs.lemmas.Bool.{eqb-true, eq-eqb, leb-true, le-leb, cases_lt}
use Rattle.std.proofs.lemmas.List.{get_or-take, length-take}
use Rattle.std.specs.List.{list_any, range_with_len}
use Rattle.chv_defs_api.specs.HttpFront.{IsBehindText, Closes, IsFront, HasNoFront}
use Rattle.chv_defs_api.specs.StreamCut.{is_text, closes, front_end}
use Rattle.chv_http.proofs.LineLemmas.{both, other}
use Rattle.chv_http.proofs.FrontLemmas.{inside}

-- ---- the first number that passes a test

pub record Finds (p : ℕ → Bool) (a n x : ℕ) : Type 0 where
  pub passes : p x ≡ true
  pub low : a ≤ x
  pub high : x < a + n
  pub first : (m : ℕ) → a ≤ m → m < x → p m ≡ false

found_here : (p : ℕ → Bool) (a n x : ℕ) → p a ≡ true → a ≡ x → Finds p a (suc n) x
found_here p a n x here same = record {
  passes = subst (λ y. p y ≡ true) same here;
  low = omega arith;
  high = omega arith;
  first = λ m low below. absurd (omega arith);
}

found_later : (p : ℕ → Bool) (a n x : ℕ) → p a ≡ false → Finds p (a + 1) n x → Finds p a (suc n) x
found_later p a n x here more =
    let low = more.low in
    let high = more.high in
    record {
      passes = more.passes;
      low = omega arith;
      high = omega arith;
      first = λ m from below. elim (eq-or-lt_of_le from) as (λ _. p m ≡ false) [
        | inl same ↦ subst (λ y. p y ≡ false) same here
        | inr above ↦ more.first m (omega arith) below
      ];
    }

pub found : (p : ℕ → Bool) (n a x : ℕ) → find p (range_with_len a n) ≡ Some x → Finds p a n x
found p zero a x e = cc e
found p (suc n) a x e = go (p a) refl e (λ later. found p n (a + 1) x later)
  where
    go : (b : Bool) → p a ≡ b → cond b (Some a) (find p (range_with_len (a + 1) n)) ≡ Some x
        → (find p (range_with_len (a + 1) n) ≡ Some x → Finds p (a + 1) n x) → Finds p a (suc n) x
    go true here e more = found_here p a n x here cc
    go false here e more = found_later p a n x here (more e)

pub none_found : (p : ℕ → Bool) (n a : ℕ) → find p (range_with_len a n) ≡ None → (m : ℕ) → a ≤ m → m < a + n → p m ≡ false
none_found p zero a e m low high = absurd (omega arith)
none_found p (suc n) a e m low high =
    go (p a) refl e (λ later above. none_found p n (a + 1) later m above (omega arith))
  where
    go : (b : Bool) → p a ≡ b → cond b (Some a) (find p (range_with_len (a + 1) n)) ≡ None
        → (find p (range_with_len (a + 1) n) ≡ None → a + 1 ≤ m → p m ≡ false) → p m ≡ false
    go true here e more = cc e
    go false here e more = elim (eq-or-lt_of_le low) as (λ _. p m ≡ false) [
      | inl same ↦ subst (λ y. p y ≡ false) same here
      | inr above ↦ more e (omega arith)
    ]

-- ---- text before a place

text_is : (b : ℕ) → is_text b ≡ true → (b ≢ 13) × (b ≢ 10)
text_is b e =
    let parts = both (not (b == 13)) (not (b == 10)) e in
    (λ same. cc (same, parts.0), λ same. cc (same, parts.1))

text_yes : (b : ℕ) → b ≢ 13 → b ≢ 10 → is_text b ≡ true
text_yes b return feed =
    let x = other b 13 return in
    let y = other b 10 feed in
    rw (x, y) refl

any_is : (p : ℕ → Bool) (xs : List ℕ) → list_any p xs ≡ true → (k : ℕ) × (k < length xs) × (p (get_or xs k 0) ≡ true)
any_is p [] e = cc e
any_is p (x ∷ xs) e = go (p x) refl e (λ later. any_is p xs later)
  where
    go : (b : Bool) → p x ≡ b → (b || list_any p xs) ≡ true
        → (list_any p xs ≡ true → (k : ℕ) × (k < length xs) × (p (get_or xs k 0) ≡ true))
        → (k : ℕ) × (k < length (x ∷ xs)) × (p (get_or (x ∷ xs) k 0) ≡ true)
    go true here e more = (0, omega arith, here)
    go false here e more = let k = more e in (suc k.0, omega (arith, k.1), k.2)

any_yes : (p : ℕ → Bool) (xs : List ℕ) (k : ℕ) → k < length xs → p (get_or xs k 0) ≡ true → list_any p xs ≡ true
any_yes p [] k below e = absurd (omega arith)
any_yes p (x ∷ xs) zero below e = rw e refl
any_yes p (x ∷ xs) (suc k) below e = or_true (p x) (list_any p xs) (any_yes p xs k (omega arith) e)
  where
    or_true : (a b : Bool) → b ≡ true → (a || b) ≡ true
    or_true true b e = refl
    or_true false b e = e

text_before : (bytes : List ℕ) (i : ℕ) → list_any is_text (take i bytes) ≡ true → IsBehindText bytes i
text_before bytes i e =
    let k = any_is is_text (take i bytes) e in
    let below : k.0 < i = omega (arith, k.1, length-take i bytes) in
    let text = text_is (get_or bytes k.0 0) (sym (ap is_text (get_or-take i bytes k.0 0 below)) ∙ k.2) in
    (k.0, below, text.0, text.1)

before_text : (bytes : List ℕ) (i : ℕ) → i ≤ length bytes → IsBehindText bytes i → list_any is_text (take i bytes) ≡ true
before_text bytes i within text =
    any_yes is_text (take i bytes) text.0 (omega (arith, text.1, length-take i bytes))
    (ap is_text (get_or-take i bytes text.0 0 text.1) ∙ text_yes (get_or bytes text.0 0) text.2 text.3)

-- ---- the test for an end

eq_yes : (a b : ℕ) → a ≡ b → (a == b) ≡ true
eq_yes a b e = eq-eqb a b e

and_yes : (a b : Bool) → a ≡ true → b ≡ true → (a && b) ≡ true
and_yes a b x y = rw (x, y) refl

or_is : {A : Type 0} (a b : Bool) → (a || b) ≡ true → (a ≡ true → A) → (b ≡ true → A) → A
or_is true b e x y = x refl
or_is false b e x y = y e

or_left : (a b : Bool) → a ≡ true → (a || b) ≡ true
or_left a b e = rw e refl

or_right : (a b : Bool) → b ≡ true → (a || b) ≡ true
or_right true b e = refl
or_right false b e = e

abbrev by_feed : List ℕ → ℕ → Bool
by_feed bytes n =
    nat_le 2 n && get_or bytes (n - 2) 0 == 10 && get_or bytes (n - 1) 0 == 10 && list_any is_text (take (n - 2) bytes)

abbrev by_return : List ℕ → ℕ → Bool
by_return bytes n =
    nat_le 3 n && get_or bytes (n - 3) 0 == 10 && get_or bytes (n - 2) 0 == 13 && get_or bytes (n - 1) 0 == 10
    && list_any is_text (take (n - 3) bytes)

feed_is : (bytes : List ℕ) (n : ℕ) → by_feed bytes n ≡ true → Closes bytes n
feed_is bytes n e =
    let three = both (nat_le 2 n && get_or bytes (n - 2) 0 == 10 && get_or bytes (n - 1) 0 == 10) (list_any is_text (take (n - 2) bytes)) e in
    let two = both (nat_le 2 n && get_or bytes (n - 2) 0 == 10) (get_or bytes (n - 1) 0 == 10) three.0 in
    let one = both (nat_le 2 n) (get_or bytes (n - 2) 0 == 10) two.0 in
    let long : 2 ≤ n = leb-true 2 n one.0 in
    let next : n - 1 ≡ (n - 2) + 1 = omega arith in (
      n - 2,
      (eqb-true _ 10 one.1, inl (sym (ap (λ k. get_or bytes k 0) next) ∙ eqb-true _ 10 two.1, omega arith)),
      text_before bytes (n - 2) three.1,
    )

return_is : (bytes : List ℕ) (n : ℕ) → by_return bytes n ≡ true → Closes bytes n
return_is bytes n e =
    let four = both (nat_le 3 n && get_or bytes (n - 3) 0 == 10 && get_or bytes (n - 2) 0 == 13 && get_or bytes (n - 1) 0 == 10)
    (list_any is_text (take (n - 3) bytes)) e in
    let three = both (nat_le 3 n && get_or bytes (n - 3) 0 == 10 && get_or bytes (n - 2) 0 == 13) (get_or bytes (n - 1) 0 == 10) four.0 in
    let two = both (nat_le 3 n && get_or bytes (n - 3) 0 == 10) (get_or bytes (n - 2) 0 == 13) three.0 in
    let one = both (nat_le 3 n) (get_or bytes (n - 3) 0 == 10) two.0 in
    let long : 3 ≤ n = leb-true 3 n one.0 in
    let next : n - 2 ≡ (n - 3) + 1 = omega arith in
    let last : n - 1 ≡ (n - 3) + 2 = omega arith in (
      n - 3,
      (
        eqb-true _ 10 one.1,
        inr (
          sym (ap (λ k. get_or bytes k 0) next) ∙ eqb-true _ 13 two.1,
          sym (ap (λ k. get_or bytes k 0) last) ∙ eqb-true _ 10 three.1,
          omega arith,
        ),
      ),
      text_before bytes (n - 3) four.1,
    )

pub closes_is : (bytes : List ℕ) (n : ℕ) → closes bytes n ≡ true → Closes bytes n
closes_is bytes n e = or_is (by_feed bytes n) (by_return bytes n) e (feed_is bytes n) (return_is bytes n)

pub closes_yes : (bytes : List ℕ) (n : ℕ) → Closes bytes n → closes bytes n ≡ true
closes_yes bytes n c =
    let i = c.0 in
    let line = c.1 in
    let within : i ≤ length bytes = omega (arith, inside bytes i 10 line.0 (omega arith)) in
    elim line.1 as (λ _. closes bytes n ≡ true) [
      | inl feed ↦ (
          let at : n - 2 ≡ i = omega (arith, feed.1) in
          let next : n - 1 ≡ i + 1 = omega (arith, feed.1) in
          let long = le-leb 2 n (omega (arith, feed.1)) in
          let one = eq_yes (get_or bytes (n - 2) 0) 10 (ap (λ k. get_or bytes k 0) at ∙ line.0) in
          let two = eq_yes (get_or bytes (n - 1) 0) 10 (ap (λ k. get_or bytes k 0) next ∙ feed.0) in
          let text = ap (λ k. list_any is_text (take k bytes)) at ∙ before_text bytes i within c.2 in
          or_left (by_feed bytes n) (by_return bytes n) (and_yes _ _ (and_yes _ _ (and_yes _ _ long one) two) text)
          )
      | inr return ↦ (
          let at : n - 3 ≡ i = omega (arith, return.2) in
          let next : n - 2 ≡ i + 1 = omega (arith, return.2) in
          let last : n - 1 ≡ i + 2 = omega (arith, return.2) in
          let long = le-leb 3 n (omega (arith, return.2)) in
          let one = eq_yes (get_or bytes (n - 3) 0) 10 (ap (λ k. get_or bytes k 0) at ∙ line.0) in
          let two = eq_yes (get_or bytes (n - 2) 0) 13 (ap (λ k. get_or bytes k 0) next ∙ return.0) in
          let three = eq_yes (get_or bytes (n - 1) 0) 10 (ap (λ k. get_or bytes k 0) last ∙ return.1) in
          let text = ap (λ k. list_any is_text (take k bytes)) at ∙ before_text bytes i within c.2 in
          or_right (by_feed bytes n) (by_return bytes n)
          (and_yes _ _ (and_yes _ _ (and_yes _ _ (and_yes _ _ long one) two) three) text)
          )
    ]

-- ---- the end of the front

pub end_is : (bytes : List ℕ) (n : ℕ) → front_end bytes ≡ Some n → IsFront bytes n × (n ≤ 8192)
unfolding front_end
end_is bytes n e =
    let first = found (closes bytes) 8193 0 n e in
    let high = first.high in (
      record {
        closes = closes_is bytes n first.passes;
        first = λ m other. elim (cases_lt m n) as (λ _. n ≤ m) [
          | inl below ↦ cc (closes_yes bytes m other, first.first m (omega arith) below)
          | inr above ↦ above
        ];
      },
      omega arith,
    )

pub end_is_none : (bytes : List ℕ) → front_end bytes ≡ None → HasNoFront bytes
unfolding front_end
end_is_none bytes e n small other =
    cc (closes_yes bytes n other, none_found (closes bytes) 8193 0 e n (omega arith) (omega arith))
